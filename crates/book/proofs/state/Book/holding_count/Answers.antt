use Rattle.std.proofs.Common.{rules}
use Rattle.tables.specs.Items.{items}
use Rattle.tables.specs.Within.{job_of_holding}
use Rattle.book.proofs.Absent.{counted, none_there}
use Rattle.book.proofs.state.Book.holding_count.Goals as goal

pub returns : goal.returns
returns c =
    let b = c.args.self.now in
    counted job_of_holding (items b.holdings) c.args.place c.try_from.result c.map_or.result _ c.try_from.ensures c.map_or.ensures (λ here k. search rules) (none_there 8 job_of_holding b.jobs (items b.holdings) b.places b.holds c.args.place)
