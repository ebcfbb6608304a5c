use Rattle.std.proofs.Common.{rules}
use Rattle.tables.specs.Items.{items}
use Rattle.tables.specs.Within.{job_of_execution}
use Rattle.book.proofs.Absent.{counted, none_there}
use Rattle.book.proofs.state.Book.execution_count.Goals as goal

pub returns : goal.returns
returns c =
    let b = c.args.self.now in
    counted job_of_execution (items b.executions) c.args.place c.try_from.result c.map_or.result _ c.try_from.ensures c.map_or.ensures (λ here k. search rules) (none_there 16 job_of_execution b.jobs (items b.executions) b.places b.runs c.args.place)
