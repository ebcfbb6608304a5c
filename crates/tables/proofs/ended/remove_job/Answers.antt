use Rattle.std.proofs.Common.{Bool, not, eqb, rules}
use Rattle.tables.proofs.Sifting.{where_passes, compacted_filter}
use Rattle.tables.proofs.ended.remove_job.Goals as goal

pub returns : goal.returns
returns g c =
    let t : g.row.T.Denot → Bool = λ x. not (eqb (g.T.NamesJob.named x) c.args.place) in
    compacted_filter t {ys = c.compact.new.records} (c.compact.ensures (where_passes t (λ x. x)) (λ x r e. search rules))
