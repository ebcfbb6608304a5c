use Rattle.std.proofs.Common.{Bool, not, ◌&&◌, eqb, rules}
use Rattle.protocol.specs.Settling.{survives, settled}
use Rattle.tables.proofs.Sifting.{where_passes, compacted_test}
use Rattle.tables.proofs.ended.settle.Goals as goal

pub returns : goal.returns
returns g c =
    let a = g.T.Assuming in
    let t : g.row.T.Denot → Bool = λ x. not (eqb (g.T.NamesJob.named x) c.args.place) && survives c.args.ending c.args.place (a.taken x) in
    let f : g.row.T.Denot → g.row.T.Denot = λ x. a.assuming x (settled c.args.place (a.taken x)) in
    compacted_test t f {ys = c.compact.new.records} (c.compact.ensures (where_passes t f) (λ x r e. search rules))
