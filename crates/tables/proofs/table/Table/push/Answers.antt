use Rattle.std.proofs.Common.{◌+◌, ◌∙◌, arith}
use Rattle.std.proofs.lemmas.List.{drop-set-lt, length-set}
use Rattle.tables.proofs.Tables.{rest_from}
use Rattle.tables.proofs.table.Table.push.Goals as goal

pub invariant_of-self-clause-long : goal.invariant_of-self-clause-long
invariant_of-self-clause-long g c = let t = c.args.self.now in length-set t.records t.count c.args.record ∙ t.long

pub invariant_of-self-clause-rest : goal.invariant_of-self-clause-rest
invariant_of-self-clause-rest g c =
    let t = c.args.self.now in
    let next = t.count + 1 in
    drop-set-lt next t.records t.count c.args.record (omega arith) ∙ rest_from t next (omega arith)
