use Rattle.std.proofs.Common.{◌+◌, ◌∙◌, length, arith}
use Rattle.std.proofs.lemmas.Slice.{drop-put_mid}
use Rattle.tables.proofs.Tables.{rest_from}
use Rattle.tables.proofs.table.Table.extend.Goals as goal

pub invariant_of-self-clause-rest : goal.invariant_of-self-clause-rest
invariant_of-self-clause-rest g c =
    let t = c.args.self.now in
    let end = t.count + length c.args.more.now in
    drop-put_mid t.count _ t.records c.copy_from_slice.new.self end (omega arith) (omega arith) (omega arith) ∙ rest_from t end (omega arith)
