use Rattle.std.proofs.Common.{arith}
use Rattle.tables.proofs.Tables.{shrunk}
use Rattle.tables.proofs.table.Table.settle.Goals as goal

pub invariant_of-self : goal.invariant_of-self
invariant_of-self g c = let t = shrunk c.args.self.now c.settle-self.ensures (omega arith) in record { within = t.within; long = t.long; rest = t.rest }
