use Rattle.std.proofs.Common.{◌≡◌, ◌≤◌, Option}
use Rattle.tables.proofs.Sifting.{Sifting}
use Rattle.tables.proofs.ended.compact.Given as goal

abbrev pub invariant-loop-i : goal.invariant-loop-i
invariant-loop-i g l =
    (l.live ≤ l.i)
    × ((rule : g.row.T.Denot → Option g.row.T.Denot) → ((x : g.row.T.Denot) (r : Option g.row.T.Denot) → goal.F-post g l.left x r → r ≡ rule x) → Sifting rule l.initial.records l.records l.live l.i)
