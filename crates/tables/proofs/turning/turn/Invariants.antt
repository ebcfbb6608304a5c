use Rattle.std.proofs.Common.{◌≡◌, ◌++◌, map, take, drop}
use Rattle.protocol.specs.Holdings.{turn}
use Rattle.tables.proofs.turning.turn.Given as goal

abbrev pub invariant-loop-holding : goal.invariant-loop-holding
invariant-loop-holding l = l.holdings ≡ map (turn l.place l.object) (take l.holding-index l.initial.holdings) ++ drop l.holding-index l.initial.holdings
