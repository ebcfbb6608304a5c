use Rattle.holders.proofs.OneMore.{Waiting}
use Rattle.holders.proofs.waits.waiting.Given as goal

abbrev pub invariant-loop-i : goal.invariant-loop-i
invariant-loop-i l = Waiting l.holdings l.sets l.i
