use Rattle.holders.proofs.Gathered.{Gathered}
use Rattle.holders.proofs.waits.waits_of.Given as goal

abbrev pub invariant-loop-i : goal.invariant-loop-i
invariant-loop-i l = Gathered l.place l.holdings l.set.mask l.i
