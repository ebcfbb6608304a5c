-- All worked cases agree with the rules, by computation.
use Rattle.std.proofs.Common.{refl}
use Rattle.protocol.specs.Cases.{Agree, agree}
use Rattle.protocol.specs.Holdings.{makers, later_makers}
use Rattle.protocol.specs.Places.{has, single, join, without, disjoint, size}

pub all_agree : Agree
unfolding agree has join disjoint size without makers single later_makers
all_agree start take give x y = refl
