-- The plain run of one job's calls: one more call at the end, and as many values as before.
use Rattle.std.proofs.Common.{◌≡◌, List, [], ◌∷◌, ◌++◌, length, refl, ◌∙◌, length-set}
use Rattle.terms.specs.declared.calls.Call.{Call}
use Rattle.terms.specs.declared.calls.Call.TheVariants.{Image}
use Rattle.protocol.specs.PlainRun.{Playing, play_one, play}
use Rattle.terms.specs.Rule.{Rule}

pub play_push : (r : Rule) (s : Playing) (cs : List Call) (c : Call) → play r s (cs ++ c ∷ []) ≡ play_one r (play r s cs) c
unfolding play
play_push r s [] c = refl
play_push r s (d ∷ cs) c = play_push r (play_one r s d) cs c

length_one : (r : Rule) (s : Playing) (c : Call) → length (play_one r s c).values ≡ length s.values
length_one r s (Image p o) = length-set s.values o _
length_one r s _ = refl

pub length_play : (r : Rule) (s : Playing) (cs : List Call) → length (play r s cs).values ≡ length s.values
unfolding play
length_play r s [] = refl
length_play r s (c ∷ cs) = length_play r (play_one r s c) cs ∙ length_one r s c
