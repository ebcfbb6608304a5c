use Rattle.std.proofs.Common.{◌≡◌, length, vec_items}
use Rattle.planner.specs.Packs.{packs_after, packs_of, lines_of}
use Rattle.planner.proofs.packs.read_packs.Given as goal

-- the lines that are left bring the packs to their end
abbrev pub invariant-loop-rest : goal.invariant-loop-rest
invariant-loop-rest l = packs_after (vec_items l.packs) (lines_of l.rest) ≡ packs_of l.text

abbrev pub decreases-loop-rest : goal.decreases-loop-rest
decreases-loop-rest l = length l.rest
