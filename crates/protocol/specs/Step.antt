-- One call, and a list of calls: what is answered and what is left.
use Rattle.std.specs.Prelude.{ℕ, Bool, ◌||◌, List, [], ◌∷◌, Some, None, Option, ◌==◌, nat_lt}
use Rattle.terms.specs.declared.calls.Call.{Call}
use Rattle.terms.specs.declared.calls.Call.TheVariants.{Begin, Lock, Image, Commit, Abort}
use Rattle.terms.specs.Rule.{Rule}
use Rattle.protocol.specs.declared.refusals.Refusal.{Refusal}
use Rattle.protocol.specs.declared.refusals.Refusal.TheVariants.{RobustnessTooLarge, LimitOutOfRange}
use Rattle.protocol.specs.Begin.{begin_refusals, after_begin}
use Rattle.protocol.specs.Ending.{commit_refusals, after_commit, abort_refusals, after_abort, written}
use Rattle.protocol.specs.Holdings.{waits, new_waits, reach, jobs_of, position}
use Rattle.protocol.specs.Image.{image_refusals, after_image}
use Rattle.protocol.specs.Lists.{first}
use Rattle.protocol.specs.Lock.{lock_refusals, after_lock}
use Rattle.protocol.specs.Model.{Model}
use Rattle.protocol.specs.Pairing.{kept_pairs}
use Rattle.protocol.specs.Settling.{settle}

-- why no book is made with this robustness and this limit
abbrev pub new_refusals : ℕ → ℕ → List (Bool × Refusal)
new_refusals robustness limit = (nat_lt 120 robustness, RobustnessTooLarge) ∷ (limit == 0 || nat_lt 16 limit, LimitOutOfRange) ∷ []

-- the reasons to refuse a call, in the order of their numbers
unfoldable pub refusals : Rule → Model → Call → List (Bool × Refusal)
unfolding reach waits new_waits kept_pairs jobs_of
refusals r m (Begin p k a) = begin_refusals r m p k
refusals r m (Lock p o mode) = lock_refusals r m p o mode
refusals r m (Image p o) = image_refusals m p o
refusals r m (Commit p) = commit_refusals m p
refusals r m (Abort p) = abort_refusals m p

-- what a call is answered: the first reason that applies, or none
unfoldable pub answer : Rule → Model → Call → Option Refusal
unfolding refusals
answer r m c = first (refusals r m c)

-- what an accepted call leaves
unfoldable pub next : Rule → Model → Call → Model
unfolding kept_pairs position written settle
next r m (Begin p k a) = after_begin r m p k a
next r m (Lock p o mode) = after_lock r m p o mode
next r m (Image p o) = after_image r m p o
next r m (Commit p) = after_commit m p
next r m (Abort p) = after_abort m p

-- what a call leaves: a refused one changes nothing
unfoldable pub step : Rule → Model → Call → Model
unfolding answer next
step r m c = elim (answer r m c) [ None ↦ next r m c | Some x ↦ m ]

-- what a list of calls leaves
unfoldable pub run : Rule → Model → List Call → Model
unfolding step
run r m [] = m
run r m (c ∷ cs) = run r (step r m c) cs
