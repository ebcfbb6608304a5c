-- Commit and abort: a job ends.
use Rattle.std.specs.Prelude.{ℕ, Bool, true, false, not, ◌&&◌, List, [], ◌∷◌, ◌++◌, ◌==◌, slice_index, slice_set}
use Rattle.std.specs.List.{list_any}
use Rattle.protocol.specs.declared.assumptions.Version.{Version}
use Rattle.protocol.specs.declared.holdings.Holding.{Holding}
use Rattle.protocol.specs.declared.jobs.Ending.TheVariants.{Committed, Aborted}
use Rattle.protocol.specs.declared.refusals.Refusal.{Refusal}
use Rattle.protocol.specs.declared.refusals.Refusal.TheVariants.{HasOpen, Waits}
use Rattle.protocol.specs.Holdings.{opened, turned, held_by, waits}
use Rattle.protocol.specs.Lock.{no_job, no_live_job}
use Rattle.protocol.specs.Model.{Model}
use Rattle.protocol.specs.Settling.{settle}

-- the job is not done, or not the next to commit
abbrev pub commit_barred : Model → ℕ → List (Bool × Refusal)
commit_barred m p = (list_any (λ h. held_by p h && opened h.state) m.holdings, HasOpen) ∷ (not (waits m.holdings p == 0), Waits) ∷ []

-- the tests of a commit
abbrev pub commit_refusals : Model → ℕ → List (Bool × Refusal)
commit_refusals m p = no_live_job m p ++ commit_barred m p

-- the value of job p's version of object o, or d where it made none
abbrev pub made_value : ℕ → ℕ → List Version → ℕ → ℕ
made_value p o [] d = d
made_value p o (v ∷ vs) d = elim (v.maker == p && v.object == o) [ true ↦ v.value | false ↦ made_value p o vs d ]

-- the values once those of job p's versions are written, in the order of locking
unfoldable pub written : ℕ → List Version → List Holding → List ℕ → List ℕ
written p vs [] xs = xs
written p vs (h ∷ hs) xs =
    elim (held_by p h && turned h.state) [ true ↦ written p vs hs (slice_set xs h.object (made_value p h.object vs (slice_index xs h.object))) | false ↦ written p vs hs xs ]

-- the book after job p has committed: what it made is written
abbrev pub after_commit : Model → ℕ → Model
after_commit m p = settle Committed p (written p m.versions m.holdings m.values) m

-- the tests of an abort
abbrev pub abort_refusals : Model → ℕ → List (Bool × Refusal)
abort_refusals m p = no_job m p

-- the book after job p has aborted: the values stay
abbrev pub after_abort : Model → ℕ → Model
after_abort m p = settle Aborted p m.values m
