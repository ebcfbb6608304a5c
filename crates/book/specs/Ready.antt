-- The ready question: some running job that waits for none, or none where no job runs.
use Rattle.std.specs.Prelude.{◌≡◌, ℕ, Bool, true, false, ◌&&◌, List, Option, MatchOption, ◌==◌, is_some}
use Rattle.protocol.specs.declared.holdings.Holding.{Holding}
use Rattle.protocol.specs.Holdings.{waits}
use Rattle.protocol.specs.Model.{Model, job_at}
use Rattle.protocol.specs.Waiting.{WaitsFor}

-- a job runs at place p, and waits for none
abbrev pub is_free : Model → ℕ → Bool
is_free m p = is_some (job_at m p) && waits m.holdings p == 0

-- what the answer says, by which places have a running job and what is held: none exactly where no job runs, else a running job that waits for none
abbrev pub NamesReady : (ℕ → Bool) → List Holding → Option ℕ → Type 0
NamesReady runs hs answer = MatchOption answer ((p : ℕ) → runs p ≡ false) (λ p. (runs p ≡ true) × ((k : ℕ) → WaitsFor hs p k → ⊥))

abbrev pub Ready : Model → Option ℕ → Type 0
Ready m answer = NamesReady (λ p. is_some (job_at m p)) m.holdings answer
