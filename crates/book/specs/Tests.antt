-- What a function that tests whether a call is refused answers.
use Rattle.std.specs.Prelude.{◌≡◌, ℕ, Bool, List, Some, None, Result, MatchResult}
use Rattle.protocol.specs.declared.jobs.Job.{Job}
use Rattle.protocol.specs.declared.refusals.Refusal.{Refusal}
use Rattle.protocol.specs.Lists.{first}
use Rattle.protocol.specs.Model.{Model, job_at}

-- the first of the tests that passes refuses; where none passes, P holds of the value
abbrev pub Tested : {V : Type 0} → List (Bool × Refusal) → (V → Type 0) → Result V Refusal → Type 0
Tested tests P r = MatchResult r (λ v. (first tests ≡ None) × P v) (λ e. first tests ≡ Some e)

-- the first of the tests that passes refuses; where none passes, the job that runs at place p is found
abbrev pub FindsJob : List (Bool × Refusal) → Model → ℕ → Result Job Refusal → Type 0
FindsJob tests m p r = Tested tests (λ j. job_at m p ≡ Some j) r
