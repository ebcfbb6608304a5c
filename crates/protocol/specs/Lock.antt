-- Lock: a job comes to hold an object, to read or to write.
use Rattle.std.specs.Prelude.{ℕ, Bool, not, ◌&&◌, List, [], ◌∷◌, ◌++◌, length, ◌==◌, nat_le, nat_lt, is_some, filter}
use Rattle.std.specs.List.{list_any}
use Rattle.terms.specs.declared.modes.Mode.{Mode}
use Rattle.terms.specs.Rule.{Rule}
use Rattle.protocol.specs.declared.refusals.Refusal.{Refusal}
use Rattle.protocol.specs.declared.refusals.Refusal.TheVariants.{NoSuchPlace, NoJob, LostJob, NoSuchObject, AlreadyHeld, TooManyHeld, OpenElsewhere, WouldWaitForItself, NoExecution, TooManyExecutions}
use Rattle.protocol.specs.Holdings.{opened, holds, locked, would_ring}
use Rattle.protocol.specs.Lists.{is_nil}
use Rattle.protocol.specs.Model.{Model, job_at, names, executions_of, holding_count}
use Rattle.protocol.specs.Pairing.{kept_pairs}

-- no job runs at the place
abbrev pub no_job : Model → ℕ → List (Bool × Refusal)
no_job m p = (nat_lt 15 p, NoSuchPlace) ∷ (not (is_some (job_at m p)), NoJob) ∷ []

-- no job runs at the place, or it is lost
abbrev pub no_live_job : Model → ℕ → List (Bool × Refusal)
no_live_job m p = (nat_lt 15 p, NoSuchPlace) ∷ (not (is_some (job_at m p)), NoJob) ∷ (is_nil (executions_of p m), LostJob) ∷ []

-- the job may not come to hold the object
abbrev pub lock_barred : Model → ℕ → ℕ → Mode → List (Bool × Refusal)
lock_barred m p o mode =
    (nat_le (length m.values) o, NoSuchObject) ∷ (list_any (holds p o) m.holdings, AlreadyHeld) ∷ (nat_le 8 (holding_count m p), TooManyHeld)
    ∷ (list_any (λ h. (h.object == o) && opened h.state) m.holdings, OpenElsewhere) ∷ (would_ring m.holdings (locked p o mode), WouldWaitForItself) ∷ []

-- the lock would keep no execution, or too many
abbrev pub lock_crowded : Rule → Model → ℕ → ℕ → Mode → List (Bool × Refusal)
lock_crowded r m p o mode =
    let n = length (kept_pairs r m p o mode) in
    ((n == 0), NoExecution) ∷ (nat_lt m.limit n, TooManyExecutions) ∷ []

-- the tests of a lock
abbrev pub lock_refusals : Rule → Model → ℕ → ℕ → Mode → List (Bool × Refusal)
lock_refusals r m p o mode = no_live_job m p ++ lock_barred m p o mode ++ lock_crowded r m p o mode

-- the book with the new holding, and the kept pairs in place of the job's executions
abbrev pub after_lock : Rule → Model → ℕ → ℕ → Mode → Model
after_lock r m p o mode = record {
  robustness = m.robustness;
  limit = m.limit;
  values = m.values;
  jobs = m.jobs;
  holdings = m.holdings ++ locked p o mode ∷ [];
  executions = filter (λ e. not (names p e)) m.executions ++ kept_pairs r m p o mode;
  versions = m.versions;
}
