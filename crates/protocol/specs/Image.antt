-- Image: each execution of a job makes a version of an object that it has open.
use Rattle.std.specs.Prelude.{ℕ, ◌+◌, Bool, not, ◌&&◌, List, [], ◌∷◌, ◌++◌, map, length, Option, nat_le, nat_lt, slice_index}
use Rattle.std.specs.List.{list_any}
use Rattle.terms.specs.Rule.{Rule}
use Rattle.protocol.specs.declared.assumptions.Execution.{Execution}
use Rattle.protocol.specs.declared.assumptions.Version.{Version}
use Rattle.protocol.specs.declared.jobs.Job.{Job}
use Rattle.protocol.specs.declared.refusals.Refusal.{Refusal}
use Rattle.protocol.specs.declared.refusals.Refusal.TheVariants.{NoSuchObject, NotOpen, TooManyVersions}
use Rattle.protocol.specs.Assumptions.{commits_of, aborts_of, assume}
use Rattle.protocol.specs.Holdings.{opened, holds, position, turn}
use Rattle.protocol.specs.Lock.{no_live_job}
use Rattle.protocol.specs.Model.{Model, job_at, kind_of, argument_of, executions_of}
use Rattle.protocol.specs.Places.{single, join}

-- the object is not to be imaged by the job
abbrev pub image_barred : Model → ℕ → ℕ → List (Bool × Refusal)
image_barred m p o = (nat_le (length m.values) o, NoSuchObject) ∷ (not (list_any (λ h. holds p o h && opened h.state) m.holdings), NotOpen) ∷ []

-- with those that the job makes there would be too many versions
abbrev pub image_crowded : Model → ℕ → List (Bool × Refusal)
image_crowded m p = (nat_lt 256 (length m.versions + length (executions_of p m)), TooManyVersions) ∷ []

-- the tests of an image
abbrev pub image_refusals : Model → ℕ → ℕ → List (Bool × Refusal)
image_refusals m p o = no_live_job m p ++ image_barred m p o ++ image_crowded m p

-- the version of object o that an execution of job j makes, where o is the n-th object that the job holds: its own job is one of those that commit
abbrev pub version_by : Rule → Option Job → ℕ → ℕ → Execution → Version
version_by r j o n e = record {
  object = o;
  maker = e.job;
  value = r.give (kind_of j) (argument_of j) e.work o (slice_index e.met n);
  assumes = assume (join (commits_of e.assumes) (single e.job)) (aborts_of e.assumes);
}

-- the book with the holding turned and the new versions behind the others
abbrev pub after_image : Rule → Model → ℕ → ℕ → Model
after_image r m p o = record {
  robustness = m.robustness;
  limit = m.limit;
  values = m.values;
  jobs = m.jobs;
  holdings = map (turn p o) m.holdings;
  executions = m.executions;
  versions = m.versions ++ map (version_by r (job_at m p) o (position p o m.holdings)) (executions_of p m);
}
