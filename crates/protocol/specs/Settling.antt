-- Settling: what becomes of the records once a job has ended.
use Rattle.std.specs.Prelude.{ℕ, Bool, not, ◌&&◌, List, map, None, ◌==◌, slice_set, filter}
use Rattle.protocol.specs.declared.assumptions.Assumption.{Assumption}
use Rattle.protocol.specs.declared.assumptions.Execution.{Execution}
use Rattle.protocol.specs.declared.assumptions.Version.{Version}
use Rattle.protocol.specs.declared.jobs.Ending.{Ending}
use Rattle.protocol.specs.declared.jobs.Ending.TheVariants.{Committed, Aborted}
use Rattle.protocol.specs.Assumptions.{commits_of, aborts_of, assume}
use Rattle.protocol.specs.Model.{Model}
use Rattle.protocol.specs.Places.{has, single, without}

-- the jobs that an assumption takes to end the other way
abbrev pub denied : Ending → Assumption → ℕ
denied Committed a = aborts_of a
denied Aborted a = commits_of a

-- the assumption did not take job k to end the other way
abbrev pub survives : Ending → ℕ → Assumption → Bool
survives how k a = not (has (denied how a) k)

-- job k is taken out of both sets
abbrev pub settled : ℕ → Assumption → Assumption
settled k a = assume (without (commits_of a) (single k)) (without (aborts_of a) (single k))

-- an execution that forgets job k
abbrev pub settled_execution : ℕ → Execution → Execution
settled_execution k e = record { job = e.job; assumes = settled k e.assumes; work = e.work; tally = e.tally; met = e.met }

-- a version that forgets job k
abbrev pub settled_version : ℕ → Version → Version
settled_version k v = record { object = v.object; maker = v.maker; value = v.value; assumes = settled k v.assumes }

-- the book after job k has ended and left these values in the store: its own records are gone, and so are those that took it to end the other way;
-- all others forget it
unfoldable pub settle : Ending → ℕ → List ℕ → Model → Model
settle how k values m = record {
  robustness = m.robustness;
  limit = m.limit;
  values = values;
  jobs = slice_set m.jobs k None;
  holdings = filter (λ h. not (h.job == k)) m.holdings;
  executions = map (settled_execution k) (filter (λ e. not (e.job == k) && survives how k e.assumes) m.executions);
  versions = map (settled_version k) (filter (λ v. not (v.maker == k) && survives how k v.assumes) m.versions);
}
