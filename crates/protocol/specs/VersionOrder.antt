-- In which order the versions of an object stand.
use Rattle.std.specs.Prelude.{◌≡◌, ℕ, true, ◌||◌, List, ◌++◌, None, ◌==◌, ◌≢◌, slice_index}
use Rattle.std.specs.List.{AllZip}
use Rattle.terms.specs.declared.calls.Call.{Call}
use Rattle.terms.specs.declared.calls.Call.TheVariants.{Image}
use Rattle.terms.specs.Rule.{Rule}
use Rattle.protocol.specs.declared.assumptions.Execution.{Execution}
use Rattle.protocol.specs.declared.assumptions.Version.{Version}
use Rattle.protocol.specs.declared.holdings.Holding.{Holding}
use Rattle.protocol.specs.Assumptions.{commits_of, aborts_of}
use Rattle.protocol.specs.Holdings.{turned, position}
use Rattle.protocol.specs.Lists.{Behind}
use Rattle.protocol.specs.Model.{Model, new, job_at, kind_of, argument_of, executions_of}
use Rattle.protocol.specs.Places.{has}
use Rattle.protocol.specs.Step.{answer, step, run}

-- jobs p and q are makers of object o, and p locked it before q did
pub record LockedBefore (hs : List Holding) (o p q : ℕ) : Type 0 where
  pub earlier : Holding
  pub later : Holding
  pub order : Behind earlier later hs
  pub of : earlier.job ≡ p
  pub by : later.job ≡ q
  pub there : earlier.object ≡ o
  pub same : later.object ≡ o
  pub both : (turned earlier.state ≡ true) × (turned later.state ≡ true)

-- v is the version of object o that execution e of job p makes: its own job is one of those taken to commit
pub record MakesVersion (r : Rule) (m : Model) (p o : ℕ) (e : Execution) (v : Version) : Type 0 where
  pub object : v.object ≡ o
  pub maker : v.maker ≡ p
  pub gives : v.value ≡ r.give (kind_of (job_at m p)) (argument_of (job_at m p)) e.work o (slice_index e.met (position p o m.holdings))
  pub commits : (k : ℕ) → has (commits_of v.assumes) k ≡ (has (commits_of e.assumes) k || p == k)
  pub aborts : (k : ℕ) → has (aborts_of v.assumes) k ≡ has (aborts_of e.assumes) k

-- the order of versions, and which ones an image adds
pub record VersionOrder : Type 0 where
  -- after every list of calls, versions of one object by two makers stand in the order in which these locked it
  pub makers : (r : Rule) (robustness limit : ℕ) (first : List ℕ) (cs : List Call) (v w : Version) → Behind v w (run r (new robustness limit first) cs).versions
      → v.object ≡ w.object → (v.maker ≢ w.maker) → LockedBefore (run r (new robustness limit first) cs).holdings v.object v.maker w.maker
  -- an image puts behind the versions one for each execution of the job, in their order
  pub executions : (r : Rule) (m : Model) (p o : ℕ) → answer r m (Image p o) ≡ None
      → (vs : List Version) × ((step r m (Image p o)).versions ≡ m.versions ++ vs) × AllZip (MakesVersion r m p o) (executions_of p m) vs
