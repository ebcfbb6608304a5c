-- What a job has when it commits, and what is then in the store.
use Rattle.std.specs.Prelude.{◌≡◌, ℕ, false, ◌&&◌, List, [], ◌∷◌, length, None, ◌==◌, slice_index, slice_index_or, filter}
use Rattle.terms.specs.declared.calls.Call.{Call}
use Rattle.terms.specs.declared.calls.Call.TheVariants.{Commit}
use Rattle.terms.specs.Rule.{Rule}
use Rattle.protocol.specs.declared.assumptions.Execution.{Execution}
use Rattle.protocol.specs.declared.assumptions.Version.{Version}
use Rattle.protocol.specs.Assumptions.{commits_of, aborts_of}
use Rattle.protocol.specs.Model.{Model, new, executions_of}
use Rattle.protocol.specs.PairingLaws.{Makes}
use Rattle.protocol.specs.Places.{has}
use Rattle.protocol.specs.Step.{answer, step, run}

-- the versions of object o by job p
abbrev pub versions_by : ℕ → ℕ → Model → List Version
versions_by p o m = filter (λ v. (v.maker == p) && v.object == o) m.versions

-- the one execution, which takes nothing of any job
pub record OneExecution (m : Model) (p : ℕ) : Type 0 where
  pub execution : Execution
  pub alone : executions_of p m ≡ execution ∷ []
  pub commits : (k : ℕ) → has (commits_of execution.assumes) k ≡ false
  pub aborts : (k : ℕ) → has (aborts_of execution.assumes) k ≡ false

-- the one version of object o, whose value is then in the store
pub record OneVersion (m : Model) (p o : ℕ) (n : Model) : Type 0 where
  pub version : Version
  pub alone : versions_by p o m ≡ version ∷ []
  pub written : slice_index_or n.values o 0 ≡ version.value

-- of the book m in which job p commits, and the book n that is left
pub record Committing (m : Model) (p : ℕ) (n : Model) : Type 0 where
  pub one : OneExecution m p
  -- for each object that the job has turned
  pub writes : (o : ℕ) → Makes m.holdings o p → OneVersion m p o n
  -- every other object keeps its value, and there are as many objects as before
  pub others : (o : ℕ) → (Makes m.holdings o p → ⊥) → slice_index n.values o ≡ slice_index m.values o
  pub long : length n.values ≡ length m.values

-- after every list of calls on a new book, for each commit that is then accepted
abbrev pub CommitLaws : Type 0
CommitLaws =
    (r : Rule) (robustness limit : ℕ) (first : List ℕ) (cs : List Call) (p : ℕ) → answer r (run r (new robustness limit first) cs) (Commit p) ≡ None
    → Committing (run r (new robustness limit first) cs) p (step r (run r (new robustness limit first) cs) (Commit p))
