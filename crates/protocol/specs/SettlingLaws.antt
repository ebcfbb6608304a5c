-- Settling, told by the members of the sets: which records are left once a job has ended, and what they are then.
use Rattle.std.specs.Prelude.{◌≡◌, ℕ, true, not, ◌&&◌, ◌↔◌, List, None, ◌==◌, ◌≢◌}
use Rattle.terms.specs.declared.calls.Call.TheVariants.{Commit, Abort}
use Rattle.terms.specs.Rule.{Rule}
use Rattle.protocol.specs.declared.assumptions.Assumption.{Assumption}
use Rattle.protocol.specs.declared.assumptions.Execution.{Execution}
use Rattle.protocol.specs.declared.assumptions.Version.{Version}
use Rattle.protocol.specs.declared.holdings.Holding.{Holding}
use Rattle.protocol.specs.declared.jobs.Ending.{Ending}
use Rattle.protocol.specs.declared.jobs.Ending.TheVariants.{Committed, Aborted}
use Rattle.protocol.specs.Assumptions.{commits_of, aborts_of}
use Rattle.protocol.specs.Lists.{In, Behind}
use Rattle.protocol.specs.Model.{Model, job_at}
use Rattle.protocol.specs.Places.{has}
use Rattle.protocol.specs.Step.{answer, step}

-- the assumption took job k to end the other way
abbrev pub TookOther : Ending → ℕ → Assumption → Type 0
TookOther Committed k a = has (aborts_of a) k ≡ true
TookOther Aborted k a = has (commits_of a) k ≡ true

-- b has the sets of a, with job k in neither
pub record TakenOut (k : ℕ) (a b : Assumption) : Type 0 where
  pub commits : (q : ℕ) → has (commits_of b) q ≡ (has (commits_of a) q && not (k == q))
  pub aborts : (q : ℕ) → has (aborts_of b) q ≡ (has (aborts_of a) q && not (k == q))

-- x is what is left of execution e: it is another job's, did not take the other ending, and changes in its sets alone
pub record LeftExecution (how : Ending) (k : ℕ) (e x : Execution) : Type 0 where
  pub other : e.job ≡ k → ⊥
  pub agrees : TookOther how k e.assumes → ⊥
  pub sets : TakenOut k e.assumes x.assumes
  pub same_job : x.job ≡ e.job
  pub same_work : x.work ≡ e.work
  pub same_tally : x.tally ≡ e.tally
  pub same_met : x.met ≡ e.met

-- w is what is left of version v
pub record LeftVersion (how : Ending) (k : ℕ) (v w : Version) : Type 0 where
  pub other : v.maker ≡ k → ⊥
  pub agrees : TookOther how k v.assumes → ⊥
  pub sets : TakenOut k v.assumes w.assumes
  pub same_object : w.object ≡ v.object
  pub same_maker : w.maker ≡ v.maker
  pub same_value : w.value ≡ v.value

-- h is left of holding g: it is another job's
pub record LeftHolding (k : ℕ) (g h : Holding) : Type 0 where
  pub other : g.job ≡ k → ⊥
  pub same : h ≡ g

-- those after are all that is left of those before, in their order
pub record Leaves {A : Type 0} (Left : A → A → Type 0) (before after : List A) : Type 0 where
  pub members : (x : A) → In x after ↔ ((a : A) × In a before × Left a x)
  pub order : (x y : A) → Behind x y after ↔ ((a b : A) × Behind a b before × Left a x × Left b y)

-- of the book n that is left of the book m once job k has ended this way
pub record Settled (how : Ending) (k : ℕ) (m n : Model) : Type 0 where
  pub executions : Leaves (LeftExecution how k) m.executions n.executions
  pub versions : Leaves (LeftVersion how k) m.versions n.versions
  pub holdings : Leaves (LeftHolding k) m.holdings n.holdings
  pub ended : job_at n k ≡ None
  pub others : (q : ℕ) → (q ≢ k) → job_at n q ≡ job_at m q

-- both endings leave what they should
pub record SettlingLaws : Type 0 where
  pub commit : (r : Rule) (m : Model) (p : ℕ) → answer r m (Commit p) ≡ None → Settled Committed p m (step r m (Commit p))
  pub abort : (r : Rule) (m : Model) (p : ℕ) → answer r m (Abort p) ≡ None → Settled Aborted p m (step r m (Abort p))
