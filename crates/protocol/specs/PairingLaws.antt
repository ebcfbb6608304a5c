-- What an object offers, and which executions a lock leaves, told by the members of their sets.
use Rattle.std.specs.Prelude.{◌≡◌, ℕ, ◌+◌, ◌≤◌, Bool, true, false, not, ◌&&◌, ◌||◌, ◌⊎◌, ◌↔◌, List, map, length, None, ◌≢◌, slice_set, flat_map, filter}
use Rattle.terms.specs.declared.calls.Call.TheVariants.{Lock}
use Rattle.terms.specs.declared.modes.Mode.{Mode}
use Rattle.terms.specs.Rule.{Rule}
use Rattle.protocol.specs.declared.assumptions.Execution.{Execution}
use Rattle.protocol.specs.declared.assumptions.Offer.{Offer}
use Rattle.protocol.specs.declared.assumptions.Version.{Version}
use Rattle.protocol.specs.declared.holdings.Holding.{Holding}
use Rattle.protocol.specs.Assumptions.{commits_of, aborts_of}
use Rattle.protocol.specs.Holdings.{turned}
use Rattle.protocol.specs.Lists.{In, Behind}
use Rattle.protocol.specs.Model.{Model, job_at, kind_of, argument_of, holding_count, executions_of}
use Rattle.protocol.specs.Pairing.{offer, stored_offer, offers, pairing, is_kept}
use Rattle.protocol.specs.Places.{has}
use Rattle.protocol.specs.SetLaws.{places, Apart}
use Rattle.protocol.specs.Step.{answer, step}

-- job q is a maker of object o: it has a turned holding of it
pub record Makes (hs : List Holding) (o q : ℕ) : Type 0 where
  pub holding : Holding
  pub there : In holding hs
  pub job : holding.job ≡ q
  pub object : holding.object ≡ o
  pub turns : turned holding.state ≡ true

-- job q is a maker of object o and locked it after job p did
pub record MakesLater (hs : List Holding) (o p q : ℕ) : Type 0 where
  pub earlier : Holding
  pub later : Holding
  pub order : Behind earlier later hs
  pub of : earlier.job ≡ p
  pub object : earlier.object ≡ o
  pub by : later.job ≡ q
  pub same : later.object ≡ o
  pub turns : turned later.state ≡ true

-- what each offer takes to commit and to abort
pub record OfferLaws : Type 0 where
  -- the stored value takes no job to commit, and every maker to abort
  pub stored_commits : (m : Model) (o k : ℕ) → has (commits_of (stored_offer m o).assumes) k ≡ false
  pub stored_aborts : (m : Model) (o k : ℕ) → (has (aborts_of (stored_offer m o).assumes) k ≡ true) ↔ Makes m.holdings o k
  -- a version takes to commit what it has, and to abort what it has and every later maker
  pub version_commits : (hs : List Holding) (o k : ℕ) (v : Version) → has (commits_of (offer hs o v).assumes) k ≡ has (commits_of v.assumes) k
  pub version_aborts : (hs : List Holding) (o k : ℕ) (v : Version)
      → (has (aborts_of (offer hs o v).assumes) k ≡ true) ↔ ((has (aborts_of v.assumes) k ≡ true) ⊎ MakesLater hs o v.maker k)

-- job k is taken to abort by the offer, and was not by the execution
abbrev pub newly : Execution → Offer → ℕ → Bool
newly e f k = has (aborts_of f.assumes) k && not (has (aborts_of e.assumes) k)

-- x is what execution e of job p becomes where it meets the offer f of object o
pub record Meets (r : Rule) (m : Model) (p o : ℕ) (mode : Mode) (e : Execution) (f : Offer) (x : Execution) : Type 0 where
  pub own : x.job ≡ p
  -- the sets are joined
  pub commits : (k : ℕ) → has (commits_of x.assumes) k ≡ (has (commits_of e.assumes) k || has (commits_of f.assumes) k)
  pub aborts : (k : ℕ) → has (aborts_of x.assumes) k ≡ (has (aborts_of e.assumes) k || has (aborts_of f.assumes) k)
  -- the tally grows by the number of jobs newly taken to abort
  pub counts : x.tally ≡ e.tally + length (filter (newly e f) places)
  pub works : x.work ≡ r.take (kind_of (job_at m p)) (argument_of (job_at m p)) e.work o mode f.value
  -- the value met stands behind those met before
  pub meets : x.met ≡ slice_set e.met (holding_count m p) f.value

-- no job is in both sets, and the tally is at most the robustness
pub record Stays (robustness : ℕ) (x : Execution) : Type 0 where
  pub apart : Apart (commits_of x.assumes) (aborts_of x.assumes)
  pub few : x.tally ≤ robustness

-- of the book n that the lock of object o by job p leaves of the book m
pub record LockLaws (r : Rule) (m : Model) (p o : ℕ) (mode : Mode) (n : Model) : Type 0 where
  -- the job's executions are the pairs of an execution and an offer that stay
  pub members : (x : Execution) → In x (executions_of p n) ↔ ((e : Execution) × (f : Offer) × In e (executions_of p m) × In f (offers m o) × Meets r m p o mode e f x × Stays m.robustness x)
  -- a pair of an earlier execution stands before one of a later execution
  pub outer : (d e : Execution) (f g : Offer) (x y : Execution) → Behind d e (executions_of p m) → In f (offers m o) → In g (offers m o)
      → Meets r m p o mode d f x → Stays m.robustness x → Meets r m p o mode e g y → Stays m.robustness y → Behind x y (executions_of p n)
  -- of the pairs of one execution, that with an earlier offer stands before that with a later one
  pub inner : (e : Execution) (f g : Offer) (x y : Execution) → In e (executions_of p m) → Behind f g (offers m o)
      → Meets r m p o mode e f x → Stays m.robustness x → Meets r m p o mode e g y → Stays m.robustness y → Behind x y (executions_of p n)
  -- so the list is: for each execution each offer, in order, and of these pairs those that stay
  pub listed : executions_of p n ≡ filter (is_kept m.robustness) (flat_map (λ e. map (pairing r m p o mode e) (offers m o)) (executions_of p m))
  -- the executions of the other jobs are as they were
  pub others : (q : ℕ) → (q ≢ p) → executions_of q n ≡ executions_of q m

-- what an object offers, and what each accepted lock leaves
abbrev pub PairingLaws : Type 0
PairingLaws = OfferLaws × ((r : Rule) (m : Model) (p o : ℕ) (mode : Mode) → answer r m (Lock p o mode) ≡ None → LockLaws r m p o mode (step r m (Lock p o mode)))
