-- A job runs at a place: the word that the other proofs use, and how a begin and an end change who runs.
use Rattle.std.proofs.Common.{◌≡◌, ℕ, zero, suc, ◌<◌, true, false, cond, eqb, arith, List, length, get_or, set, replicate, Some, None, Option, sym, refl, ap, ◌∙◌, get_or-set_other, get_or-set_same}
use Rattle.std.specs.Prelude.{is_some}
use Rattle.std.proofs.lemmas.Bool.{false≢true}
use Rattle.protocol.specs.declared.jobs.Job.{Job}
use Rattle.protocol.specs.Model.{Model, job_at}

-- a job runs at place p
abbrev pub Runs : Model → ℕ → Type 0
Runs m p = is_some (job_at m p) ≡ true

-- the same, of the list of jobs
abbrev pub RunsIn : List (Option Job) → ℕ → Type 0
RunsIn js p = is_some (get_or js p None) ≡ true

-- ---- a new book
pub nobody_at : (n p : ℕ) → is_some {T = Job} (get_or (replicate n None) p None) ≡ false
nobody_at zero p = refl
nobody_at (suc n) zero = refl
nobody_at (suc n) (suc p) = nobody_at n p

pub nobody_runs : (n p : ℕ) → RunsIn (replicate n None) p → ⊥
nobody_runs n p h = false≢true (sym (nobody_at n p) ∙ h)

-- ---- a begin, and an end
-- whether a job runs at q, once the place p has been set
pub set_runs : (js : List (Option Job)) (p q : ℕ) (j : Option Job) → p < length js → is_some (get_or (set js p j) q None) ≡ cond (eqb q p) (is_some j) (is_some (get_or js q None))
set_runs js p q j l = grind (arith, l, get_or-set_same js p j None, get_or-set_other js p q j None)

pub runs_begun : (js : List (Option Job)) (p q : ℕ) (j : Job) → p < length js → RunsIn js q → RunsIn (set js p (Some j)) q
runs_begun js p q j l h = grind (arith, h, set_runs js p q (Some j) l)

pub begun_runs : (js : List (Option Job)) (p : ℕ) (j : Job) → p < length js → RunsIn (set js p (Some j)) p
begun_runs js p j l = grind (arith, set_runs js p p (Some j) l)

pub ran_before : (js : List (Option Job)) (p q : ℕ) (j : Option Job) → (q ≡ p → ⊥) → RunsIn (set js p j) q → RunsIn js q
ran_before js p q j n h = sym (ap is_some (get_or-set_other js p q j None n)) ∙ h

pub runs_ended : (js : List (Option Job)) (k q : ℕ) → (q ≡ k → ⊥) → RunsIn js q → RunsIn (set js k None) q
runs_ended js k q n h = ap is_some (get_or-set_other js k q None None n) ∙ h

pub ended_runs : (js : List (Option Job)) (k q : ℕ) → k < length js → RunsIn (set js k None) q → RunsIn js q × (q ≡ k → ⊥)
ended_runs js k q l h = grind (arith, h, set_runs js k q None l)
