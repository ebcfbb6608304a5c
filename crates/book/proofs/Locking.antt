-- The answer to a lock, from its three groups of tests.
use Rattle.std.proofs.Common.{◌≡◌, ℕ, ◌<◌, ◌≤◌, Bool, true, false, not, ltb, List, [], ◌∷◌, ◌++◌, length, Some, None, Option, sym, refl, ap, ◌∙◌, arith}
use Rattle.std.specs.Prelude.{is_some}
use Rattle.std.specs.List.{AllByRecursion}
use Rattle.std.proofs.lemmas.Bool.{lt-ltb, le-ltb, ltb-false, leb-false, ne_eqb, eq-eqb, not-false}
use Rattle.terms.specs.declared.calls.Call.{Call}
use Rattle.terms.specs.declared.calls.Call.TheVariants.{Begin, Lock, Image, Commit, Abort}
use Rattle.terms.specs.declared.modes.Mode.{Mode}
use Rattle.protocol.specs.declared.refusals.Refusal.{Refusal}
use Rattle.protocol.specs.declared.refusals.Refusal.TheVariants.{NoSuchPlace, PlaceTaken, UnknownKind, NoJob, LostJob, NoExecution, TooManyExecutions}
use Rattle.protocol.specs.Holdings.{locked, would_ring}
use Rattle.protocol.specs.Begin.{is_known}
use Rattle.protocol.specs.Ending.{commit_barred}
use Rattle.protocol.specs.Image.{image_barred, image_crowded}
use Rattle.protocol.specs.Past.{place_of}
use Rattle.protocol.specs.Lists.{first, is_nil}
use Rattle.protocol.specs.Lock.{no_live_job, lock_barred, lock_crowded, lock_refusals}
use Rattle.protocol.specs.Model.{Model, job_at, holding_count, executions_of}
use Rattle.protocol.specs.Pairing.{kept_pairs}
use Rattle.protocol.specs.Step.{answer, refusals}
use Rattle.terms.specs.Rule.{Rule}

module _ {A : Type 0} where
  pub first_append : (ts us : List (Bool × A)) → first ts ≡ None → first (ts ++ us) ≡ first us
  first_append [] us e = refl
  first_append (t ∷ ts) us e = go t.0 e (first_append ts us)
    where
      go : (b : Bool) → (elim b as (λ _. Option A) [ true ↦ Some t.1 | false ↦ first ts ]) ≡ None → (first ts ≡ None → first (ts ++ us) ≡ first us)
          → (elim b as (λ _. Option A) [ true ↦ Some t.1 | false ↦ first (ts ++ us) ]) ≡ first us
      go true e rec = let z : ◌≡◌ {A = ℕ} 0 1 = cc in absurd (omega arith)
      go false e rec = rec e

  pub first_found : (ts us : List (Bool × A)) (x : A) → first ts ≡ Some x → first (ts ++ us) ≡ Some x
  first_found [] us x e = let z : ◌≡◌ {A = ℕ} 0 1 = cc in absurd (omega arith)
  first_found (t ∷ ts) us x e = go t.0 e (first_found ts us x)
    where
      go : (b : Bool) → (elim b as (λ _. Option A) [ true ↦ Some t.1 | false ↦ first ts ]) ≡ Some x → (first ts ≡ Some x → first (ts ++ us) ≡ Some x)
          → (elim b as (λ _. Option A) [ true ↦ Some t.1 | false ↦ first (ts ++ us) ]) ≡ Some x
      go true e rec = e
      go false e rec = rec e

  -- where none is refused, each test fails
  pub first_passed : (ts : List (Bool × A)) → first ts ≡ None → AllByRecursion (λ t. t.0 ≡ false) ts
  first_passed [] e = tt
  first_passed (t ∷ ts) e = go t.0 e (first_passed ts)
    where
      go : (b : Bool) → (elim b as (λ _. Option A) [ true ↦ Some t.1 | false ↦ first ts ]) ≡ None → (first ts ≡ None → AllByRecursion (λ t. t.0 ≡ false) ts) → (b ≡ false) × AllByRecursion (λ t. t.0 ≡ false) ts
      go true e rec = let z : ◌≡◌ {A = ℕ} 0 1 = cc in absurd (omega arith)
      go false e rec = (refl, rec e)

-- the first test of every call is for its place
pub no_place : (r : Rule) (m : Model) (c : Call) → 15 < place_of c → answer r m c ≡ Some NoSuchPlace
unfolding answer refusals
no_place r m (Begin p k a) l = ap (λ b. first ((b, NoSuchPlace) ∷ (is_some (job_at m p), PlaceTaken) ∷ (not (is_known r k), UnknownKind) ∷ [])) (lt-ltb 15 p l)
no_place r m (Lock p o mode) l = ap (λ b. first ((b, NoSuchPlace) ∷ (not (is_some (job_at m p)), NoJob) ∷ (is_nil (executions_of p m), LostJob) ∷ lock_barred m p o mode ++ lock_crowded r m p o mode)) (lt-ltb 15 p l)
no_place r m (Image p o) l = ap (λ b. first ((b, NoSuchPlace) ∷ (not (is_some (job_at m p)), NoJob) ∷ (is_nil (executions_of p m), LostJob) ∷ image_barred m p o ++ image_crowded m p)) (lt-ltb 15 p l)
no_place r m (Commit p) l = ap (λ b. first ((b, NoSuchPlace) ∷ (not (is_some (job_at m p)), NoJob) ∷ (is_nil (executions_of p m), LostJob) ∷ commit_barred m p)) (lt-ltb 15 p l)
no_place r m (Abort p) l = ap (λ b. first ((b, NoSuchPlace) ∷ (not (is_some (job_at m p)), NoJob) ∷ [])) (lt-ltb 15 p l)

module _ (r : Rule) (m : Model) (p o : ℕ) (mode : Mode) where
  pub lock_answer : answer r m (Lock p o mode) ≡ first (lock_refusals r m p o mode)
  unfolding answer refusals
  lock_answer = refl

  pub refused_absent : (e : Refusal) → first (no_live_job m p) ≡ Some e → first (lock_refusals r m p o mode) ≡ Some e
  refused_absent e h = first_found (no_live_job m p ++ lock_barred m p o mode) (lock_crowded r m p o mode) e (first_found (no_live_job m p) (lock_barred m p o mode) e h)

  pub refused_barred : (e : Refusal) → first (no_live_job m p) ≡ None → first (lock_barred m p o mode) ≡ Some e → first (lock_refusals r m p o mode) ≡ Some e
  refused_barred e a h = first_found (no_live_job m p ++ lock_barred m p o mode) (lock_crowded r m p o mode) e (first_append (no_live_job m p) (lock_barred m p o mode) a ∙ h)

  refused_crowded : first (no_live_job m p) ≡ None → first (lock_barred m p o mode) ≡ None → first (lock_refusals r m p o mode) ≡ first (lock_crowded r m p o mode)
  refused_crowded a h = first_append (no_live_job m p ++ lock_barred m p o mode) (lock_crowded r m p o mode) (first_append (no_live_job m p) (lock_barred m p o mode) a ∙ h)

  module _ (a : first (no_live_job m p) ≡ None) (h : first (lock_barred m p o mode) ≡ None) where
    pub refused_none : length (kept_pairs r m p o mode) ≡ 0 → first (lock_refusals r m p o mode) ≡ Some NoExecution
    refused_none e = refused_crowded a h ∙ ap (λ b. first ((b, NoExecution) ∷ (ltb m.limit (length (kept_pairs r m p o mode)), TooManyExecutions) ∷ [])) (eq-eqb (length (kept_pairs r m p o mode)) 0 e)

    pub refused_many : m.limit < length (kept_pairs r m p o mode) → first (lock_refusals r m p o mode) ≡ Some TooManyExecutions
    refused_many l =
        refused_crowded a h ∙ ap (λ b. first ((b, NoExecution) ∷ (ltb m.limit (length (kept_pairs r m p o mode)), TooManyExecutions) ∷ [])) (ne_eqb (length (kept_pairs r m p o mode)) 0 (λ e. omega arith))
        ∙ ap (λ b. first ((b, TooManyExecutions) ∷ [])) (lt-ltb m.limit (length (kept_pairs r m p o mode)) l)

    pub refused_never : (length (kept_pairs r m p o mode) ≡ 0 → ⊥) → length (kept_pairs r m p o mode) ≤ m.limit → first (lock_refusals r m p o mode) ≡ None
    refused_never ne l =
        refused_crowded a h ∙ ap (λ b. first ((b, NoExecution) ∷ (ltb m.limit (length (kept_pairs r m p o mode)), TooManyExecutions) ∷ [])) (ne_eqb (length (kept_pairs r m p o mode)) 0 ne)
        ∙ ap (λ b. first ((b, TooManyExecutions) ∷ [])) (le-ltb m.limit (length (kept_pairs r m p o mode)) l)

  pub record Taken : Type 0 where
    pub place : p < 16
    pub runs : is_some (job_at m p) ≡ true
    pub free : holding_count m p < 8
    pub ring : would_ring m.holdings (locked p o mode) ≡ false
    pub few : length (kept_pairs r m p o mode) ≤ m.limit

  pub taken : answer r m (Lock p o mode) ≡ None → Taken
  taken e =
      let a : AllByRecursion (λ (t : Bool × Refusal). t.0 ≡ false) (no_live_job m p ++ lock_barred m p o mode ++ lock_crowded r m p o mode) = first_passed (no_live_job m p ++ lock_barred m p o mode ++ lock_crowded r m p o mode) (sym lock_answer ∙ e) in
      let h = ltb-false 15 p a.0 in
      record {
        place = omega arith;
        runs = not-false (is_some (job_at m p)) a.1.0;
        free = leb-false 8 (holding_count m p) a.1.1.1.1.1.0;
        ring = a.1.1.1.1.1.1.1.0;
        few = ltb-false m.limit (length (kept_pairs r m p o mode)) a.1.1.1.1.1.1.1.1.1.0;
      }
