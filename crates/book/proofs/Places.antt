-- Holdings name places, and pairs name the job of the executions that they are made from.
use Rattle.std.proofs.Common.{◌≡◌, ℕ, suc, ◌<◌, ◌≤◌, Bool, true, false, cond, eqb, List, [], ◌∷◌, map, length, Option, refl, ap, ◌∙◌, subst, inl, inr, arith}
use Rattle.std.specs.Prelude.{flat_map, filter}
use Rattle.std.proofs.lemmas.List.{get_or_past}
use Rattle.std.proofs.lemmas.Bool.{cases_lt, eqb-true}
use Rattle.protocol.specs.declared.assumptions.Execution.{Execution}
use Rattle.protocol.specs.declared.assumptions.Offer.{Offer}
use Rattle.protocol.specs.declared.holdings.Holding.{Holding}
use Rattle.protocol.specs.declared.jobs.Job.{Job}
use Rattle.protocol.specs.Lists.{In}
use Rattle.protocol.specs.Model.{names}
use Rattle.protocol.specs.Pairing.{is_kept, pairs}
use Rattle.tables.specs.Within.{count, Within, job_of_execution, job_of_holding}
use Rattle.tables.proofs.Counts.{count_filter, count_append, count_one}
use Rattle.tables.proofs.Rooms.{within_place}
use Rattle.holders.specs.Placed.{Placed}
use Rattle.protocol.specs.Empty.{no_holding}

pub within_placed : (jobs : List (Option Job)) (hs : List Holding) → length jobs ≡ 16 → Within 8 job_of_holding jobs hs → Placed hs
within_placed jobs hs long w k =
    elim (cases_lt k (length hs)) [
      | inl l ↦ within_place 8 job_of_holding jobs hs w long k no_holding l
      | inr l ↦ omega (arith, ap job_of_holding (get_or_past hs k no_holding l))
    ]

pub placed_in : (hs : List Holding) → Placed hs → (h : Holding) → In h hs → h.job < 16
placed_in [] f h i = absurd i
placed_in (g ∷ hs) f h (inl e) = subst (λ (x : Holding). x.job < 16) e (f 0)
placed_in (g ∷ hs) f h (inr i) = placed_in hs (λ k. f (suc k)) h i

module _ (r : ℕ) (f : Execution → Offer → Execution) (same : (e : Execution) (x : Offer) → (f e x).job ≡ e.job) (p q : ℕ) (ne : q ≡ p → ⊥) where
  made : (e : Execution) (xs : List Offer) → e.job ≡ p → count job_of_execution q (map (f e) xs) ≤ 0
  made e [] h = omega arith
  made e (x ∷ xs) h =
      omega (arith, count_append job_of_execution q (f e x ∷ []) (map (f e) xs), count_one job_of_execution q (f e x) (λ k. ne (k ∙ same e x ∙ h)), made e xs h)

  pub pairs_named : (xs : List Offer) (es : List Execution) → count job_of_execution q (pairs r f xs (filter (names p) es)) ≤ 0
  unfolding pairs
  pairs_named xs [] = omega arith
  pairs_named xs (e ∷ es) = go (eqb e.job p) refl (pairs_named xs es)
    where
      G : Execution → List Execution
      G e = filter (is_kept r) (map (f e) xs)

      go : (b : Bool) → eqb e.job p ≡ b → count job_of_execution q (flat_map (λ e. filter (is_kept r) (map (f e) xs)) (filter (names p) es)) ≤ 0
          → count job_of_execution q (flat_map (λ e. filter (is_kept r) (map (f e) xs)) (cond b (e ∷ filter (names p) es) (filter (names p) es))) ≤ 0
      go true h k =
          omega (
            arith,
            count_append job_of_execution q (filter (is_kept r) (map (f e) xs)) (flat_map (λ e. filter (is_kept r) (map (f e) xs)) (filter (names p) es)),
            count_filter job_of_execution (is_kept r) q (map (f e) xs),
            made e xs (eqb-true e.job p h),
          )
      go false h k = k
