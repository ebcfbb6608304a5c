-- The set of jobs that a job waits for is the relation of specs/Waiting, and how a lock, an image and an end change it.
use Rattle.std.proofs.Common.{◌≡◌, ℕ, Bool, true, cond, not, ◌&&◌, eqb, ◌⊎◌, List, [], ◌∷◌, ◌++◌, map, sym, refl, ap, ◌∙◌, subst, inl, inr, arith}
use Rattle.std.specs.Prelude.{filter}
use Rattle.std.specs.List.{list_any}
use Rattle.std.proofs.lemmas.Bool.{eqb-true, eqb-false, ne_eqb, and_parts, not-true}
use Rattle.protocol.specs.declared.holdings.Holding.{Holding}
use Rattle.protocol.specs.Holdings.{clash, holds, turn, jobs_of, waits, new_waits}
use Rattle.protocol.specs.Lists.{In, Behind}
use Rattle.protocol.specs.Places.{has, single}
use Rattle.protocol.specs.Waiting.{WaitsFor}
use Rattle.protocol.proofs.Membership.{none_in, join_left, join_right, join_cases, in_single, single_in, cond_in, in_cond}
use Rattle.protocol.proofs.HoldingStates.{reading_turn}
use Rattle.protocol.proofs.Lists.{any_in, in_any, behind_append, behind_last, push_cases, in_filter_behind, filter_behind, in_map_behind, map_behind}

-- who is among the jobs of some holdings has such a holding, and the other way round
pub jobs_in : (t : Holding → Bool) (hs : List Holding) (q : ℕ) → has (jobs_of t hs) q ≡ true → (h : Holding) × In h hs × (t h ≡ true) × (h.job ≡ q)
unfolding jobs_of
jobs_in t [] q e = none_in q e
jobs_in t (h ∷ hs) q e = grind (arith, join_cases _ _ q e, cond_in (t h) (single h.job) q, in_single h.job q, jobs_in t hs q)

pub in_jobs : (t : Holding → Bool) (hs : List Holding) (h : Holding) → In h hs → t h ≡ true → has (jobs_of t hs) h.job ≡ true
unfolding jobs_of
in_jobs t [] h i e = absurd i
in_jobs t (g ∷ hs) h (inl p) e = join_left _ _ _ (in_cond (t g) _ _ (ap t p ∙ e) (single_in _ _ (ap (λ x. x.job) p)))
in_jobs t (g ∷ hs) h (inr i) e = join_right _ _ _ (in_jobs t hs h i e)

-- where the two holdings stand in another list, in their order, there is the same wait
moved : (hs gs : List Holding) (p q : ℕ) (w : WaitsFor hs p q) → Behind w.earlier w.later gs → WaitsFor gs p q
moved hs gs p q w o = record { earlier = w.earlier; later = w.later; order = o; of = w.of; by = w.by; other = w.other; why = w.why }

-- who is in the set is waited for, and the other way round
pub waits_why : (hs : List Holding) (p q : ℕ) → has (waits hs p) q ≡ true → WaitsFor hs p q
unfolding waits
waits_why [] p q e = none_in q e
waits_why (g ∷ hs) p q e = go (join_cases _ _ q e) (waits_why hs p q)
  where
    go : (has (cond (not (eqb g.job p) && list_any (λ h. eqb h.job p && clash g h) hs) (single g.job) 0) q ≡ true) ⊎ (has (waits hs p) q ≡ true)
        → (has (waits hs p) q ≡ true → WaitsFor hs p q) → WaitsFor (g ∷ hs) p q
    go (inl i) rec =
        let c = cond_in (not (eqb g.job p) && list_any (λ h. eqb h.job p && clash g h) hs) _ q i in
        let d = and_parts _ _ c.0 in
        let a = any_in (λ h. eqb h.job p && clash g h) hs d.1 in
        let b = and_parts _ _ a.2 in
        let same = in_single _ _ c.1 in
        record {
          earlier = g;
          later = a.0;
          order = inl (refl, a.1);
          of = same;
          by = eqb-true _ _ b.0;
          other = λ e. eqb-false g.job p (not-true _ d.0) (same ∙ e);
          why = b.1;
        }
    go (inr i) rec = moved hs (g ∷ hs) p q (rec i) (inr (rec i).order)

pub why_waits : (hs : List Holding) (p q : ℕ) → WaitsFor hs p q → has (waits hs p) q ≡ true
unfolding waits
why_waits hs p q w = subst (λ x. has (waits hs p) x ≡ true) w.of (go hs w.order)
  where
    go : (hs : List Holding) → Behind w.earlier w.later hs → has (waits hs p) w.earlier.job ≡ true
    go [] o = absurd o
    go (g ∷ hs) (inl o) =
        let waited = in_any (λ h. eqb h.job p && clash g h) hs w.later o.1 (grind (arith, w.by, w.why, o.0)) in
        join_left _ _ _ (in_cond _ _ _ (grind (arith, waited, w.other, w.of, o.0)) (single_in _ _ (ap (λ x. x.job) o.0)))
    go (g ∷ hs) (inr o) = join_right _ _ _ (go hs o)

-- ---- a new holding behind the others
pub waits_push : (hs : List Holding) (h : Holding) (p q : ℕ) → has (waits (hs ++ h ∷ []) p) q ≡ true → (has (waits hs p) q ≡ true) ⊎ ((p ≡ h.job) × (has (new_waits hs h) q ≡ true))
unfolding new_waits
waits_push hs h p q e =
    let w = waits_why (hs ++ h ∷ []) p q e in
    grind (arith, push_cases hs h w.earlier w.later w.order, why_waits hs p q, w.of, w.by, w.other, w.why, in_jobs (λ g. not (eqb g.job h.job) && clash g h) hs w.earlier)

pub waits_more : (hs : List Holding) (h : Holding) (p q : ℕ) → has (waits hs p) q ≡ true → has (waits (hs ++ h ∷ []) p) q ≡ true
waits_more hs h p q e = let w = waits_why hs p q e in why_waits _ p q (moved hs _ p q w (behind_append hs _ _ _ w.order))

pub new_waits_wait : (hs : List Holding) (h : Holding) (q : ℕ) → has (new_waits hs h) q ≡ true → has (waits (hs ++ h ∷ []) h.job) q ≡ true
unfolding new_waits
new_waits_wait hs h q e =
    let j = jobs_in _ hs q e in
    let b = and_parts _ _ j.2 in
    why_waits _ _ q (record {
      earlier = j.0;
      later = h;
      order = behind_last hs _ _ j.1;
      of = j.3;
      by = refl;
      other = λ s. eqb-false _ _ (not-true _ b.0) (j.3 ∙ s);
      why = b.1;
    })

-- ---- an open holding that is turned
clash_turn : (p o : ℕ) (g h : Holding) → clash (turn p o g) (turn p o h) ≡ clash g h
clash_turn p o g h = λ i. eqb g.object h.object && not (reading_turn (holds p o g) g.state i && reading_turn (holds p o h) h.state i)

pub waits_turn : (p o : ℕ) (hs : List Holding) (a b : ℕ) → has (waits (map (turn p o) hs) a) b ≡ true → has (waits hs a) b ≡ true
waits_turn p o hs a b e =
    let w = waits_why (map (turn p o) hs) a b e in
    let t = in_map_behind (turn p o) hs _ _ w.order in
    why_waits hs a b (record {
      earlier = t.0;
      later = t.1;
      order = t.2;
      of = ap (λ x. x.job) t.3 ∙ w.of;
      by = ap (λ x. x.job) t.4 ∙ w.by;
      other = w.other;
      why = sym (clash_turn p o t.0 t.1) ∙ (λ i. clash (t.3 i) (t.4 i)) ∙ w.why;
    })

pub turn_waits : (p o : ℕ) (hs : List Holding) (a b : ℕ) → has (waits hs a) b ≡ true → has (waits (map (turn p o) hs) a) b ≡ true
turn_waits p o hs a b e =
    let w = waits_why hs a b e in
    why_waits _ a b (record {
      earlier = turn p o w.earlier;
      later = turn p o w.later;
      order = map_behind (turn p o) hs _ _ w.order;
      of = w.of;
      by = w.by;
      other = w.other;
      why = clash_turn p o w.earlier w.later ∙ w.why;
    })

-- ---- the holdings of job k are removed
-- the holdings of all jobs but k
abbrev pub rest : ℕ → List Holding → List Holding
rest k hs = filter (λ h. not (eqb h.job k)) hs

pub waits_rest : (k : ℕ) (hs : List Holding) (a b : ℕ) → has (waits (rest k hs) a) b ≡ true → has (waits hs a) b ≡ true
waits_rest k hs a b e = let w = waits_why (rest k hs) a b e in why_waits hs a b (moved _ hs a b w (in_filter_behind (λ h. not (eqb h.job k)) hs _ _ w.order).0)

pub rest_waits : (k : ℕ) (hs : List Holding) (a b : ℕ) → (a ≡ k → ⊥) → (b ≡ k → ⊥) → has (waits hs a) b ≡ true → has (waits (rest k hs) a) b ≡ true
rest_waits k hs a b n m e =
    let w = waits_why hs a b e in
    why_waits _ a b (moved hs _ a b w (filter_behind (λ h. not (eqb h.job k)) hs _ _ w.order (ap not (ne_eqb _ _ (λ s. m (sym w.of ∙ s)))) (ap not (ne_eqb _ _ (λ s. n (sym w.by ∙ s))))))
