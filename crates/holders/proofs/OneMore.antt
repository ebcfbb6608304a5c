-- One more holding: its job waits for those in its way besides, and no other job for more.
use Rattle.std.proofs.Common.{◌≡◌, ℕ, zero, suc, ◌+◌, ◌<◌, ◌≤◌, Bool, true, false, cond, not, ◌&&◌, ◌||◌, eqb, List, [], ◌∷◌, ◌++◌, length, get_or, take, drop, set, replicate, sym, refl, ap, ◌∙◌, ap₂, inl, inr, arith}
use Rattle.std.specs.Prelude.{filter, fold}
use Rattle.std.specs.List.{list_any, enumerate_from}
use Rattle.std.proofs.lemmas.List.{take_more, take_all, drop_all, at_drop_more, length-set, length-replicate, get_or-replicate, get_or-set_same, get_or-set_other}
use Rattle.std.proofs.lemmas.List.Folds.{list_any-append}
use Rattle.std.proofs.Math.Bool.{and-false, or-false}
use Rattle.std.proofs.lemmas.Bool.{cases_eq, eqb-true, eqb-false, eq-eqb, ne_eqb}
use Rattle.protocol.specs.declared.holdings.Holding.{Holding}
use Rattle.protocol.specs.declared.places.PlaceSet.{PlaceSet}
use Rattle.protocol.specs.Holdings.{waits, new_waits, jobs_of, clash}
use Rattle.protocol.specs.Places.{single, join, placed}
use Rattle.protocol.specs.Empty.{no_holding}
use Rattle.holders.specs.Sets.{nobody, mask_at}
use Rattle.holders.proofs.Joins.{join_none, none_join, join_self, join_across, placed_join, placed_zero, placed_cond}
use Rattle.holders.proofs.Sets.{blocks, waits_none, waits_more}

new_none : (h : Holding) → new_waits [] h ≡ 0
unfolding new_waits jobs_of
new_none h = refl

new_more : (h g : Holding) (gs : List Holding) → new_waits (g ∷ gs) h ≡ join (cond (not (eqb g.job h.job) && clash g h) (single g.job) 0) (new_waits gs h)
unfolding new_waits jobs_of
new_more h g gs = refl

any_push : {X : Type 0} (t : X → Bool) (xs : List X) (y : X) → list_any t (xs ++ y ∷ []) ≡ (list_any t xs || t y)
any_push t xs y = list_any-append t xs (y ∷ []) ∙ ap (λ b. list_any t xs || b) (or-false (t y))

-- a set under one of two tests
either : (a b c : Bool) (s : ℕ) → cond (a && (b || c)) s 0 ≡ join (cond (a && b) s 0) (cond (a && c) s 0)
either false b c s = sym (none_join 0)
either true true true s = sym (join_self s)
either true true false s = sym (join_none s)
either true false c s = sym (none_join (cond c s 0))

module _ (h : Holding) (p : ℕ) where
  -- what job p waits for on account of h, where those before h are gs
  abbrev by : List Holding → ℕ
  by gs = cond (eqb h.job p) (new_waits gs h) 0

  by_none : by [] ≡ 0
  by_none = go (eqb h.job p)
    where
      go : (b : Bool) → cond b (new_waits [] h) 0 ≡ 0
      go true = new_none h
      go false = refl

  by_more : (g : Holding) (gs : List Holding) → join (cond (not (eqb g.job p) && (eqb h.job p && clash g h)) (single g.job) 0) (by gs) ≡ by (g ∷ gs)
  by_more g gs = go (eqb h.job p) refl
    where
      go : (b : Bool) → eqb h.job p ≡ b → join (cond (not (eqb g.job p) && (b && clash g h)) (single g.job) 0) (cond b (new_waits gs h) 0) ≡ cond b (new_waits (g ∷ gs) h) 0
      go true e =
          ap (λ q. join (cond (not (eqb g.job q) && clash g h) (single g.job) 0) (new_waits gs h)) (sym (eqb-true h.job p e)) ∙ sym (new_more h g gs)
      go false e = ap (λ b. join (cond b (single g.job) 0) 0) (and-false (not (eqb g.job p))) ∙ none_join 0

  -- the jobs for which job p waits once h is locked
  pub waits_push : (gs : List Holding) → waits (gs ++ h ∷ []) p ≡ join (waits gs p) (cond (eqb h.job p) (new_waits gs h) 0)
  waits_push [] =
      waits_more p h [] ∙ ap₂ join (ap (λ b. cond b (single h.job) 0) (and-false (not (eqb h.job p)))) (waits_none p)
      ∙ sym (ap₂ join (waits_none p) by_none)
  waits_push (g ∷ gs) =
      let t : Holding → Bool = λ k. eqb k.job p && clash g k in
      let own : Bool = not (eqb g.job p) in
      let first : cond (blocks p g (gs ++ h ∷ [])) (single g.job) 0 ≡ join (cond (blocks p g gs) (single g.job) 0) (cond (own && t h) (single g.job) 0) =
      ap (λ b. cond (own && b) (single g.job) 0) (any_push t gs h) ∙ either own (list_any t gs) (t h) (single g.job) in
      waits_more p g (gs ++ h ∷ []) ∙ ap₂ join first (waits_push gs)
      ∙ join_across (cond (blocks p g gs) (single g.job) 0) (cond (own && t h) (single g.job) 0) (waits gs p) (by gs)
      ∙ ap₂ join (sym (waits_more p g gs)) (by_more g gs)

module _ (p : ℕ) (hs : List Holding) (i : ℕ) (l : i < length hs) (set : ℕ) (inv : set ≡ placed (waits (take i hs) p)) where
  -- what the i-th holding adds
  grown : (d : Holding) → placed (waits (take (i + 1) hs) p) ≡ join set (cond (eqb (get_or hs i d).job p) (placed (new_waits (take i hs) (get_or hs i d))) 0)
  grown d =
      let h = get_or hs i d in
      ap (λ gs. placed (waits gs p)) (take_more hs i d l) ∙ ap placed (waits_push h p (take i hs))
      ∙ placed_join (waits (take i hs) p) (cond (eqb h.job p) (new_waits (take i hs) h) 0)
      ∙ ap₂ join (sym inv) (placed_cond (eqb h.job p) (new_waits (take i hs) h))

  pub waits_own : (d : Holding) → (get_or hs i d).job ≡ p → join set (placed (new_waits (take i hs) (get_or hs i d))) ≡ placed (waits (take (i + 1) hs) p)
  waits_own d e = let h = get_or hs i d in sym (grown d ∙ ap (λ b. join set (cond b (placed (new_waits (take i hs) h)) 0)) (eq-eqb h.job p e))

  pub waits_other : (d : Holding) → ((get_or hs i d).job ≡ p → ⊥) → set ≡ placed (waits (take (i + 1) hs) p)
  waits_other d ne = let h = get_or hs i d in sym (grown d ∙ ap (λ b. join set (cond b (placed (new_waits (take i hs) h)) 0)) (ne_eqb h.job p ne) ∙ join_none set)

-- the waits of a job, folded over its own holdings, each with its place among all
module _ (p : ℕ) (hs : List Holding) where
  abbrev pub own : ℕ × Holding → Bool
  own x = eqb x.1.job p

  abbrev pub with_own : PlaceSet → ℕ × Holding → PlaceSet
  with_own set x = record { mask = join set.mask (placed (new_waits (take x.0 hs) x.1)) }

  folded_from : (n i : ℕ) (set : PlaceSet) → i + n ≡ length hs → set.mask ≡ placed (waits (take i hs) p) → (fold with_own set (filter own (enumerate_from i (drop i hs)))).mask ≡ placed (waits hs p)
  folded_from zero i set e inv =
      ap (λ l. (fold with_own set (filter own (enumerate_from i l))).mask) (drop_all i hs (omega arith)) ∙ inv ∙ ap (λ gs. placed (waits gs p)) (take_all i hs (omega arith))
  folded_from (suc n) i set e inv =
      at_drop_more (λ l. (fold with_own set (filter own (enumerate_from i l))).mask) hs i no_holding l ∙ go (eqb h.job p) refl (λ s q. folded_from n (i + 1) s (omega arith) q)
    where
      l : i < length hs
      l = omega arith

      h : Holding
      h = get_or hs i no_holding

      rest : List (ℕ × Holding)
      rest = filter own (enumerate_from (i + 1) (drop (i + 1) hs))

      go : (b : Bool) → eqb h.job p ≡ b → ((s : PlaceSet) → s.mask ≡ placed (waits (take (i + 1) hs) p) → (fold with_own s rest).mask ≡ placed (waits hs p)) → (fold with_own set (cond b ((i, h) ∷ rest) rest)).mask ≡ placed (waits hs p)
      go true t more = more (with_own set (i, h)) (waits_own p hs i l set.mask inv no_holding (eqb-true h.job p t))
      go false t more = more set (waits_other p hs i l set.mask inv no_holding (eqb-false h.job p t))

  pub waits_folded : (fold with_own nobody (filter own (enumerate_from 0 hs))).mask ≡ placed (waits hs p)
  waits_folded = folded_from (length hs) 0 nobody (omega arith) (sym (ap placed (waits_none p) ∙ placed_zero))

-- ---- the sets of all places
-- the p-th set has what job p waits for by the first i holdings
pub record Waiting (hs : List Holding) (sets : List PlaceSet) (i : ℕ) : Type 0 where
  pub long : length sets ≡ 16
  pub told : (p : ℕ) → p < 16 → mask_at sets p ≡ placed (waits (take i hs) p)

pub waiting_none : (hs : List Holding) → Waiting hs (replicate 16 nobody) 0
waiting_none hs = record {
  long = length-replicate 16 nobody;
  told = λ p l. ap (λ (s : PlaceSet). s.mask) (get_or-replicate 16 p nobody nobody l) ∙ sym (ap placed (waits_none p) ∙ placed_zero);
}

module _ (hs : List Holding) (sets : List PlaceSet) (i : ℕ) (l : i < length hs) (inv : Waiting hs sets i) where
  abbrev h : Holding
  h = get_or hs i no_holding

  other : (p : ℕ) → p < 16 → (h.job ≡ p → ⊥) → mask_at sets p ≡ placed (waits (take (i + 1) hs) p)
  other p m ne = waits_other p hs i l (mask_at sets p) (inv.told p m) no_holding ne

  pub waiting_skip : 16 ≤ (get_or hs i no_holding).job → Waiting hs sets (i + 1)
  waiting_skip far = record { long = inv.long; told = λ p m. other p m (λ e. omega arith) }

  pub waiting_more : (new : PlaceSet) → (get_or hs i no_holding).job < 16
      → new.mask ≡ join (mask_at sets (get_or hs i no_holding).job) (placed (new_waits (take i hs) (get_or hs i no_holding)))
      → Waiting hs (set sets (get_or hs i no_holding).job new) (i + 1)
  waiting_more new near is = record {
    long = length-set sets h.job new ∙ inv.long;
    told = λ p m. elim (cases_eq h.job p) [ inl e ↦ here p m e | inr ne ↦ ap (λ (s : PlaceSet). s.mask) (get_or-set_other sets h.job p new nobody (λ e. ne (sym e))) ∙ other p m ne ];
  }
    where
      here : (p : ℕ) → p < 16 → h.job ≡ p → mask_at (set sets h.job new) p ≡ placed (waits (take (i + 1) hs) p)
      here p m e =
          ap (mask_at (set sets h.job new)) (sym e) ∙ ap (λ (s : PlaceSet). s.mask) (get_or-set_same sets h.job new nobody (omega (arith, inv.long))) ∙ is
          ∙ ap (λ q. join (mask_at sets q) (placed (new_waits (take i hs) h))) e
          ∙ waits_own p hs i l (mask_at sets p) (inv.told p m) no_holding e
