-- A maker came before another holder of the same object: its turned holding stands before the other's. How calls change this.
use Rattle.std.proofs.Common.{◌≡◌, ℕ, true, not, eqb, ◌⊎◌, List, [], ◌∷◌, ◌++◌, map, sym, refl, ap, ◌∙◌, inl, inr, arith}
use Rattle.std.proofs.lemmas.Bool.{eqb-false, ne_eqb, not-true}
use Rattle.protocol.specs.declared.holdings.Holding.{Holding}
use Rattle.protocol.specs.Holdings.{holds, turned, opened, turn, waits, later_makers}
use Rattle.protocol.specs.Lists.{In, Behind}
use Rattle.protocol.specs.PairingLaws.{Makes}
use Rattle.protocol.specs.Places.{has}
use Rattle.protocol.proofs.Lists.{behind_in, behind_two, behind_append, behind_last, push_cases, in_filter_behind, filter_behind, in_map_behind, map_behind}
use Rattle.protocol.proofs.Waiting.{why_waits, rest}
use Rattle.protocol.proofs.Makers.{why_later}
use Rattle.protocol.proofs.HoldingStates.{reading_turned, turned_turn, turned_back}

-- q turned o before j locked it
pub record Before (hs : List Holding) (o q j : ℕ) : Type 0 where
  pub earlier : Holding
  pub later : Holding
  pub order : Behind earlier later hs
  pub of : earlier.job ≡ q
  pub by : later.job ≡ j
  pub there : earlier.object ≡ o
  pub same : later.object ≡ o
  pub turns : turned earlier.state ≡ true

-- where the two holdings stand in another list, in their order, the same holds
moved : (hs gs : List Holding) (o q j : ℕ) (b : Before hs o q j) → Behind b.earlier b.later gs → Before gs o q j
moved hs gs o q j b l = record { earlier = b.earlier; later = b.later; order = l; of = b.of; by = b.by; there = b.there; same = b.same; turns = b.turns }

-- who was before is a maker
pub before_maker : (hs : List Holding) (o q j : ℕ) → Before hs o q j → Makes hs o q
before_maker hs o q j b = record { holding = b.earlier; there = (behind_in hs _ _ b.order).0; job = b.of; object = b.there; turns = b.turns }

-- a maker q was before another job j that holds the object, or q waits for j
pub before_either : (hs : List Holding) (o q j : ℕ) (h : Holding) → (q ≡ j → ⊥) → Makes hs o q → In h hs → h.job ≡ j → h.object ≡ o → Before hs o q j ⊎ (has (waits hs q) j ≡ true)
before_either hs o q j h n a i e f = grind (arith, n, a, e, f, behind_two hs a.holding h a.there i, why_waits hs q j, reading_turned a.holding.state)

-- a maker that m was before is a later maker than m
pub before_later : (hs : List Holding) (o m q : ℕ) → Before hs o m q → Makes hs o q → ((g h : Holding) → Behind g h hs → g.job ≡ h.job → g.object ≡ h.object → ⊥) → has (later_makers o m hs) q ≡ true
before_later hs o m q b k once =
    let same : k.holding ≡ b.later = grind (arith, k, b, behind_two hs k.holding b.later k.there (behind_in hs _ _ b.order).1, once k.holding b.later, once b.later k.holding) in
    why_later hs o m q (record { earlier = b.earlier; later = b.later; order = b.order; of = b.of; object = b.there; by = b.by; same = b.same; turns = ap (λ h. turned h.state) (sym same) ∙ k.turns })

-- ---- a new holding
pub before_push : (hs : List Holding) (h : Holding) (o q j : ℕ) → Before (hs ++ h ∷ []) o q j → Before hs o q j ⊎ ((h.job ≡ j) × (h.object ≡ o) × Makes hs o q)
before_push hs h o q j b =
    elim (push_cases hs h b.earlier b.later b.order) [
      | inl l ↦ inl (moved _ hs o q j b l)
      | inr l ↦ inr (ap (λ x. x.job) l.1 ∙ b.by, ap (λ x. x.object) l.1 ∙ b.same, record { holding = b.earlier; there = l.0; job = b.of; object = b.there; turns = b.turns })
    ]

pub before_more : (hs : List Holding) (h : Holding) (o q j : ℕ) → Before hs o q j → Before (hs ++ h ∷ []) o q j
before_more hs h o q j b = moved hs _ o q j b (behind_append hs _ _ _ b.order)

pub before_new : (hs : List Holding) (h : Holding) (o q : ℕ) → h.object ≡ o → Makes hs o q → Before (hs ++ h ∷ []) o q h.job
before_new hs h o q e k = record { earlier = k.holding; later = h; order = behind_last hs _ _ k.there; of = k.job; by = refl; there = k.object; same = e; turns = k.turns }

-- ---- a turned holding
pub before_turn : (p x : ℕ) (hs : List Holding) → ((g h : Holding) → Behind g h hs → g.object ≡ h.object → opened g.state ≡ true → ⊥) → (o q j : ℕ) → Before (map (turn p x) hs) o q j → Before hs o q j
before_turn p x hs last o q j b =
    let t = in_map_behind (turn p x) hs _ _ b.order in
    let there : t.0.object ≡ o = ap (λ h. h.object) t.3 ∙ b.there in
    let same : t.1.object ≡ o = ap (λ h. h.object) t.4 ∙ b.same in
    elim (turned_back (holds p x t.0) t.0.state (ap (λ h. turned h.state) t.3 ∙ b.turns)) [
      | inl e ↦ record { earlier = t.0; later = t.1; order = t.2; of = ap (λ h. h.job) t.3 ∙ b.of; by = ap (λ h. h.job) t.4 ∙ b.by; there = there; same = same; turns = e }
      | inr e ↦ absurd (last _ _ t.2 (there ∙ sym same) e)
    ]

pub turn_before : (p x : ℕ) (hs : List Holding) (o q j : ℕ) → Before hs o q j → Before (map (turn p x) hs) o q j
turn_before p x hs o q j b = record { earlier = turn p x b.earlier; later = turn p x b.later; order = map_behind (turn p x) hs _ _ b.order; of = b.of; by = b.by; there = b.there; same = b.same; turns = turned_turn _ _ b.turns }

-- ---- an end
pub before_rest : (k : ℕ) (hs : List Holding) (o q j : ℕ) → Before (rest k hs) o q j → Before hs o q j × (q ≡ k → ⊥)
before_rest k hs o q j b = let t = in_filter_behind (λ h. not (eqb h.job k)) hs _ _ b.order in (moved _ hs o q j b t.0, λ e. eqb-false _ _ (not-true _ t.1) (b.of ∙ e))

pub rest_before : (k : ℕ) (hs : List Holding) (o q j : ℕ) → (q ≡ k → ⊥) → (j ≡ k → ⊥) → Before hs o q j → Before (rest k hs) o q j
rest_before k hs o q j n l b =
    moved hs _ o q j b (filter_behind (λ h. not (eqb h.job k)) hs _ _ b.order (ap not (ne_eqb _ _ (λ e. n (sym b.of ∙ e)))) (ap not (ne_eqb _ _ (λ e. l (sym b.by ∙ e)))))
