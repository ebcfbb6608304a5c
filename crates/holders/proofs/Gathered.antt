-- What a job waits for, gathered holding after holding: the set, with what those from the i-th on add, is the whole.
use Rattle.std.proofs.Common.{◌≡◌, ℕ, ◌+◌, ◌<◌, ◌≤◌, Bool, true, false, cond, not, ◌&&◌, eqb, List, length, get_or, drop, sym, refl, ap, ◌∙◌, inl, inr, arith}
use Rattle.std.specs.List.{list_any}
use Rattle.std.proofs.lemmas.List.{at_drop_more, at_drop_all}
use Rattle.std.proofs.lemmas.Bool.{eqb-true, eq-eqb, cases_lt}
use Rattle.protocol.specs.declared.holdings.Holding.{Holding}
use Rattle.protocol.specs.Holdings.{waits, clash}
use Rattle.protocol.specs.Places.{has, single, join, placed}
use Rattle.protocol.specs.Empty.{no_holding}
use Rattle.protocol.proofs.SetDigits.{has_join, has_single, same_members, single_below, placed_same, placed_none}
use Rattle.holders.proofs.Joins.{join_assoc, join_none, none_join, placed_join, placed_zero, placed_cond}
use Rattle.holders.proofs.Sets.{blocks, waits_none, waits_more}

-- ---- what adds nothing
-- a place past the sixteenth
pub join_far : (set k : ℕ) → 16 ≤ k → join set (placed (single k)) ≡ set
join_far set k far = ap (join set) (placed_none k far) ∙ join_none set

-- a place that is in the set
join_member : (set k : ℕ) → has set k ≡ true → join set (single k) ≡ set
join_member set k e = same_members _ _ (λ j. grind (arith, e, has_join set (single k) j, has_single k j, eqb-true k j))

pub join_held : (set k : ℕ) → has set k ≡ true → join set (placed (single k)) ≡ set
join_held set k e = elim (cases_lt k 16) [
  | inl near ↦ ap (join set) (placed_same (single k) (single_below k near)) ∙ join_member set k e
  | inr far ↦ join_far set k far
]

-- ---- one holding after another
module _ (p : ℕ) (hs : List Holding) where
  abbrev pub Gathered : ℕ → ℕ → Type 0
  Gathered set i = join set (placed (waits (drop i hs) p)) ≡ placed (waits hs p)

  pub gathered_none : Gathered 0 0
  gathered_none = none_join (placed (waits hs p))

  pub gathered_all : (set i : ℕ) → Gathered set i → length hs ≤ i → set ≡ placed (waits hs p)
  gathered_all set i inv all =
      sym (join_none set) ∙ ap (join set) (sym (ap placed (at_drop_all (λ gs. waits gs p) hs i all ∙ waits_none p) ∙ placed_zero)) ∙ inv

  module _ (set i : ℕ) (inv : Gathered set i) (l : i < length hs) where
    abbrev h : Holding
    h = get_or hs i no_holding

    abbrev behind : List Holding
    behind = drop (i + 1) hs

    -- what the i-th holding adds
    step : (b : Bool) → blocks p h behind ≡ b → (new : ℕ) → new ≡ join set (cond b (placed (single h.job)) 0) → Gathered new (i + 1)
    step b t new e =
        let split : placed (waits (drop i hs) p) ≡ join (cond b (placed (single h.job)) 0) (placed (waits behind p)) =
        ap placed (at_drop_more (λ gs. waits gs p) hs i no_holding l ∙ waits_more p h behind)
        ∙ placed_join (cond (blocks p h behind) (single h.job) 0) (waits behind p)
        ∙ ap (λ s. join s (placed (waits behind p))) (placed_cond (blocks p h behind) (single h.job) ∙ ap (λ b. cond b (placed (single h.job)) 0) t) in
        ap (λ s. join s (placed (waits behind p))) e ∙ join_assoc set (cond b (placed (single h.job)) 0) (placed (waits behind p)) ∙ ap (join set) (sym split) ∙ inv

    pub gathered_more : blocks p (get_or hs i no_holding) (drop (i + 1) hs) ≡ true → (new : ℕ) → new ≡ join set (placed (single (get_or hs i no_holding).job)) → Gathered new (i + 1)
    gathered_more t new e = step true t new e

    pub gathered_less : blocks p (get_or hs i no_holding) (drop (i + 1) hs) ≡ false → Gathered set (i + 1)
    gathered_less t = step false t set (sym (join_none set))

    -- a holding of the job itself
    pub gathered_own : (get_or hs i no_holding).job ≡ p → Gathered set (i + 1)
    gathered_own e = gathered_less (ap (λ b. not b && list_any (λ own. eqb own.job p && clash h own) behind) (eq-eqb h.job p e))

    -- a holding of a job that adds nothing
    pub gathered_skip : join set (placed (single (get_or hs i no_holding).job)) ≡ set → Gathered set (i + 1)
    gathered_skip e = go (blocks p h behind) refl
      where
        go : (b : Bool) → blocks p h behind ≡ b → Gathered set (i + 1)
        go true t = step true t set (sym e)
        go false t = gathered_less t
