-- What is reached from a set of jobs by waits has, with each job, all that this one waits for: seventeen rounds are enough for sixteen places.
-- Words: `spread`, `rounds`, `reach` of specs/Holdings.
use Rattle.std.proofs.Common.{◌≡◌, ℕ, zero, suc, cond, ◌+◌, ◌<◌, true, ◌⊎◌, inl, inr, arith}
use Rattle.std.proofs.lemmas.Bool.{cases_lt}
use Rattle.protocol.specs.Holdings.{spread, rounds, reach}
use Rattle.protocol.specs.Places.{has, size}
use Rattle.protocol.proofs.SetSizes.{same_size, size_max}
use Rattle.protocol.proofs.Membership.{join_left, join_right, join_cases, cond_in}

-- ---- the rounds
module _ (w : ℕ → ℕ) where
  -- what a member waits for is a member
  pub Closed : ℕ → Type 0
  Closed s = (k q : ℕ) → k < 16 → q < 16 → has s k ≡ true → has (w k) q ≡ true → has s q ≡ true

  pub spread_more : (n s k : ℕ) → has s k ≡ true → has (spread w n s) k ≡ true
  unfolding spread
  spread_more zero s k h = h
  spread_more (suc n) s k h = join_right _ _ k (spread_more n s k h)

  pub spread_next : (n s k q : ℕ) → k < n → has s k ≡ true → has (w k) q ≡ true → has (spread w n s) q ≡ true
  unfolding spread
  spread_next zero s k q l h e = absurd (omega arith)
  spread_next (suc n) s k q l h e = grind (arith, l, h, e, join_left (cond (has s n) (w n) 0) (spread w n s) q, join_right (cond (has s n) (w n) 0) (spread w n s) q, spread_next n s k q)

  pub spread_why : (n s q : ℕ) → has (spread w n s) q ≡ true → (has s q ≡ true) ⊎ ((k : ℕ) × (k < n) × (has s k ≡ true) × (has (w k) q ≡ true))
  unfolding spread
  spread_why zero s q h = inl h
  spread_why (suc n) s q h = grind (arith, join_cases (cond (has s n) (w n) 0) (spread w n s) q h, cond_in (has s n) (w n) q, spread_why n s q)

  closed_spread : (s : ℕ) → Closed s → Closed (spread w 16 s)
  unfolding Closed
  closed_spread s c k q l m h e =
      elim (spread_why 16 s k h) [
        | inl i ↦ spread_next 16 s k q l i e
        | inr i ↦ spread_next 16 s k q l (c i.0 k i.1 l i.2 i.3) e
      ]

  closed_rounds : (n s : ℕ) → Closed s → Closed (rounds w n s)
  unfolding rounds
  closed_rounds zero s c = c
  closed_rounds (suc n) s c = closed_rounds n (spread w 16 s) (closed_spread s c)

  -- each round adds a place or is the last
  rounds_closed : (n s : ℕ) → 16 < n + size s → Closed (rounds w n s)
  unfolding rounds Closed
  rounds_closed zero s l = absurd (omega (arith, size_max s))
  rounds_closed (suc n) s l =
      elim (cases_lt (size s) (size (spread w 16 s))) [
        | inl i ↦ rounds_closed n (spread w 16 s) (omega arith)
        | inr i ↦ closed_rounds n (spread w 16 s) (closed_spread s (λ k q m o h e. same_size s (spread w 16 s) (spread_more 16 s) i q o (spread_next 16 s k q m h e)))
      ]

  rounds_more : (n s k : ℕ) → has s k ≡ true → has (rounds w n s) k ≡ true
  unfolding rounds
  rounds_more zero s k h = h
  rounds_more (suc n) s k h = rounds_more n (spread w 16 s) k (spread_more 16 s k h)

  pub reach_closed : (s k q : ℕ) → k < 16 → q < 16 → has (reach w s) k ≡ true → has (w k) q ≡ true → has (reach w s) q ≡ true
  unfolding reach Closed
  reach_closed s = rounds_closed 17 s (omega arith)

  pub reach_more : (s k : ℕ) → has s k ≡ true → has (reach w s) k ≡ true
  unfolding reach
  reach_more s k h = rounds_more 17 s k h
