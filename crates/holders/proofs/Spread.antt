-- What a set reaches by waiting, one place and one round after another.
use Rattle.std.proofs.Common.{◌≡◌, ℕ, zero, suc, ◌+◌, ◌<◌, ◌≤◌, Bool, true, false, cond, List, [], ◌∷◌, length, sym, refl, ap, ◌∙◌, ap₂, add-one, arith}
use Rattle.std.specs.Prelude.{fold}
use Rattle.std.specs.List.{zip, range_with_len}
use Rattle.protocol.specs.declared.places.PlaceSet.{PlaceSet}
use Rattle.protocol.specs.Holdings.{spread, rounds, reach}
use Rattle.protocol.specs.Places.{has, join, placed}
use Rattle.protocol.proofs.SetDigits.{has_placed}
use Rattle.holders.specs.Sets.{mask_at}
use Rattle.holders.proofs.Joins.{none_join, join_comm, placed_join, placed_cond}

pub spread_none : (w : ℕ → ℕ) (s : ℕ) → spread w 0 s ≡ s
unfolding spread
spread_none w s = refl

pub spread_more : (w : ℕ → ℕ) (n s : ℕ) → spread w (suc n) s ≡ join (cond (has s n) (w n) 0) (spread w n s)
unfolding spread
spread_more w n s = refl

pub rounds_none : (w : ℕ → ℕ) (s : ℕ) → rounds w 0 s ≡ s
unfolding rounds
rounds_none w s = refl

pub rounds_more : (w : ℕ → ℕ) (n s : ℕ) → rounds w (suc n) s ≡ rounds w n (spread w 16 s)
unfolding rounds
rounds_more w n s = refl

-- ---- what the chains give
spread_step : (w : ℕ → ℕ) (n s : ℕ) (b : Bool) → has s n ≡ b → spread w (n + 1) s ≡ join (cond b (w n) 0) (spread w n s)
spread_step w n s b h = ap (λ k. spread w k s) (add-one n) ∙ spread_more w n s ∙ ap (λ b. join (cond b (w n) 0) (spread w n s)) h

-- the set, with one of a row of sets, where s has its place
abbrev pub with_set : PlaceSet → PlaceSet → ℕ × PlaceSet → PlaceSet
with_set s all p = cond (has s.mask p.0) (record { mask = join all.mask p.1.mask }) all

module _ (w : ℕ → ℕ) (s : PlaceSet) where
  -- the first set of the row is for place a
  spread_folded : (a : ℕ) (row : List PlaceSet) (all : PlaceSet) → ((k : ℕ) → k < length row → mask_at row k ≡ w (a + k)) → all.mask ≡ spread w a s.mask
      → (fold (with_set s) all (zip (range_with_len a (length row)) row)).mask ≡ spread w (a + length row) s.mask
  spread_folded a [] all is so = so ∙ ap (λ n. spread w n s.mask) (omega arith)
  spread_folded a (x ∷ row) all is so =
      spread_folded (a + 1) row (with_set s all (a, x)) (λ k l. is (suc k) (omega arith) ∙ ap w (omega arith)) (go (has s.mask a) refl)
      ∙ ap (λ n. spread w n s.mask) (omega arith)
    where
      first : x.mask ≡ w a
      first = is 0 (omega arith) ∙ ap w (omega arith)

      more : PlaceSet
      more = record { mask = join all.mask x.mask }

      go : (b : Bool) → has s.mask a ≡ b → (cond b more all).mask ≡ spread w (a + 1) s.mask
      go true h = join_comm all.mask x.mask ∙ ap₂ join first so ∙ sym (spread_step w a s.mask true h)
      go false h = so ∙ sym (spread_step w a s.mask false h ∙ none_join (spread w a s.mask))

pub spread_row : (n : ℕ) (row : List PlaceSet) (set : PlaceSet) → length row ≡ n → (fold (with_set set) set (zip (range_with_len 0 n) row)).mask ≡ spread (mask_at row) n set.mask
spread_row n row set long =
    let w = mask_at row in
    rw (← long)
    (spread_folded w set 0 row set (λ k l. ap w (omega arith)) (sym (spread_none w set.mask)) ∙ ap (λ n. spread w n set.mask) (omega arith))

-- one round after another
abbrev pub round : (ℕ → ℕ) → PlaceSet → ℕ → PlaceSet
round w all n = record { mask = spread w 16 all.mask }

pub rounds_folded : (w : ℕ → ℕ) (ns : List ℕ) (all : PlaceSet) → (fold (round w) all ns).mask ≡ rounds w (length ns) all.mask
rounds_folded w [] all = sym (rounds_none w all.mask)
rounds_folded w (n ∷ ns) all = rounds_folded w ns (round w all n) ∙ sym (rounds_more w (length ns) all.mask)

-- ---- the places
-- only the sixteen places count: v has what w says of each of them, cut to the places
module _ (v w : ℕ → ℕ) (same : (n : ℕ) → n < 16 → v n ≡ placed (w n)) where
  spread_placed : (n s : ℕ) → n ≤ 16 → spread v n (placed s) ≡ placed (spread w n s)
  spread_placed zero s l = spread_none v (placed s) ∙ ap placed (sym (spread_none w s))
  spread_placed (suc n) s l =
      let part : cond (has (placed s) n) (v n) 0 ≡ placed (cond (has s n) (w n) 0) =
      ap₂ (λ b x. cond b x 0) (has_placed s n (omega arith)) (same n (omega arith)) ∙ sym (placed_cond (has s n) (w n)) in
      spread_more v n (placed s) ∙ ap₂ join part (spread_placed n s (omega arith))
      ∙ sym (ap placed (spread_more w n s) ∙ placed_join (cond (has s n) (w n) 0) (spread w n s))

  rounds_placed : (n s : ℕ) → rounds v n (placed s) ≡ placed (rounds w n s)
  rounds_placed zero s = rounds_none v (placed s) ∙ ap placed (sym (rounds_none w s))
  rounds_placed (suc n) s =
      rounds_more v n (placed s) ∙ ap (rounds v n) (spread_placed 16 s (omega arith)) ∙ rounds_placed n (spread w 16 s)
      ∙ ap placed (sym (rounds_more w n s))

  pub reach_placed : (s : ℕ) → reach v (placed s) ≡ placed (reach w s)
  unfolding reach
  reach_placed s = rounds_placed 17 s
