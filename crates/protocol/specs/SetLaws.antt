-- The laws of sets of places, told by their members.
use Rattle.std.specs.Prelude.{◌≡◌, ℕ, ◌+◌, ◌≤◌, true, false, not, ◌&&◌, ◌||◌, ◌↔◌, List, [], ◌∷◌, length, ◌==◌, ◌≢◌, nat_lt, filter}
use Rattle.protocol.specs.Places.{has, placed, single, join, without, disjoint, size}

-- the sixteen places
abbrev pub places : List ℕ
places = 0 ∷ 1 ∷ 2 ∷ 3 ∷ 4 ∷ 5 ∷ 6 ∷ 7 ∷ 8 ∷ 9 ∷ 10 ∷ 11 ∷ 12 ∷ 13 ∷ 14 ∷ 15 ∷ []

-- what is in a is in b
abbrev pub Part : ℕ → ℕ → Type 0
Part a b = (k : ℕ) → has a k ≡ true → has b k ≡ true

-- no place is in both
abbrev pub Apart : ℕ → ℕ → Type 0
Apart a b = (k : ℕ) → has a k ≡ true → has b k ≢ true

-- what each word of sets means for their members
pub record SetLaws : Type 0 where
  -- sets with the same members are the same
  pub same : (a b : ℕ) → ((k : ℕ) → has a k ≡ has b k) → a ≡ b
  -- nothing is in the empty set
  pub none : (k : ℕ) → has 0 k ≡ false
  -- of the set of one place, that place is the only member
  pub alone : (j k : ℕ) → has (single j) k ≡ (j == k)
  -- a join has what one of the two has
  pub joined : (a b k : ℕ) → has (join a b) k ≡ (has a k || has b k)
  -- one without the other has what the one has and the other has not
  pub taken_out : (a b k : ℕ) → has (without a b) k ≡ (has a k && not (has b k))
  -- what is cut to the sixteen places loses all others and no more
  pub cut : (a k : ℕ) → has (placed a) k ≡ (nat_lt k 16 && has a k)
  -- sets are disjoint exactly when they have no common member
  pub apart : (a b : ℕ) → (disjoint a b ≡ true) ↔ Apart a b
  -- the size is the number of places that are in the set
  pub counted : (a : ℕ) → size a ≡ length (filter (has a) places)
  -- a join is as large as the one and what the other adds
  pub size_joined : (a b : ℕ) → size (join a b) ≡ size a + size (without b a)
  -- a part is at most as large as the whole
  pub size_part : (a b : ℕ) → Part a b → size a ≤ size b
