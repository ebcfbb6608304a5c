-- Joins of sets, and sets cut to the sixteen places.
use Rattle.std.proofs.Common.{◌≡◌, ℕ, ◌<◌, Bool, true, false, cond, refl, arith}
use lib.Bits.{or_zero_l, or_zero_r, or_comm, or_self, or_mod, or_lt}
use Rattle.protocol.specs.Places.{join, placed}
use Rattle.protocol.proofs.SetDigits.{has_join, same_members}

-- ---- joins
pub join_assoc : (a b c : ℕ) → join (join a b) c ≡ join a (join b c)
join_assoc a b c = same_members _ _ (λ k. grind (arith, has_join (join a b) c k, has_join a b k, has_join a (join b c) k, has_join b c k))

pub join_none : (a : ℕ) → join a 0 ≡ a
unfolding join
join_none a = or_zero_r a

pub none_join : (a : ℕ) → join 0 a ≡ a
unfolding join
none_join a = or_zero_l a

pub join_comm : (a b : ℕ) → join a b ≡ join b a
unfolding join
join_comm a b = or_comm a b

pub join_self : (a : ℕ) → join a a ≡ a
unfolding join
join_self a = or_self a

pub join_below : (a b : ℕ) → a < 65536 → b < 65536 → join a b < 65536
unfolding join
join_below a b p q = or_lt 16 a b p q

-- two joins joined, the first parts with each other and the second parts with each other
pub join_across : (a b c d : ℕ) → join (join a b) (join c d) ≡ join (join a c) (join b d)
join_across a b c d =
    same_members _ _ (λ k. grind (arith, has_join (join a b) (join c d) k, has_join a b k, has_join c d k, has_join (join a c) (join b d) k, has_join a c k, has_join b d k))

-- ---- the sixteen places
pub placed_join : (a b : ℕ) → placed (join a b) ≡ join (placed a) (placed b)
unfolding placed join
placed_join a b = or_mod a b 16

pub placed_zero : placed 0 ≡ 0
unfolding placed
placed_zero = refl

pub placed_cond : (b : Bool) (a : ℕ) → placed (cond b a 0) ≡ cond b (placed a) 0
placed_cond true a = refl
placed_cond false a = placed_zero
