-- Sets of places, as masks: a number whose binary digits say which of the places 0 to 15 are in the set. The empty set is 0.
use Rattle.std.specs.Prelude.{ℕ, ◌/◌, ◌%◌, ◌^◌, Bool, ◌==◌, bit_and, bit_or, bit_xor}
use Rattle.std.specs.Int.Count.{ones_in}

-- place k is in the set
unfoldable pub has : ℕ → ℕ → Bool
has set k = (set / 2 ^ k % 2) == 1

-- the set of one place
unfoldable pub single : ℕ → ℕ
single k = 2 ^ k

-- what of a set is among the places 0 to 15
unfoldable pub placed : ℕ → ℕ
placed set = set % 65536

-- what is in one of the two
unfoldable pub join : ℕ → ℕ → ℕ
join a b = bit_or a b

-- what is in a and not in b
unfoldable pub without : ℕ → ℕ → ℕ
without a b = bit_xor a (bit_and a b)

-- no place is in both
unfoldable pub disjoint : ℕ → ℕ → Bool
disjoint a b = bit_and a b == 0

-- how many places are in it: the ones among its sixteen digits
unfoldable pub size : ℕ → ℕ
unfolding ones_in
size set = ones_in 16 set
