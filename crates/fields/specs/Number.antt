-- The numbers of a script: `0`, or 1 to 18 digits of which the first is not 0.
use Rattle.std.specs.Prelude.{◌≡◌, ℕ, ◌+◌, ◌-◌, ◌*◌, ◌<◌, Bool, cond, ◌&&◌, List, [], ◌∷◌, length, Some, None, decimal, Option, ◌==◌, nat_le}

-- a byte from `0` (48) to `9` (57)
abbrev pub digit : ℕ → Bool
digit c = nat_le 48 c && nat_le c 57

-- the number that digits write after n, if all are digits
abbrev pub read_on : ℕ → List ℕ → Option ℕ
read_on n [] = Some n
read_on n (c ∷ cs) = cond (digit c) (read_on (n * 10 + (c - 48)) cs) None

-- what follows a leading `0`: nothing may
abbrev pub only_zero : List ℕ → Option ℕ
only_zero [] = Some 0
only_zero (c ∷ cs) = None

-- the number that the bytes write, if they write one
abbrev pub number_in : List ℕ → Option ℕ
number_in [] = None
number_in (c ∷ cs) = cond (c == 48) (only_zero cs) (cond (nat_le (length (c ∷ cs)) 18) (read_on 0 (c ∷ cs)) None)

-- the bytes write n exactly where they are n in decimal and n is below the limit
abbrev pub NumbersAreDecimals : ℕ → Type 0
NumbersAreDecimals limit =
    ((bs : List ℕ) (n : ℕ) → number_in bs ≡ Some n → (n < limit) × (bs ≡ decimal n))
    × ((n : ℕ) → n < limit → number_in (decimal n) ≡ Some n)
