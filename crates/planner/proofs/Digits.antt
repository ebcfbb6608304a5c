-- The number that digits write, byte by byte.
use Rattle.std.proofs.Common.{◌≡◌, ℕ, ◌+◌, ◌-◌, ◌*◌, ◌^◌, ◌<◌, ◌≤◌, true, cond, ◌&&◌, List, [], ◌∷◌, length, Some, None, Option, arith, rules}
use Rattle.std.specs.Prelude.{nat_lt}
use Rattle.std.proofs.lemmas.Str.Parse.{IsNumeralModel, numerals_by_fold}
use Rattle.std.proofs.lemmas.Bool.Decides.{nat_tests}
use Rattle.planner.specs.Numbers.{digits, value_after, number_of, with_digit}
use Rattle.planner.proofs.Folds.{tried}

pub own : IsNumeralModel (λ ds. digits ds ≡ true) (value_after 0)
own = numerals_by_fold _ (search rules) value_after (search rules)

-- the line writes a number
abbrev Tells : List ℕ → Type 0
Tells line = (digits line ≡ true) × (0 < length line) × (value_after 0 line < 2 ^ 64)

pub number_told : (line : List ℕ) → Tells line → Some (value_after 0 line) ≡ number_of line
number_told line (all, some, small) = grind (arith, nat_tests)

-- the number of digits that stand after those of n
abbrev number_after : ℕ → List ℕ → Option ℕ
number_after n rest = cond (digits rest && nat_lt (value_after n rest) (2 ^ 64)) (Some (value_after n rest)) None

-- a value never falls as digits follow
no_less : (n : ℕ) (rest : List ℕ) → n ≤ value_after n rest
no_less n [] = omega arith
no_less n (byte ∷ rest) = omega (arith, no_less (n * 10 + (byte - 48)) rest)

read_on : (n : ℕ) (rest : List ℕ) → n < 2 ^ 64 → tried with_digit n rest ≡ number_after n rest
read_on n [] small = grind (arith, nat_tests)
read_on n (byte ∷ rest) small =
    let ih = read_on (n * 10 + (byte - 48)) rest in
    let more = no_less (n * 10 + (byte - 48)) rest in
    grind (arith, nat_tests)

pub parsed : (line : List ℕ) → 0 < length line → tried with_digit 0 line ≡ number_of line
parsed line some = let r = read_on 0 line (omega arith) in grind (arith, nat_tests)
