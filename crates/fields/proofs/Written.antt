-- The numbers of a script are those that `decimal` writes.
use Rattle.std.proofs.Common.{◌≡◌, ℕ, ◌+◌, ◌-◌, ◌*◌, ◌^◌, ◌<◌, ◌≤◌, true, cond, List, [], ◌∷◌, length, get_or, Some, None, decimal, sym, refl, ap, ◌∙◌, ⊎_elim, arith, rules}
use Rattle.std.specs.Str.{all_ascii_digits}
use Rattle.std.proofs.lemmas.Str.Parse.{IsNumeralModel, numerals_by_fold, digits_value_short}
use Rattle.std.proofs.lemmas.Fmt.{decimal-digits_value, decimal_digit, digits_decimal, digits_value-decimal, length-decimal-le, decimal_nonempty, first_decimal}
use Rattle.std.proofs.lemmas.Bool.{cases_lt, cases_eq}
use Rattle.std.proofs.lemmas.Bool.Decides.{nat_tests}
use Rattle.fields.specs.Number.{number_in, read_on, only_zero, NumbersAreDecimals}

abbrev value_on : ℕ → List ℕ → ℕ
value_on n [] = n
value_on n (c ∷ cs) = value_on (n * 10 + (c - 48)) cs

pub own : IsNumeralModel (λ ds. all_ascii_digits ds ≡ true) (value_on 0)
own = numerals_by_fold _ (search rules) value_on (search rules)

read_is : (n : ℕ) (cs : List ℕ) → read_on n cs ≡ cond (all_ascii_digits cs) (Some (value_on n cs)) None
read_is n [] = refl
read_is n (c ∷ cs) =
    let ih = read_is (n * 10 + (c - 48)) cs in
    grind (arith, nat_tests)

-- a number that is not `0`, by its first byte
long : (ds : List ℕ) → 0 < length ds → length ds ≤ 18 → (get_or ds 0 0 ≡ 48 → ⊥) → number_in ds ≡ read_on 0 ds
long [] some short first = absurd (omega arith)
long (c ∷ cs) some short first = grind (arith, nat_tests)

back : (n : ℕ) → n < 10 ^ 18 → number_in (decimal n) ≡ Some n
back n small =
    ⊎_elim
    (λ more.
    let some = decimal_nonempty n (omega arith) in
    let short = length-decimal-le 18 n (omega arith) small (omega arith) in
    let first = first_decimal n more (omega arith) in
    let p = digits_decimal own n (omega arith) in
    let v = digits_value-decimal own n (omega arith) in
    let e = long (decimal n) some short (omega arith) in
    let r = read_is 0 (decimal n) in
    grind arith)
    (λ none. let z : n ≡ 0 = omega arith in ap (λ k. number_in (decimal k)) z ∙ ap number_in (decimal_digit 0 (omega arith)) ∙ ap Some (sym z))
    (cases_lt 0 n)

zero : (cs : List ℕ) (n : ℕ) → only_zero cs ≡ Some n → (n ≡ 0) × (cs ≡ [])
zero [] n e = (grind arith, refl)
zero (c ∷ cs) n e = absurd (grind arith)

-- what the test of a number that is not `0` says
told : (c : ℕ) (cs : List ℕ) (n : ℕ) → number_in (c ∷ cs) ≡ Some n → (c ≡ 48 → ⊥) → (length (c ∷ cs) ≤ 18) × (all_ascii_digits (c ∷ cs) ≡ true) × (value_on 0 (c ∷ cs) ≡ n)
told c cs n e first =
    let r = read_is 0 (c ∷ cs) in
    (grind (arith, nat_tests), grind (arith, nat_tests), grind (arith, nat_tests))

forth : (bs : List ℕ) (n : ℕ) → number_in bs ≡ Some n → (n < 10 ^ 18) × (bs ≡ decimal n)
forth [] n e = absurd (grind arith)
forth (c ∷ cs) n e =
    ⊎_elim
    (λ is.
    let only : only_zero cs ≡ Some n = grind (arith, nat_tests) in
    let z = zero cs n only in
    (omega arith, (λ i. is i ∷ z.1 i) ∙ sym (decimal_digit 0 (omega arith)) ∙ ap decimal (sym z.0)))
    (λ first.
    let t = told c cs n e first in
    let small = digits_value_short own (c ∷ cs) 18 t.1 t.0 in
    (omega arith, sym (decimal-digits_value own (c ∷ cs) t.1 (omega arith) (λ is. absurd (first is)) (omega arith)) ∙ ap decimal t.2))
    (cases_eq c 48)

pub numbers_are_decimals : NumbersAreDecimals (10 ^ 18)
numbers_are_decimals = (forth, back)
