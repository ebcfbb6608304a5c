-- A number that is printed to the right of some places.
use Rattle.std.proofs.Common.{◌≡◌, ℕ, zero, suc, false, ◌-◌, ◌^◌, List, [], ◌∷◌, length, replicate, decimal, refl, ap, append-nil, arith}
use Rattle.std.specs.List.{repeat}
use Rattle.std.specs.Fmt.{format_spec, styled_decimal, padded_integral, char_count}
use Rattle.std.specs.Char.{encode_utf8}
use Rattle.planner.specs.Plan.{right_of}

blanks : (n : ℕ) → repeat n (encode_utf8 32) ≡ replicate n 32
unfolding encode_utf8
blanks zero = refl
blanks (suc n) = ap (λ l. 32 ∷ l) (blanks n)

laid : (places : ℕ) (digits : List ℕ) → padded_integral (format_spec 32 3 0 places (2 ^ 64 - 1)) false [] digits ≡ right_of places digits
unfolding padded_integral char_count
laid places digits =
    let short = places - length digits in
    let same : places - length digits - 0 - 0 ≡ short = omega arith in
    let none : short - short ≡ 0 = omega arith in
    simp (same, none, blanks short, append-nil)

pub in_two : (n : ℕ) → styled_decimal (format_spec 32 3 0 2 (2 ^ 64 - 1)) n ≡ right_of 2 (decimal n)
in_two n = laid 2 (decimal n)

pub in_twenty : (n : ℕ) → styled_decimal (format_spec 32 3 0 20 (2 ^ 64 - 1)) n ≡ right_of 20 (decimal n)
in_twenty n = laid 20 (decimal n)
