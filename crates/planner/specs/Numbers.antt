-- Numbers of decimal digits.
use Rattle.std.specs.Prelude.{ℕ, ◌+◌, ◌-◌, ◌*◌, ◌^◌, Bool, cond, ◌&&◌, List, length, Some, None, Option, nat_le, nat_lt}
use Rattle.std.specs.List.{fold, list_all}

-- whether every byte is a decimal digit
abbrev pub digits : List ℕ → Bool
digits line = list_all (λ byte. nat_le 48 byte && nat_le byte 57) line

-- the value of digits that stand after those of n
abbrev pub value_after : ℕ → List ℕ → ℕ
value_after n line = fold (λ n byte. n * 10 + (byte - 48)) n line

-- the value with one digit more, where the byte is a digit and 64 bits hold what they make
abbrev pub with_digit : ℕ → ℕ → Option ℕ
with_digit n byte = cond ((nat_le 48 byte && nat_le byte 57) && nat_lt (n * 10 + (byte - 48)) (2 ^ 64)) (Some (n * 10 + (byte - 48))) None

-- a line is a number where it is digits, at least one, whose value fits 64 bits
abbrev pub number_of : List ℕ → Option ℕ
number_of line = cond (nat_lt 0 (length line) && (digits line && nat_lt (value_after 0 line) (2 ^ 64))) (Some (value_after 0 line)) None
