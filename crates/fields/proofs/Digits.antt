-- What one turn of reading digits keeps.
use Rattle.std.proofs.Common.{◌≡◌, ℕ, ◌+◌, ◌-◌, ◌*◌, ◌^◌, ◌<◌, ◌≤◌, true, false, cond, List, length, get_or, drop, None, pow-suc, add-one, arith}
use native.Mathlib.Nat.{pow-le-pow_right}
use Rattle.std.proofs.lemmas.List.{at_drop_more}
use Rattle.std.proofs.lemmas.Bool.Decides.{nat_tests}
use Rattle.fields.specs.Number.{read_on, digit}

-- one digit more
pub bounded : (v i d : ℕ) → v < 10 ^ i → d < 10 → v * 10 + d < 10 ^ (i + 1)
bounded v i d h k = rw (add-one, pow-suc) (omega arith)

-- at most 18 digits
pub short : (v i : ℕ) → v < 10 ^ i → i ≤ 18 → v < 10 ^ 18
short v i h k = let p = pow-le-pow_right {n = 10} (omega arith) {i = i} {j = 18} k in omega arith

module _ (v i : ℕ) (xs : List ℕ) (h : i < length xs) where
  more : read_on v (drop i xs) ≡ cond (digit (get_or xs i 0)) (read_on (v * 10 + (get_or xs i 0 - 48)) (drop (i + 1) xs)) None
  more = at_drop_more (read_on v) xs i 0 h

  pub step : digit (get_or xs i 0) ≡ true → read_on v (drop i xs) ≡ read_on (v * 10 + (get_or xs i 0 - 48)) (drop (i + 1) xs)
  step is = let e = more in grind (arith, nat_tests)

  pub stop : digit (get_or xs i 0) ≡ false → read_on v (drop i xs) ≡ None
  stop out = let e = more in grind (arith, nat_tests)
