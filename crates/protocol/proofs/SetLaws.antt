-- The laws of sets of places as specs/SetLaws states them.
use Rattle.std.proofs.Common.{◌≡◌, ℕ, ◌&&◌, ltb, inl, inr, mod-lt, zero-lt-suc, arith}
use Rattle.std.proofs.lemmas.Bool.{cases_lt, lt-ltb, le-ltb}
use Rattle.protocol.specs.Places.{has, placed}
use Rattle.protocol.specs.SetLaws.{SetLaws}
use Rattle.protocol.proofs.SetDigits.{has_zero, has_single, has_join, has_without, has_past, has_placed, same_members, disjoint_apart, apart_disjoint}
use Rattle.protocol.proofs.SetSizes.{size_counts, size_join, size_mono}

cut : (a k : ℕ) → has (placed a) k ≡ (ltb k 16 && has a k)
unfolding placed
cut a k = elim (cases_lt k 16) [
  | inl l ↦ grind (arith, lt-ltb k 16 l, has_placed a k l)
  | inr l ↦ grind (arith, le-ltb k 16 l, has_past (placed a) k (mod-lt a (zero-lt-suc 65535)) l)
]

pub set_laws : SetLaws
set_laws = record {
  same = same_members;
  none = has_zero;
  alone = has_single;
  joined = has_join;
  taken_out = has_without;
  cut = cut;
  apart = λ a b. (disjoint_apart a b, apart_disjoint a b);
  counted = size_counts;
  size_joined = size_join;
  size_part = size_mono;
}
