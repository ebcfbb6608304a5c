-- Taking places out of a set of the sixteen places.
use Rattle.std.proofs.Common.{◌≡◌, ℕ, ◌%◌, ◌<◌, sym, ap, ◌∙◌, arith}
use lib.Bits.{bit_and, bit_xor, and_mod}
use Rattle.std.proofs.lemmas.Nat.{and_le_l}
use Rattle.protocol.specs.Places.{without, placed}

-- a set of the sixteen places has none of those that are no part of them
pub without_placed : (m b : ℕ) → m < 65536 → without m (placed b) ≡ without m b
unfolding without placed
without_placed m b h =
    let whole : bit_and m b ≡ bit_and m b % 65536 = omega (arith, and_le_l m b) in
    let same : m % 65536 ≡ m = omega arith in
    ap (bit_xor m) (sym (whole ∙ and_mod m b 16 ∙ ap (λ n. bit_and n (b % 65536)) same))
