-- The objects of a table.
use Rattle.std.proofs.Common.{◌≡◌, ℕ, ◌≤◌, min, List, length, set, replicate, arith}
use Rattle.stores.specs.Table.{table_values, table_length}
use Rattle.stores.proofs.Firsts.{take_set, take_alike}

pub table_within : (xs : List ℕ) → length (table_values xs) ≤ length xs
table_within xs = omega (arith, table_length xs)

pub table_set : (xs : List ℕ) (i v : ℕ) → table_values (set xs i v) ≡ set (table_values xs) i v
unfolding table_values
table_set xs i v = take_set 65536 xs i v

-- the objects of a table of zeros
pub table_zeros : (n : ℕ) → table_values (replicate n 0) ≡ replicate (min 65536 n) 0
unfolding table_values
table_zeros n = take_alike 65536 n 0
