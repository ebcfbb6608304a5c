-- The objects of a table of numbers.
use Rattle.std.specs.Prelude.{◌≡◌, ℕ, ◌≤◌, min, cond, List, length, take, nat_lt, slice_set}
use Rattle.std.proofs.Common.{length-take, arith}

-- the values of the objects: the first 65,536 numbers
unfoldable pub table_values : List ℕ → List ℕ
table_values numbers = take 65536 numbers

-- the table after a write: its number is replaced where there is that object
abbrev pub table_written : List ℕ → ℕ → ℕ → List ℕ
table_written numbers object value = cond (nat_lt object (length (table_values numbers))) (slice_set numbers object value) numbers

-- how many objects there are
pub table_length : (numbers : List ℕ) → length (table_values numbers) ≡ min 65536 (length numbers)
unfolding table_values
table_length numbers = length-take 65536 numbers

-- there are at most 65,536
pub table_short : (numbers : List ℕ) → length (table_values numbers) ≤ 65536
table_short numbers = omega (arith, table_length numbers)
