-- Reading and writing, of a list of values whose places are the objects.
use Rattle.std.specs.Prelude.{ℕ, cond, List, length, Some, None, Option, nat_lt, slice_index}

-- the value of an object, where there is that object
abbrev pub value_at : List ℕ → ℕ → Option ℕ
value_at values object = cond (nat_lt object (length values)) (Some (slice_index values object)) None

-- whether there is that object, as the answer of a write
abbrev pub has_object : List ℕ → ℕ → Option (Unit {0})
has_object values object = cond (nat_lt object (length values)) (Some tt) None
