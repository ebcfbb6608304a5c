-- Parts of a script with their places.
--   Word          the bytes of a part, and how many bytes of the script stand before it
--   words m w     the parts of w between its marks
--   lines_of s    the lines of the script s
--   rows_of s     the fields of each of its lines
use Rattle.std.specs.Prelude.{ℕ, ◌+◌, ◌-◌, Bool, cond, ◌&&◌, List, [], ◌∷◌, map, length, take, vec_items, Vec, ◌==◌, nat_lt, slice_index}
use Rattle.std.specs.declared.alloc.Global.{Global}
use Rattle.fields.specs.Cut.{pieces}
use Rattle.fields.specs.declared.parts.Field.{Field}

-- a part of the script: its bytes and its place
pub record Word : Type 0 where
  pub text : List ℕ
  pub at : ℕ

-- the part that a field is
abbrev pub word_of : Field → Word
word_of f = record { text = f.bytes.now; at = f.at }

-- the parts that a line's fields are
abbrev pub row_of : Vec Field Global → List Word
row_of v = map word_of (vec_items v)

-- the place where a part ends
abbrev pub end_of : Word → ℕ
end_of w = w.at + length w.text

-- pieces of which the first stands at n, with one mark between each two
abbrev pub placed : ℕ → List (List ℕ) → List Word
placed n [] = []
placed n (w ∷ ws) = record { text = w; at = n } ∷ placed (n + (length w + 1)) ws

-- the parts of a text between its marks
abbrev pub words : ℕ → Word → List Word
words m w = placed w.at (pieces m w.text)

-- whether a line feed ends the script
abbrev pub fed : List ℕ → Bool
fed s = nat_lt 0 (length s) && slice_index s (length s - 1) == 10

-- the script without the line feed that ends it, if one does
abbrev pub body : List ℕ → List ℕ
body s = cond (fed s) (take (length s - 1) s) s

-- the lines of a script; an empty script has one empty line
abbrev pub lines_of : List ℕ → List Word
lines_of s = words 10 (record { text = body s; at = 0 })

-- the fields of each line of a script
abbrev pub rows_of : List ℕ → List (List Word)
rows_of s = map (words 44) (lines_of s)
