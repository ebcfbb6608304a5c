-- What cutting keeps.
use Rattle.std.specs.Prelude.{◌≡◌, ℕ, cond, List, [], ◌∷◌, ◌++◌, map, length, take, drop}
use Rattle.std.specs.List.{join_with_byte, AllByRecursion}
use Rattle.std.specs.Str.Iter.{LacksByte}
use Rattle.fields.specs.Places.{Word, fed, lines_of, rows_of}

-- the bytes of each part
abbrev pub texts : List Word → List (List ℕ)
texts ws = map (λ w. w.text) ws

-- the mark that ends a script, if it is a line feed
abbrev pub last_mark : ℕ → List ℕ → List ℕ
last_mark m s = cond (fed s) (m ∷ []) []

-- the lines with the mark between each two, and the mark again if a line feed ends the script, are the script
abbrev pub LinesJoinToTheScript : ℕ → Type 0
LinesJoinToTheScript m = (s : List ℕ) → join_with_byte m (texts (lines_of s)) ++ last_mark m s ≡ s

-- the fields of each line with the mark between each two are that line
abbrev pub FieldsJoinToTheirLines : ℕ → Type 0
FieldsJoinToTheirLines m = (s : List ℕ) → map (λ row. join_with_byte m (texts row)) (rows_of s) ≡ texts (lines_of s)

-- the bytes of s from the place of w on are those of w, and neither mark is among them
abbrev pub Stands : ℕ → ℕ → List ℕ → Word → Type 0
Stands m n s w = (take (length w.text) (drop w.at s) ≡ w.text) × LacksByte m w.text × LacksByte n w.text

-- so stands each field of each line
abbrev pub FieldsStandInTheScript : ℕ → ℕ → Type 0
FieldsStandInTheScript m n = (s : List ℕ) → AllByRecursion (AllByRecursion (Stands m n s)) (rows_of s)
