-- How a text is cut at a mark: the comma (44) of a line, the line feed (10) of a script.
use Rattle.std.specs.Prelude.{ℕ, List, ◌==◌}
use Rattle.std.specs.List.{slice_split}

-- the parts between the marks: one more than there are marks
abbrev pub pieces : ℕ → List ℕ → List (List ℕ)
pieces m xs = slice_split (λ x. x == m) xs
