-- The draw sheet: what a radio draws in an hour, by the minutes it talks in that hour.
use Rattle.std.specs.Prelude.{ℕ, List, [], ◌∷◌, nat_le, unwrap_or, option_map}
use Rattle.std.specs.List.{find}
use Rattle.house.specs.declared.draws.Row.{Row}

-- minutes of talking, and units drawn
abbrev row : ℕ → ℕ → Row
row minutes drawn = record { minutes = minutes; drawn = drawn }

-- the seven rows, from the least minutes to the most
abbrev pub draw_sheet : List Row
draw_sheet = row 0 4 ∷ row 10 7 ∷ row 20 10 ∷ row 30 14 ∷ row 40 18 ∷ row 50 22 ∷ row 60 27 ∷ []

-- the draw of the last row
abbrev pub last_draw : List Row → ℕ
last_draw [] = 0
last_draw (top ∷ []) = top.drawn
last_draw (low ∷ next ∷ rest) = last_draw (next ∷ rest)

-- the draw of the first row of the sheet whose minutes reach those asked for, or of the last row
unfoldable pub draw : ℕ → ℕ
draw asked = unwrap_or (option_map (λ row. row.drawn) (find (λ row. nat_le asked row.minutes) draw_sheet)) (last_draw draw_sheet)
