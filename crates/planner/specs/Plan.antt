-- The plan sheet of a list of packs.
use Rattle.std.specs.Prelude.{ℕ, ◌∷◌, ◌-◌, ◌/◌, ◌^◌, min, List, ◌++◌, map, length, replicate, sum, decimal}
use Rattle.terms.specs.Rule.{Rule}
use Rattle.house.specs.Draw.{draw_sheet}
use Rattle.house.specs.Charge.{charge_rule}
use Rattle.house.specs.Work.{work_of, reads_from}
use Rattle.planner.specs.declared.plans.Line.{Line}

-- what a job that has read every value, in order, writes to a new object past them, where it meets 0
abbrev pub line : Rule → ℕ → ℕ → List ℕ → ℕ
line rule kind argument values = rule.give kind argument (work_of rule kind argument (reads_from 0 values)) (length values) 0

-- the sheet by the charge rule: each row's minutes, and what a plan of those minutes writes
unfoldable pub sheet_by_rule : List ℕ → List Line
sheet_by_rule packs = map (λ row. record { minutes = row.minutes; hours = line charge_rule 3 row.minutes packs }) draw_sheet

-- the sheet by the total of the packs: each row's minutes, and the total, as far as 64 bits hold it, by the row's draw
unfoldable pub sheet_by_total : List ℕ → List Line
sheet_by_total packs = map (λ row. record { minutes = row.minutes; hours = min (sum packs) (2 ^ 64 - 1) / row.drawn }) draw_sheet

-- a text that ends at so many places, after blanks
abbrev pub right_of : ℕ → List ℕ → List ℕ
right_of places text = replicate (places - length text) 32 ++ text

-- a line of the sheet as it is printed: the minutes in two places, a blank, and the hours in twenty
abbrev pub line_text : Line → List ℕ
line_text shown = right_of 2 (decimal shown.minutes) ++ (32 ∷ right_of 20 (decimal shown.hours))
