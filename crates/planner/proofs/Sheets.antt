-- The lines of the plan sheet.
use Rattle.std.proofs.Common.{◌≡◌, ℕ, ◌+◌, ◌-◌, ◌/◌, ◌^◌, min, List, [], ◌∷◌, length, sum, sym, refl, ap, ◌∙◌}
use Rattle.std.proofs.lemmas.List.Sums.{sum_by-cons}
use Rattle.terms.specs.declared.modes.Mode.TheVariants.{Read}
use Rattle.house.specs.declared.draws.Row.{Row}
use Rattle.house.specs.Draw.{draw}
use Rattle.house.specs.Charge.{charge_rule}
use Rattle.house.specs.ChargeLaws.{read_part, total_read}
use Rattle.house.specs.Work.{reads_from}
use Rattle.house.proofs.Charged.{tells_hours}
use Rattle.planner.specs.declared.plans.Line.{Line}
use Rattle.planner.specs.Plan.{line, sheet_by_rule, sheet_by_total}

abbrev at_row : List ℕ → Row → Line
at_row values row = record { minutes = row.minutes; hours = line charge_rule 3 row.minutes values }

-- the total that is read of every pack is the sum of the packs
total_sum : (object : ℕ) (values : List ℕ) → total_read (reads_from object values) ≡ sum values
total_sum object [] = refl
total_sum object (value ∷ rest) =
    sum_by-cons (λ lock. read_part lock.mode lock.met) (record { object = object; mode = Read; met = value }) (reads_from (object + 1) rest)
    ∙ ap (λ n. value + n) (total_sum (object + 1) rest) ∙ sym (sum_by-cons (λ x. x) value rest)

-- a row, where its draw is that of its minutes
row_total : (values : List ℕ) (minutes drawn : ℕ) → draw minutes ≡ drawn
    → at_row values (record { minutes = minutes; drawn = drawn }) ≡ record { minutes = minutes; hours = min (sum values) (2 ^ 64 - 1) / drawn }
row_total values minutes drawn e =
    ap (λ n. record { minutes = minutes; hours = n })
    (tells_hours minutes (length values) 0 (reads_from 0 values) ∙ ap (λ n. min n (2 ^ 64 - 1) / draw minutes) (total_sum 0 values) ∙ ap (λ n. min (sum values) (2 ^ 64 - 1) / n) e)

pub by_total : (values : List ℕ) → sheet_by_rule values ≡ sheet_by_total values
unfolding sheet_by_rule sheet_by_total draw
by_total values i =
    row_total values 0 4 refl i ∷ row_total values 10 7 refl i ∷ row_total values 20 10 refl i ∷ row_total values 30 14 refl i
    ∷ row_total values 40 18 refl i ∷ row_total values 50 22 refl i ∷ row_total values 60 27 refl i ∷ []
