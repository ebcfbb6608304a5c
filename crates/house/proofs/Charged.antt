-- The laws of the charge rule.
use Rattle.std.proofs.Common.{◌≡◌, ℕ, suc, ◌+◌, ◌-◌, ◌/◌, ◌^◌, ◌<◌, ◌≤◌, min, Bool, true, false, cond, leb, List, [], ◌∷◌, ◌++◌, Some, option_map, unwrap_or, map, length, get_or, sym, refl, ap, ◌∙◌, ⊎_elim, arith, lit<, lit≤}
use Rattle.std.specs.List.{find}
use Rattle.std.proofs.lemmas.List.{get_or_append_left}
use Rattle.std.proofs.lemmas.List.Sums.{sum_by-cons}
use Rattle.std.proofs.lemmas.Bool.{cases_lt}
use Rattle.std.proofs.lemmas.Bool.Decides.{nat_tests}
use Rattle.terms.specs.declared.modes.Mode.{Mode}
use Rattle.terms.specs.declared.modes.Mode.TheVariants.{Read, Write}
use Rattle.house.specs.declared.draws.Row.{Row}
use Rattle.house.specs.Draw.{draw, draw_sheet}
use Rattle.house.specs.Charge.{charge_rule, plan_take}
use Rattle.house.specs.Work.{Lock, worked}
use Rattle.house.specs.ChargeLaws.{TellsHours, OnTheSheet, Rises, read_part, total_read}

plan_fits : (work : ℕ) (mode : Mode) (met : ℕ) → work < 2 ^ 64 → plan_take work mode met < 2 ^ 64
plan_fits work Read met h = omega arith
plan_fits work Write met h = h

plan_step : (work : ℕ) (mode : Mode) (met rest : ℕ) → min (plan_take work mode met + rest) (2 ^ 64 - 1) ≡ min (work + (read_part mode met + rest)) (2 ^ 64 - 1)
plan_step work Read met rest = omega arith
plan_step work Write met rest = omega arith

-- the working value of a plan is the total so far
plan_work : (argument work : ℕ) (locks : List Lock) → work < 2 ^ 64 → worked charge_rule 3 argument work locks ≡ min (work + total_read locks) (2 ^ 64 - 1)
plan_work argument work [] h = omega arith
plan_work argument work (lock ∷ rest) h =
    plan_work argument (plan_take work lock.mode lock.met) rest (plan_fits work lock.mode lock.met h)
    ∙ plan_step work lock.mode lock.met (total_read rest)
    ∙ ap (λ n. min (work + n) (2 ^ 64 - 1)) (sym (sum_by-cons (λ lock. read_part lock.mode lock.met) lock rest))

pub tells_hours : TellsHours 3
tells_hours argument object met locks =
    let total : 0 + total_read locks ≡ total_read locks = omega arith in
    ap (λ w. w / draw argument) (plan_work argument 0 locks (lit< tt) ∙ ap (λ n. min n (2 ^ 64 - 1)) total)

pub rises : Rises draw
unfolding draw
rises fewer more h = grind (arith, nat_tests)

-- the draw that is found is a row's, or else the one named
found : (otherwise asked : ℕ) (rows : List Row)
    → (k : ℕ) × ((k ≤ length rows) × (unwrap_or (option_map (λ row. row.drawn) (find (λ row. leb asked row.minutes) rows)) otherwise ≡ get_or (map (λ row. row.drawn) rows ++ otherwise ∷ []) k 0))
found otherwise asked [] = (0, (lit≤ tt, refl))
found otherwise asked (row ∷ rest) =
    let further = found otherwise asked rest in
    let P : Bool → Type 0 = λ b.
    (k : ℕ) × ((k ≤ length (row ∷ rest)) × (unwrap_or (option_map (λ row. row.drawn) (cond b (Some row) (find (λ row. leb asked row.minutes) rest))) otherwise ≡ get_or (map (λ row. row.drawn) (row ∷ rest) ++ otherwise ∷ []) k 0)) in
    elim (leb asked row.minutes) as P [ true ↦ (0, (omega arith, refl)) | false ↦ (suc further.0, (omega (arith, further.1.0), further.1.1)) ]

pub on_the_sheet : OnTheSheet draw
unfolding draw
on_the_sheet asked =
    let place = found 27 asked draw_sheet in
    ⊎_elim
    (λ (low : place.0 < 7). (place.0, (low, place.1.1 ∙ get_or_append_left (map (λ row. row.drawn) draw_sheet) (27 ∷ []) 0 place.0 low)))
    (λ (top : 7 ≤ place.0).
    let last : place.0 ≡ 7 = omega (arith, place.1.0) in
    (6, (lit< tt, place.1.1 ∙ ap (λ k. get_or (map (λ row. row.drawn) draw_sheet ++ 27 ∷ []) k 0) last)))
    (cases_lt place.0 7)
