-- The charge rule: a value is units of charge.
use Rattle.std.specs.Prelude.{ℕ, ◌+◌, ◌-◌, ◌/◌, ◌^◌, min, cond, is_some, Some, None, Option, ◌==◌}
use Rattle.terms.specs.Rule.{Rule}
use Rattle.terms.specs.declared.modes.Mode.{Mode}
use Rattle.terms.specs.declared.modes.Mode.TheVariants.{Read, Write}
use Rattle.house.specs.Draw.{draw}
use Rattle.house.specs.declared.charges.ChargeKind.{ChargeKind}
use Rattle.house.specs.declared.charges.ChargeKind.TheVariants.{Charge, Spend, Plan}

-- the kind of a number: 1 to 3, and no other
abbrev pub charge_kind : ℕ → Option ChargeKind
charge_kind number = cond (number == 1) (Some Charge) (cond (number == 2) (Some Spend) (cond (number == 3) (Some Plan) None))

-- a sum, which stops at the largest number of 64 bits
abbrev pub capped_sum : ℕ → ℕ → ℕ
capped_sum a b = min (a + b) (2 ^ 64 - 1)

-- a charge or a spend starts at its argument, a plan at 0
abbrev pub charge_start : Option ChargeKind → ℕ → ℕ
charge_start (Some Charge) argument = argument
charge_start (Some Spend) argument = argument
charge_start (Some Plan) argument = 0
charge_start None argument = 0

-- a plan adds what it meets to read, and not what it meets to write
abbrev pub plan_take : ℕ → Mode → ℕ → ℕ
plan_take work Read met = capped_sum work met
plan_take work Write met = work

-- only a plan changes its working value
abbrev pub charge_take : Option ChargeKind → ℕ → Mode → ℕ → ℕ
charge_take (Some Charge) work mode met = work
charge_take (Some Spend) work mode met = work
charge_take (Some Plan) work mode met = plan_take work mode met
charge_take None work mode met = 0

-- a charge adds its argument, a spend takes it away as far as there is charge, a plan tells the hours that its total lasts
abbrev pub charge_give : Option ChargeKind → ℕ → ℕ → ℕ → ℕ
charge_give (Some Charge) argument work met = capped_sum met argument
charge_give (Some Spend) argument work met = met - argument
charge_give (Some Plan) argument work met = work / draw argument
charge_give None argument work met = met

-- the rule
abbrev pub charge_rule : Rule
charge_rule = record {
  knows = λ kind. is_some (charge_kind kind);
  start = λ kind argument. charge_start (charge_kind kind) argument;
  take = λ kind argument work object mode met. charge_take (charge_kind kind) work mode met;
  give = λ kind argument work object met. charge_give (charge_kind kind) argument work met;
}
