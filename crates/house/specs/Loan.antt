-- The loan rule: a value is the team that has a pack, and the day on which it is due.
-- Team 0 is the shelf. Day 0 is a loan without a due day.
use Rattle.std.specs.Prelude.{ℕ, ◌+◌, ◌*◌, ◌/◌, ◌%◌, ◌^◌, max, cond, is_some, Some, None, Option, ◌==◌}
use Rattle.terms.specs.Rule.{Rule}
use Rattle.house.specs.declared.loans.LoanKind.{LoanKind}
use Rattle.house.specs.declared.loans.LoanKind.TheVariants.{Lend, Return, Extend}

-- the kind of a number: 1 to 3, and no other
abbrev pub loan_kind : ℕ → Option LoanKind
loan_kind number = cond (number == 1) (Some Lend) (cond (number == 2) (Some Return) (cond (number == 3) (Some Extend) None))

-- the team of a value: the high 32 bits
abbrev pub team : ℕ → ℕ
team value = value / 2 ^ 32

-- the due day of a value: the low 32 bits
abbrev pub due_day : ℕ → ℕ
due_day value = value % 2 ^ 32

-- the value of a team and a due day
abbrev pub loan : ℕ → ℕ → ℕ
loan who day = who * 2 ^ 32 + day

-- an extend starts at its argument's day
abbrev pub loan_start : Option LoanKind → ℕ → ℕ
loan_start (Some Lend) argument = 0
loan_start (Some Return) argument = 0
loan_start (Some Extend) argument = due_day argument
loan_start None argument = 0

-- an extend keeps the later of its working day and the day met
abbrev pub loan_take : Option LoanKind → ℕ → ℕ → ℕ
loan_take (Some Lend) work met = 0
loan_take (Some Return) work met = 0
loan_take (Some Extend) work met = max work (due_day met)
loan_take None work met = 0

-- a lend takes a pack from the shelf, a return puts the team's own pack back on it, an extend keeps the team and sets the working day
abbrev pub loan_give : Option LoanKind → ℕ → ℕ → ℕ → ℕ
loan_give (Some Lend) argument work met = cond (team met == 0) argument met
loan_give (Some Return) argument work met = cond (team met == team argument) 0 met
loan_give (Some Extend) argument work met = loan (team met) (due_day work)
loan_give None argument work met = met

-- the rule
abbrev pub loan_rule : Rule
loan_rule = record {
  knows = λ kind. is_some (loan_kind kind);
  start = λ kind argument. loan_start (loan_kind kind) argument;
  take = λ kind argument work object mode met. loan_take (loan_kind kind) work met;
  give = λ kind argument work object met. loan_give (loan_kind kind) argument work met;
}
