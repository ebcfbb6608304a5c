-- What a storeskeeper may count on in the loan rule. A kind goes by its number.
use Rattle.std.specs.Prelude.{◌≡◌, ℕ, ◌≤◌, ◌⊎◌, List, [], ◌∷◌, ◌≢◌}
use Rattle.house.specs.Loan.{loan_rule, team, due_day}
use Rattle.house.specs.Work.{Lock, work_of}

-- a job of this kind leaves a pack that a team has as it is
abbrev pub KeepsLent : ℕ → Type 0
KeepsLent kind = (argument work object met : ℕ) → (team met ≢ 0) → loan_rule.give kind argument work object met ≡ met

-- a job of this kind leaves a pack that another team than the argument's has as it is
abbrev pub KeepsOthers : ℕ → Type 0
KeepsOthers kind = (argument work object met : ℕ) → (team met ≢ team argument) → loan_rule.give kind argument work object met ≡ met

-- a job of this kind leaves each pack with its team
abbrev pub KeepsTeam : ℕ → Type 0
KeepsTeam kind = (argument work object met : ℕ) → team (loan_rule.give kind argument work object met) ≡ team met

-- the value was met by one of the locks
abbrev pub Met : ℕ → List Lock → Type 0
Met value [] = ⊥
Met value (lock ∷ rest) = (lock.met ≡ value) ⊎ Met value rest

-- A job of this kind, to a pack that it has locked, never gives a due day before the one met, nor before its argument's.
-- Of a pack that the job has not locked it is not so: the working day may lie before that pack's.
-- Day 0 counts here as the number it is: a loan without a due day gets the working day like any other.
abbrev pub NeverSooner : ℕ → Type 0
NeverSooner kind =
    (argument object met : ℕ) (locks : List Lock) → Met met locks
    → (due_day met ≤ due_day (loan_rule.give kind argument (work_of loan_rule kind argument locks) object met))
    × (due_day argument ≤ due_day (loan_rule.give kind argument (work_of loan_rule kind argument locks) object met))

-- with any working value, the day that a job of this kind gives is the low 32 bits of that value
abbrev pub GivesWorkingDay : ℕ → Type 0
GivesWorkingDay kind = (argument work object met : ℕ) → due_day (loan_rule.give kind argument work object met) ≡ due_day work
