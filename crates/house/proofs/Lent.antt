-- The laws of the loan rule.
use Rattle.std.proofs.Common.{◌≡◌, ℕ, ◌^◌, ◌<◌, ◌≤◌, max, List, [], ◌∷◌, ap, inl, inr, arith}
use Rattle.house.specs.Loan.{loan_rule, due_day}
use Rattle.house.specs.Work.{Lock, worked}
use Rattle.house.specs.LoanLaws.{Met, NeverSooner, GivesWorkingDay}

pub gives_working_day : GivesWorkingDay 3
gives_working_day argument work object met = omega arith

-- the working day of an extend fits 32 bits, and never falls
work_fits : (argument work : ℕ) (locks : List Lock) → work < 2 ^ 32 → worked loan_rule 3 argument work locks < 2 ^ 32
work_fits argument work [] h = h
work_fits argument work (lock ∷ rest) h = work_fits argument (max work (due_day lock.met)) rest (omega arith)

work_rises : (argument work : ℕ) (locks : List Lock) → work ≤ worked loan_rule 3 argument work locks
work_rises argument work [] = omega arith
work_rises argument work (lock ∷ rest) = omega (arith, work_rises argument (max work (due_day lock.met)) rest)

-- it reaches the day of every pack that was met
work_reaches : (argument work met : ℕ) (locks : List Lock) → Met met locks → due_day met ≤ worked loan_rule 3 argument work locks
work_reaches argument work met [] none = elim none [ ]
work_reaches argument work met (lock ∷ rest) (inl e) =
    let day : due_day lock.met ≡ due_day met = ap due_day e in
    omega (arith, work_rises argument (max work (due_day lock.met)) rest)
work_reaches argument work met (lock ∷ rest) (inr later) = work_reaches argument (max work (due_day lock.met)) met rest later

pub never_sooner : NeverSooner 3
never_sooner argument object met locks here =
    let work = worked loan_rule 3 argument (due_day argument) locks in
    let given = gives_working_day argument work object met in
    let fits = work_fits argument (due_day argument) locks (omega arith) in
    let reached = work_reaches argument (due_day argument) met locks here in
    let risen = work_rises argument (due_day argument) locks in
    (omega arith, omega arith)
