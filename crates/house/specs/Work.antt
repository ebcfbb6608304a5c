-- The working value of a job that locks objects one after another, by any rule.
use Rattle.std.specs.Prelude.{ℕ, List, map}
use Rattle.std.specs.List.{fold, enumerate_from}
use Rattle.terms.specs.Rule.{Rule}
use Rattle.terms.specs.declared.modes.Mode.{Mode}
use Rattle.terms.specs.declared.modes.Mode.TheVariants.{Read}

-- a lock: the object, how it is locked, and the value met
pub record Lock : Type 0 where
  pub object : ℕ
  pub mode : Mode
  pub met : ℕ

-- the working value after these locks, from a given one on
abbrev pub worked : Rule → ℕ → ℕ → ℕ → List Lock → ℕ
worked rule kind argument work locks = fold (λ work lock. rule.take kind argument work lock.object lock.mode lock.met) work locks

-- the working value of a job, from its start over these locks
abbrev pub work_of : Rule → ℕ → ℕ → List Lock → ℕ
work_of rule kind argument locks = worked rule kind argument (rule.start kind argument) locks

-- every value locked to read, in order, from an object on
abbrev pub reads_from : ℕ → List ℕ → List Lock
reads_from object values = map (λ place. record { object = place.0; mode = Read; met = place.1 }) (enumerate_from object values)
