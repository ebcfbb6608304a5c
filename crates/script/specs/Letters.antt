-- What a field says by its bytes: a letter, a number, a mode (R 82, W 87), a rule (C 67, L 76), a store (T 84, M 77), a number of objects.
use Rattle.std.specs.Prelude.{◌≡◌, ℕ, cond, List, [], ◌∷◌, Some, None, Ok, Err, Option, Result, ◌==◌, nat_le}
use Rattle.std.specs.Option.{ok_or, option_and_then}
use Rattle.fields.specs.Number.{number_in}
use Rattle.terms.specs.declared.modes.Mode.{Mode}
use Rattle.terms.specs.declared.modes.Mode.TheVariants.{Read, Write}
use Rattle.script.specs.Faults.{then}
use Rattle.script.specs.declared.faults.Fault.{Fault}
use Rattle.script.specs.declared.faults.Fault.TheVariants.{Form}
use Rattle.script.specs.declared.setups.RuleName.{RuleName}
use Rattle.script.specs.declared.setups.RuleName.TheVariants.{Charge, Loan}
use Rattle.script.specs.declared.setups.StoreName.{StoreName}
use Rattle.script.specs.declared.setups.StoreName.TheVariants.{Table, Image}

-- the only byte
abbrev pub letter_in : List ℕ → Option ℕ
letter_in [] = None
letter_in (c ∷ []) = Some c
letter_in (c ∷ d ∷ cs) = None

-- the value of the letter that is the whole field, by the values of letters
abbrev pub lettered_in : {X : Type 0} → (ℕ → Option X) → List ℕ → Result X Fault
lettered_in value_of w = ok_or (option_and_then value_of (letter_in w)) Form

-- x for the letter a, y for the letter b; no other letter has a value
abbrev pub one_of : {X : Type 0} → ℕ → X → ℕ → X → ℕ → Option X
one_of a x b y c = cond (c == a) (Some x) (cond (c == b) (Some y) None)

-- the letter of a mode
abbrev pub mode_letter : Mode → ℕ
mode_letter Read = 82
mode_letter Write = 87

-- the mode of a letter, if it has one
abbrev pub mode_of : ℕ → Option Mode
mode_of = one_of 82 Read 87 Write

-- the letter of a rule
abbrev pub rule_letter : RuleName → ℕ
rule_letter Charge = 67
rule_letter Loan = 76

-- the rule of a letter, if it has one
abbrev pub rule_of : ℕ → Option RuleName
rule_of = one_of 67 Charge 76 Loan

-- the letter of a store
abbrev pub store_letter : StoreName → ℕ
store_letter Table = 84
store_letter Image = 77

-- the store of a letter, if it has one
abbrev pub store_of : ℕ → Option StoreName
store_of = one_of 84 Table 77 Image

-- the letter of each value has that value
abbrev pub IsReadBack : {X : Type 0} → (X → ℕ) → (ℕ → Option X) → Type 0
IsReadBack {X} letter_of value_of = (x : X) → value_of (letter_of x) ≡ Some x

-- `R` or `W`
abbrev pub mode_in : List ℕ → Result Mode Fault
mode_in w = lettered_in mode_of w

-- `C` or `L`
abbrev pub rule_in : List ℕ → Result RuleName Fault
rule_in w = lettered_in rule_of w

-- `T` or `M`
abbrev pub store_in : List ℕ → Result StoreName Fault
store_in w = lettered_in store_of w

-- a number
abbrev pub value_in : List ℕ → Result ℕ Fault
value_in w = ok_or (number_in w) Form

-- a number up to 64
abbrev pub objects_in : List ℕ → Result ℕ Fault
objects_in w = then (value_in w) (λ n. cond (nat_le n 64) (Ok n) (Err Form))
