-- What is wrong with a script or a line, as the number that answers it.
use Rattle.std.specs.Prelude.{ℕ, Ok, Err, Result}
use Rattle.script.specs.declared.faults.Fault.{Fault}
use Rattle.script.specs.declared.faults.Fault.TheVariants.{Length, Letter, Count, Form}

-- the number of a fault
abbrev pub number_of : Fault → ℕ
number_of Length = 19
number_of Letter = 20
number_of Count = 21
number_of Form = 22

-- what f makes of a value; a fault stays
abbrev pub then : {X Y : Type 0} → Result X Fault → (X → Result Y Fault) → Result Y Fault
then (Ok x) f = f x
then (Err e) f = Err e
