-- Why packs are not read.
use Rattle.std.specs.Prelude.{◌≡◌, ℕ, List, ◌++◌, Err, codes, decimal, Result}
use Rattle.planner.specs.declared.faults.Fault.{Fault}
use Rattle.planner.specs.declared.faults.Fault.TheVariants.{NoNumber, TooMany, NoMemory}

-- a fault is the one that the text has; want of memory may come with any text
abbrev pub Refuses : Fault → Result (List ℕ) Fault → Type 0
Refuses (NoNumber line) packs = packs ≡ Err (NoNumber line)
Refuses (TooMany line) packs = packs ≡ Err (TooMany line)
Refuses NoMemory packs = Unit {0}

-- what is said of a fault
abbrev pub fault_text : Fault → List ℕ
fault_text (NoNumber line) = codes "line " ++ (decimal line ++ codes " is no number")
fault_text (TooMany line) = codes "line " ++ (decimal line ++ codes " is one too many")
fault_text NoMemory = codes "out of memory"
