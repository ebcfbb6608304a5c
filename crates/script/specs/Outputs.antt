-- The bytes of each line of a replay's output, its line feed with it. Numbers are in decimal.
use Rattle.std.specs.Prelude.{ℕ, ◌^◌, ◌<◌, List, ◌++◌, codes, decimal}
use Rattle.script.specs.declared.outputs.OutputLine.{OutputLine}
use Rattle.script.specs.declared.outputs.OutputLine.TheVariants.{Answer, Object, Job}

-- number,answer
abbrev pub answer_bytes : ℕ → ℕ → List ℕ
answer_bytes number answer = decimal number ++ (codes "," ++ (decimal answer ++ codes "\n"))

-- O,object,value
abbrev pub object_bytes : ℕ → ℕ → List ℕ
object_bytes object value = codes "O," ++ (decimal object ++ (codes "," ++ (decimal value ++ codes "\n")))

-- J,place,executions
abbrev pub job_bytes : ℕ → ℕ → List ℕ
job_bytes place executions = codes "J," ++ (decimal place ++ (codes "," ++ (decimal executions ++ codes "\n")))

-- the bytes of a line of the output
abbrev pub line_bytes : OutputLine → List ℕ
line_bytes (Answer number answer) = answer_bytes number answer
line_bytes (Object object value) = object_bytes object value
line_bytes (Job place executions) = job_bytes place executions

-- the numbers of a line are of their types
abbrev pub FitsTypes : OutputLine → Type 0
FitsTypes (Answer number answer) = (number < 2 ^ 32) × (answer < 2 ^ 8)
FitsTypes (Object object value) = (object < 2 ^ 16) × (value < 2 ^ 64)
FitsTypes (Job place executions) = (place < 2 ^ 8) × (executions < 2 ^ 8)
