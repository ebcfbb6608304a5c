-- What a replay prints for the bytes of a script.
use Rattle.std.specs.Prelude.{ℕ, ◌+◌, List, [], ◌∷◌, ◌++◌, length, replicate, Some, None, Ok, Err, Option, Result, filter, filter_map, ◌≡◌, String, string_bytes, IfOk}
use Rattle.std.specs.Result.{result_ok}
use Rattle.terms.specs.declared.calls.Call.{Call}
use Rattle.terms.specs.Rule.{Rule}
use Rattle.protocol.specs.declared.assumptions.Execution.{Execution}
use Rattle.protocol.specs.declared.jobs.Job.{Job}
use Rattle.protocol.specs.declared.refusals.Refusal.{Refusal}
use Rattle.protocol.specs.Cases.{answer_number}
use Rattle.protocol.specs.Lists.{first}
use Rattle.protocol.specs.Model.{Model, new, names}
use Rattle.protocol.specs.Refusals.{refusal_number}
use Rattle.protocol.specs.Step.{answer, step, run, new_refusals}
use Rattle.house.specs.Charge.{charge_rule}
use Rattle.house.specs.Loan.{loan_rule}
use Rattle.script.specs.Faults.{number_of}
use Rattle.script.specs.Outputs.{answer_bytes, object_bytes, job_bytes}
use Rattle.script.specs.Scripts.{Reading, script_in}
use Rattle.script.specs.declared.faults.Fault.{Fault}
use Rattle.script.specs.declared.setups.RuleName.{RuleName}
use Rattle.script.specs.declared.setups.Setup.{Setup}
use Rattle.script.specs.declared.setups.RuleName.TheVariants.{Charge, Loan}

-- what a line of a script was read as
abbrev pub LineRead : Type 0
LineRead = Result Call Fault

-- the calls among the lines, in order
abbrev pub calls_in : List LineRead → List Call
calls_in rs = filter_map result_ok rs

-- the answer to each line, from this book on: that of its call, or the number of its fault, which changes nothing
unfoldable pub line_answers : Rule → Model → List LineRead → List ℕ
unfolding answer step
line_answers r m [] = []
line_answers r m (Ok c ∷ rs) = answer_number (answer r m c) ∷ line_answers r (step r m c) rs
line_answers r m (Err f ∷ rs) = number_of f ∷ line_answers r m rs

-- the text has these bytes behind those that it had
abbrev pub Appended : {Z : Type 0} → String Z → String Z → List ℕ → Type 0
Appended before after bytes = string_bytes after ≡ string_bytes before ++ bytes

-- a text that is these bytes, unless memory ran out
abbrev pub Writes : {Z E : Type 0} → Result (String Z) E → List ℕ → Type 0
Writes r bytes = IfOk r (λ out. string_bytes out ≡ bytes)

-- a line of output for each of the items, numbered from n on
unfoldable pub lines_from : {A : Type 0} → (ℕ → A → List ℕ) → ℕ → List A → List ℕ
lines_from line n [] = []
lines_from line n (x ∷ xs) = line n x ++ lines_from line (n + 1) xs

-- the line of the job at a place, where one runs, by all executions
abbrev pub place_bytes : List Execution → ℕ → Option Job → List ℕ
place_bytes executions p None = []
place_bytes executions p (Some j) = job_bytes p (length (filter (names p) executions))

-- the answers to the lines after the first, which start at line 2; the values of the objects and the running jobs of the book at the end
abbrev pub told : List ℕ → Model → List ℕ
told answers m = answer_bytes 1 0 ++ (lines_from answer_bytes 2 answers ++ (lines_from object_bytes 0 m.values ++ lines_from (place_bytes m.executions) 0 m.jobs))

-- where no book is made, its refusal answers the first line, and nothing follows
abbrev pub told_if : Option Refusal → List ℕ → List ℕ
told_if None others = others
told_if (Some x) others = answer_bytes 1 (refusal_number x)

-- a replay of lines by this job rule, over a store with these values, on a book that is made as the setup says
abbrev pub replay_of : Rule → List ℕ → Setup → List LineRead → List ℕ
replay_of r values setup lines =
    let start = new setup.robustness setup.limit values in
    told_if (first (new_refusals setup.robustness setup.limit)) (told (line_answers r start lines) (run r start (calls_in lines)))

-- the job rule of that name
abbrev pub rule_of : RuleName → Rule
rule_of Charge = charge_rule
rule_of Loan = loan_rule

-- a script that is read is replayed over so many objects, all at 0 (either store has these values); one that is not gives its fault alone
abbrev pub output_of : Result Reading Fault → List ℕ
output_of (Err f) = answer_bytes 1 (number_of f)
output_of (Ok (setup, lines)) = replay_of (rule_of setup.rule) (replicate setup.objects 0) setup lines

-- the output for the bytes of a script
abbrev pub output : List ℕ → List ℕ
output script = output_of (script_in script)
