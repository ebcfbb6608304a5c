-- What the first line gives: S (83), rule, store, robustness, limit, number of objects.
use Rattle.std.specs.Prelude.{ℕ, cond, List, length, Some, None, Ok, Err, Option, Result, ◌==◌}
use Rattle.fields.specs.Cut.{pieces}
use Rattle.script.specs.Calls.{nth, having}
use Rattle.script.specs.Faults.{then}
use Rattle.script.specs.Letters.{letter_in, rule_in, store_in, value_in, objects_in}
use Rattle.script.specs.declared.faults.Fault.{Fault}
use Rattle.script.specs.declared.faults.Fault.TheVariants.{Letter}
use Rattle.script.specs.declared.setups.Setup.{Setup}

-- what the five fields after the letter give
abbrev pub setup_with : List ℕ → List ℕ → List ℕ → List ℕ → List ℕ → Result Setup Fault
setup_with u s r l o =
    then (rule_in u) (λ rule. then (store_in s) (λ store. then (value_in r) (λ robustness. then (value_in l) (λ limit. then (objects_in o) (λ objects.
    Ok (record { rule = rule; store = store; robustness = robustness; limit = limit; objects = objects }))))))

-- by the letter, the number of fields, and the fields
abbrev pub setup_by : Option ℕ → ℕ → (ℕ → List ℕ) → Result Setup Fault
setup_by None n f = Err Letter
setup_by (Some c) n f = cond (c == 83) (having 6 n (setup_with (f 1) (f 2) (f 3) (f 4) (f 5))) (Err Letter)

-- what the fields of a line give
abbrev pub setup_of : List (List ℕ) → Result Setup Fault
setup_of fs = setup_by (letter_in (nth fs 0)) (length fs) (nth fs)

-- what the bytes of a line give
abbrev pub setup_in : List ℕ → Result Setup Fault
setup_in line = setup_of (pieces 44 line)
