-- What a whole script says: its setup, and what each line after the first asks for.
use Rattle.std.specs.Prelude.{◌≡◌, ℕ, cond, List, [], ◌∷◌, map, length, Ok, Err, vec_items, Result, Vec, nat_lt}
use Rattle.std.specs.declared.alloc.Global.{Global}
use Rattle.fields.specs.Cut.{pieces}
use Rattle.fields.specs.Places.{body}
use Rattle.fields.specs.declared.parts.Field.{Field}
use Rattle.terms.specs.declared.calls.Call.{Call}
use Rattle.script.specs.Calls.{call_of, call_in}
use Rattle.script.specs.Faults.{then}
use Rattle.script.specs.Lines.{texts}
use Rattle.script.specs.Setups.{setup_in}
use Rattle.script.specs.declared.faults.Fault.{Fault}
use Rattle.script.specs.declared.faults.Fault.TheVariants.{Length, Letter}
use Rattle.script.specs.declared.scripts.ReadError.{ReadError}
use Rattle.script.specs.declared.scripts.ReadError.TheVariants.{Refused, Memory}
use Rattle.script.specs.declared.setups.Setup.{Setup}

-- a script that is read: its setup, and the readings of its other lines
abbrev pub Reading : Type 0
Reading = Setup × List (Result Call Fault)

-- what the lines say; where the first is refused nothing follows
abbrev pub lines_read : List (List ℕ) → Result Reading Fault
lines_read [] = Err Letter
lines_read (first ∷ others) = then (setup_in first) (λ setup. Ok (setup, map call_in others))

-- what the bytes of a script say; above 32,768 of them it is too long
abbrev pub script_in : List ℕ → Result Reading Fault
script_in s = cond (nat_lt 32768 (length s)) (Err Length) (lines_read (pieces 10 (body s)))

-- a refusal is the script's own; want of memory may come to any script
abbrev pub Explains : ReadError → Result Reading Fault → Type 0
Explains (Refused e) r = r ≡ Err e
Explains (Memory e) r = Unit {0}

-- what the fields of one line ask for
abbrev pub row_asked : Vec Field Global → Result Call Fault
row_asked v = call_of (texts (vec_items v))
