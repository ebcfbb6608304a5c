-- What a line after the first asks for: B (66), L (76), I (73), C (67) or A (65), then its fields.
use Rattle.std.specs.Prelude.{ℕ, cond, List, [], length, Some, None, Ok, Err, Option, Result, ◌==◌, slice_index_or}
use Rattle.fields.specs.Cut.{pieces}
use Rattle.terms.specs.declared.calls.Call.{Call}
use Rattle.terms.specs.declared.calls.Call.TheVariants.{Begin, Lock, Image, Commit, Abort}
use Rattle.script.specs.Faults.{then}
use Rattle.script.specs.Letters.{letter_in, mode_in, value_in}
use Rattle.script.specs.declared.faults.Fault.{Fault}
use Rattle.script.specs.declared.faults.Fault.TheVariants.{Letter, Count}

-- the field of number i; the letter is field 0
abbrev pub nth : List (List ℕ) → ℕ → List ℕ
nth fs i = slice_index_or fs i []

-- r, where there are n fields in all
abbrev pub having : {X : Type 0} → ℕ → ℕ → Result X Fault → Result X Fault
having n count r = cond (count == n) r (Err Count)

-- B,place,kind,argument
abbrev pub begin_of : List ℕ → List ℕ → List ℕ → Result Call Fault
begin_of p k a = then (value_in p) (λ place. then (value_in k) (λ kind. then (value_in a) (λ argument. Ok (Begin place kind argument))))

-- L,place,object,mode
abbrev pub lock_of : List ℕ → List ℕ → List ℕ → Result Call Fault
lock_of p o m = then (value_in p) (λ place. then (value_in o) (λ object. then (mode_in m) (λ mode. Ok (Lock place object mode))))

-- I,place,object
abbrev pub image_of : List ℕ → List ℕ → Result Call Fault
image_of p o = then (value_in p) (λ place. then (value_in o) (λ object. Ok (Image place object)))

-- C,place
abbrev pub commit_of : List ℕ → Result Call Fault
commit_of p = then (value_in p) (λ place. Ok (Commit place))

-- A,place
abbrev pub abort_of : List ℕ → Result Call Fault
abort_of p = then (value_in p) (λ place. Ok (Abort place))

-- by the letter, the number of fields, and the fields
abbrev pub call_by : Option ℕ → ℕ → (ℕ → List ℕ) → Result Call Fault
call_by None n f = Err Letter
call_by (Some c) n f =
    cond (c == 66) (having 4 n (begin_of (f 1) (f 2) (f 3)))
    (cond (c == 76) (having 4 n (lock_of (f 1) (f 2) (f 3)))
    (cond (c == 73) (having 3 n (image_of (f 1) (f 2)))
    (cond (c == 67) (having 2 n (commit_of (f 1)))
    (cond (c == 65) (having 2 n (abort_of (f 1)))
    (Err Letter)))))

-- what the fields of a line ask for
abbrev pub call_of : List (List ℕ) → Result Call Fault
call_of fs = call_by (letter_in (nth fs 0)) (length fs) (nth fs)

-- what the bytes of a line ask for
abbrev pub call_in : List ℕ → Result Call Fault
call_in line = call_of (pieces 44 line)
