-- A line as its letter and the fields after it, each with its place, and what it asks for.
use Rattle.std.specs.Prelude.{ℕ, cond, List, [], map, length, Some, None, Ok, Err, Option, Result, ◌==◌, slice_index_or}
use Rattle.fields.specs.declared.parts.Field.{Field}
use Rattle.terms.specs.declared.calls.Call.{Call}
use Rattle.script.specs.Calls.{having, begin_of, lock_of, image_of, commit_of, abort_of}
use Rattle.script.specs.Letters.{letter_in}
use Rattle.script.specs.Setups.{setup_with}
use Rattle.script.specs.declared.faults.Fault.{Fault}
use Rattle.script.specs.declared.faults.Fault.TheVariants.{Letter}
use Rattle.script.specs.declared.lines.Line.{Line}
use Rattle.script.specs.declared.lines.Line.TheVariants as lines
use Rattle.script.specs.declared.setups.Setup.{Setup}

-- the bytes of a field
abbrev pub text_of : Field → List ℕ
text_of f = f.bytes.now

-- the bytes of each field
abbrev pub texts : List Field → List (List ℕ)
texts fs = map text_of fs

-- what stands past the last field
abbrev pub no_field : Field
no_field = record { bytes = record { ref_ptr = (0, 0); now = [] }; at = 0 }

-- the field of number i; the letter is field 0
abbrev pub field : List Field → ℕ → Field
field fs i = slice_index_or fs i no_field

-- by the letter of the first line
abbrev pub first_by : Option ℕ → List Field → Result Line Fault
first_by None fs = Err Letter
first_by (Some c) fs = cond (c == 83) (having 6 (length fs) (Ok (lines.Setup (field fs 1) (field fs 2) (field fs 3) (field fs 4) (field fs 5)))) (Err Letter)

-- the first line that the fields make
abbrev pub first_line : List Field → Result Line Fault
first_line fs = first_by (letter_in (text_of (field fs 0))) fs

-- by the letter of a later line
abbrev pub later_by : Option ℕ → List Field → Result Line Fault
later_by None fs = Err Letter
later_by (Some c) fs =
    cond (c == 66) (having 4 (length fs) (Ok (lines.Begin (field fs 1) (field fs 2) (field fs 3))))
    (cond (c == 76) (having 4 (length fs) (Ok (lines.Lock (field fs 1) (field fs 2) (field fs 3))))
    (cond (c == 73) (having 3 (length fs) (Ok (lines.Image (field fs 1) (field fs 2))))
    (cond (c == 67) (having 2 (length fs) (Ok (lines.Commit (field fs 1))))
    (cond (c == 65) (having 2 (length fs) (Ok (lines.Abort (field fs 1))))
    (Err Letter)))))

-- the later line that the fields make
abbrev pub later_line : List Field → Result Line Fault
later_line fs = later_by (letter_in (text_of (field fs 0))) fs

-- the call that a line asks for
abbrev pub call_asked : Line → Result Call Fault
call_asked (lines.Setup u s r l o) = Err Letter
call_asked (lines.Begin p k a) = begin_of (text_of p) (text_of k) (text_of a)
call_asked (lines.Lock p o m) = lock_of (text_of p) (text_of o) (text_of m)
call_asked (lines.Image p o) = image_of (text_of p) (text_of o)
call_asked (lines.Commit p) = commit_of (text_of p)
call_asked (lines.Abort p) = abort_of (text_of p)

-- the setup that a line gives
abbrev pub setup_asked : Line → Result Setup Fault
setup_asked (lines.Setup u s r l o) = setup_with (text_of u) (text_of s) (text_of r) (text_of l) (text_of o)
setup_asked (lines.Begin p k a) = Err Letter
setup_asked (lines.Lock p o m) = Err Letter
setup_asked (lines.Image p o) = Err Letter
setup_asked (lines.Commit p) = Err Letter
setup_asked (lines.Abort p) = Err Letter
