-- Packs as text: one number to a line.
use Rattle.std.specs.Prelude.{ℕ, ◌+◌, cond, List, [], ◌∷◌, ◌++◌, length, Some, None, Ok, Err, Option, Result, ◌==◌, nat_lt}
use Rattle.std.specs.List.{before_first, after_first, onto_first}
use Rattle.planner.specs.declared.faults.Fault.{Fault}
use Rattle.planner.specs.declared.faults.Fault.TheVariants.{NoNumber, TooMany}
use Rattle.planner.specs.Numbers.{number_of}

-- the bytes before the first line feed
abbrev pub before_feed : List ℕ → List ℕ
before_feed text = before_first (λ byte. byte == 10) text

-- the bytes after the first line feed
abbrev pub after_feed : List ℕ → List ℕ
after_feed text = after_first (λ byte. byte == 10) text

-- the lines of a text: a line feed ends each, and may be missing at the end
unfoldable pub lines_of : List ℕ → List (List ℕ)
lines_of [] = []
lines_of (byte ∷ rest) = cond (byte == 10) ([] ∷ lines_of rest) (onto_first byte (lines_of rest))

-- the answer for a line that is this number, and for one that is none
abbrev pub by_number : {A : Type 0} → Option ℕ → A → (ℕ → A) → A
by_number None refused taken = refused
by_number (Some pack) refused taken = taken pack

-- the packs of some lines, after those read from the lines before; or else the first fault
unfoldable pub packs_after : List ℕ → List (List ℕ) → Result (List ℕ) Fault
packs_after read [] = Ok read
packs_after read (line ∷ rest) =
    cond (nat_lt (length read) 65536)
    (by_number (number_of line) (Err (NoNumber (length read + 1))) (λ pack. packs_after (read ++ pack ∷ []) rest))
    (Err (TooMany (length read + 1)))

-- the packs of a text
abbrev pub packs_of : List ℕ → Result (List ℕ) Fault
packs_of text = packs_after [] (lines_of text)
