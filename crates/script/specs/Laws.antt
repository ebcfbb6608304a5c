-- What is written is read back, and nothing else is read.
use Rattle.std.specs.Prelude.{◌≡◌, ℕ, ◌<◌, ◌≤◌, List, Ok}
use Rattle.terms.specs.declared.calls.Call.{Call}
use Rattle.terms.specs.declared.calls.Call.TheVariants.{Begin, Lock, Image, Commit, Abort}
use Rattle.script.specs.Calls.{call_in}
use Rattle.script.specs.Setups.{setup_in}
use Rattle.script.specs.Writing.{call_bytes, setup_bytes}
use Rattle.script.specs.declared.setups.Setup.{Setup}

-- the numbers of a call are below the limit
abbrev pub ShortCall : ℕ → Call → Type 0
ShortCall limit (Begin place kind argument) = (place < limit) × (kind < limit) × (argument < limit)
ShortCall limit (Lock place object mode) = (place < limit) × (object < limit)
ShortCall limit (Image place object) = (place < limit) × (object < limit)
ShortCall limit (Commit place) = place < limit
ShortCall limit (Abort place) = place < limit

-- the numbers of a setup are below the limit, and it has at most so many objects
abbrev pub ShortSetup : ℕ → ℕ → Setup → Type 0
ShortSetup limit most s = (s.robustness < limit) × (s.limit < limit) × (s.objects ≤ most)

-- a line asks for a call exactly where it is how that call, with numbers below the limit, is written
abbrev pub WrittenCallsReadBack : ℕ → Type 0
WrittenCallsReadBack limit =
    ((c : Call) → ShortCall limit c → call_in (call_bytes c) ≡ Ok c)
    × ((line : List ℕ) (c : Call) → call_in line ≡ Ok c → ShortCall limit c × (line ≡ call_bytes c))

-- a line gives a setup exactly where it is how that setup, with numbers below the limit and at most so many objects, is written
abbrev pub WrittenSetupsReadBack : ℕ → ℕ → Type 0
WrittenSetupsReadBack limit most =
    ((s : Setup) → ShortSetup limit most s → setup_in (setup_bytes s) ≡ Ok s)
    × ((line : List ℕ) (s : Setup) → setup_in line ≡ Ok s → ShortSetup limit most s × (line ≡ setup_bytes s))
