-- Holdings whose jobs are at places.
use Rattle.std.specs.Prelude.{ℕ, ◌<◌, List, slice_index_or}
use Rattle.protocol.specs.declared.holdings.Holding.{Holding}
use Rattle.protocol.specs.Empty.{no_holding}

-- every job is at one of the sixteen places
abbrev pub Placed : List Holding → Type 0
Placed hs = (k : ℕ) → (slice_index_or hs k no_holding).job < 16
