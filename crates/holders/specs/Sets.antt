-- Sets of places in a row.
use Rattle.std.specs.Prelude.{ℕ, List, slice_index_or}
use Rattle.protocol.specs.declared.places.PlaceSet.{PlaceSet}

-- the empty set, and what a read past the end gives
abbrev pub nobody : PlaceSet
nobody = record { mask = 0 }

-- the mask of the p-th set
abbrev pub mask_at : List PlaceSet → ℕ → ℕ
mask_at sets p = (slice_index_or sets p nobody).mask
