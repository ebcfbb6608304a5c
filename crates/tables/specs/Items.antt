-- The records of a table that are in use.
use Rattle.std.specs.Prelude.{◌≡◌, ℕ, ◌+◌, ◌<◌, ◌≤◌, List, [], ◌++◌, length, replicate, take, Result, MatchResult}
use Rattle.tables.specs.declared.table.Table.{Table}

-- those in use, in order
abbrev pub items : {T : Type 0} {N : ℕ} → Table T N → List T
items t = take t.count t.records

-- a table with nothing in use: every place has the empty record
pub record IsUnused {T : Type 0} {N : ℕ} (empty : T) (t : Table T N) : Type 0 where
  pub starts : items t ≡ []
  pub whole : t.records ≡ replicate N empty
  pub spare : t.empty ≡ empty

-- to add more to a table with room for so many: all stand behind the others, or there is not the room and nothing changes
abbrev pub Added : {T V E : Type 0} → ℕ → List T → List T → List T → Result V E → Type 0
Added room before more after r =
    MatchResult r (λ _. (length before + length more ≤ room) × (after ≡ before ++ more)) (λ _. (room < length before + length more) × (after ≡ before))

-- a table after a change: these are in use now, and its empty record is what it was
pub record Becomes {T : Type 0} {N : ℕ} (before after : Table T N) (xs : List T) : Type 0 where
  pub becomes : items after ≡ xs
  pub spare : after.empty ≡ before.empty
