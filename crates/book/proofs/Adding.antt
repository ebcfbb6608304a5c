-- What is added to a table with room for it.
use Rattle.std.proofs.Common.{◌≡◌, ℕ, ◌+◌, ◌≤◌, List, ◌++◌, length, Ok, Err, Result, refl, arith}
use Rattle.std.specs.Result.{IsOk}
use Rattle.tables.specs.Items.{Added as Put}

-- it comes behind what was there
pub with_room : {T V E : Type 0} (room : ℕ) (before more after : List T) (r : Result V E) → Put room before more after r → length before + length more ≤ room → after ≡ before ++ more
with_room room before more after (Ok v) a h = a.1
with_room room before more after (Err e) a h = absurd (omega (arith, a.0, h))

-- it is added
pub room_ok : {T V E : Type 0} (room : ℕ) (before more after : List T) (r : Result V E) → Put room before more after r → length before + length more ≤ room → IsOk r
room_ok room before more after (Ok v) a h = refl
room_ok room before more after (Err e) a h = absurd (omega (arith, a.0, h))
