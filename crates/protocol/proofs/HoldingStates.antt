-- The three states of a holding, and what turning an open one does to them.
use Rattle.std.proofs.Common.{◌≡◌, Bool, true, false, ◌⊎◌, arith}
use Rattle.protocol.specs.declared.holdings.HoldingState.{HoldingState}
use Rattle.protocol.specs.Holdings.{reading, opened, turned, turn_state}

-- a turned holding is neither reading nor open
pub reading_turned : (s : HoldingState) → turned s ≡ true → reading s ≡ false
reading_turned s e = grind arith

pub opened_turned : (s : HoldingState) → turned s ≡ true → opened s ≡ true → ⊥
opened_turned s e f = grind arith

-- what reads, reads still
pub reading_turn : (b : Bool) (s : HoldingState) → reading (turn_state b s) ≡ reading s
reading_turn b s = grind arith

-- what is open was open, what was turned is turned
pub opened_turn : (b : Bool) (s : HoldingState) → opened (turn_state b s) ≡ true → opened s ≡ true
opened_turn b s e = grind arith

pub turned_turn : (b : Bool) (s : HoldingState) → turned s ≡ true → turned (turn_state b s) ≡ true
turned_turn b s e = grind arith

-- an open one that is turned
pub open_turns : (b : Bool) (s : HoldingState) → b ≡ true → opened s ≡ true → turned (turn_state b s) ≡ true
open_turns b s e o = grind arith

-- what is turned was turned or open
pub turned_back : (b : Bool) (s : HoldingState) → turned (turn_state b s) ≡ true → (turned s ≡ true) ⊎ (opened s ≡ true)
turned_back b s e = grind arith

-- what is not turned by this stays
pub same_state : (c : Bool) (z : HoldingState) → c ≡ false → turned (turn_state c z) ≡ true → turned z ≡ true
same_state c z e t = grind arith
