-- A past: calls with their answers.
use Rattle.std.specs.Prelude.{ℕ, Bool, List, [], ◌∷◌, Option, ◌==◌}
use Rattle.terms.specs.declared.calls.Call.{Call}
use Rattle.terms.specs.declared.calls.Call.TheVariants.{Begin, Lock, Image, Commit, Abort}
use Rattle.terms.specs.Rule.{Rule}
use Rattle.protocol.specs.declared.refusals.Refusal.{Refusal}
use Rattle.protocol.specs.Model.{Model}
use Rattle.protocol.specs.Step.{answer, step}

-- a call, and why it was refused, if it was
pub record Event : Type 0 where
  pub call : Call
  pub answer : Option Refusal

-- the calls, with the answers that the model gives them
unfoldable pub past : Rule → Model → List Call → List Event
past r m [] = []
past r m (c ∷ cs) = record { call = c; answer = answer r m c } ∷ past r (step r m c) cs

-- the place that a call names
abbrev pub place_of : Call → ℕ
place_of (Begin p k a) = p
place_of (Lock p o mode) = p
place_of (Image p o) = p
place_of (Commit p) = p
place_of (Abort p) = p

-- the call names place p
abbrev pub is_at : ℕ → Call → Bool
is_at p c = place_of c == p
