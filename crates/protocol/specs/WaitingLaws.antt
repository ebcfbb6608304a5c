-- Who waits for whom, in plain words.
use Rattle.std.specs.Prelude.{◌≡◌, ℕ, true, ◌↔◌, List, None, ◌≢◌}
use Rattle.terms.specs.declared.calls.Call.TheVariants.{Commit}
use Rattle.terms.specs.Rule.{Rule}
use Rattle.protocol.specs.declared.holdings.HoldingState.TheVariants.{Reading}
use Rattle.protocol.specs.declared.holdings.Holding.{Holding}
use Rattle.protocol.specs.Holdings.{clash, waits}
use Rattle.protocol.specs.Model.{Model}
use Rattle.protocol.specs.Places.{has}
use Rattle.protocol.specs.Step.{answer}
use Rattle.protocol.specs.Waiting.{WaitsFor}

-- clashing and waiting, as sets and as relations
pub record WaitingLaws : Type 0 where
  -- two holdings clash if they are of one object and not both are to read
  pub clashes : (g h : Holding) → (clash g h ≡ true) ↔ ((g.object ≡ h.object) × (g.state ≡ Reading → h.state ≢ Reading))
  -- the set of those for whom a job waits has them and no others
  pub set : (hs : List Holding) (p q : ℕ) → (has (waits hs p) q ≡ true) ↔ WaitsFor hs p q
  -- a job whose commit is accepted waits for none
  pub commits : (r : Rule) (m : Model) (p : ℕ) → answer r m (Commit p) ≡ None → (q : ℕ) → WaitsFor m.holdings p q → ⊥
