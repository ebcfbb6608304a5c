-- The test for a ring of waits: it refuses exactly the locks by which a job would come to wait for itself.
use Rattle.std.specs.Prelude.{◌≡◌, ℕ, ◌<◌, true, ◌↔◌, List, [], ◌∷◌, ◌++◌}
use Rattle.terms.specs.declared.calls.Call.{Call}
use Rattle.terms.specs.Rule.{Rule}
use Rattle.protocol.specs.declared.holdings.Holding.{Holding}
use Rattle.protocol.specs.Holdings.{would_ring}
use Rattle.protocol.specs.Lists.{In}
use Rattle.protocol.specs.Model.{new}
use Rattle.protocol.specs.Step.{run}
use Rattle.protocol.specs.Waiting.{WaitsThrough}

-- no job waits, directly or through others, for itself
abbrev pub NoRing : List Holding → Type 0
NoRing hs = (p : ℕ) → WaitsThrough hs p p → ⊥

-- each holding is of a job at one of the sixteen places
abbrev pub OfPlaces : List Holding → Type 0
OfPlaces hs = (h : Holding) → In h hs → h.job < 16

-- the test is exact, and no ring ever comes to be
pub record RingTest : Type 0 where
  -- where there is no ring, the test tells whether by the new holding, behind the others, its job would wait for itself
  pub exact : (hs : List Holding) (h : Holding) → OfPlaces hs → NoRing hs → (would_ring hs h ≡ true) ↔ WaitsThrough (hs ++ h ∷ []) h.job h.job
  -- there is no ring after any list of calls on a new book
  pub kept : (r : Rule) (robustness limit : ℕ) (first : List ℕ) (cs : List Call) → OfPlaces (run r (new robustness limit first) cs).holdings × NoRing (run r (new robustness limit first) cs).holdings
