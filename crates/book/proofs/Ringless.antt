-- A book stays without a ring of waiting jobs.
use Rattle.std.proofs.Common.{◌≡◌, ℕ, false, not, eqb, List, [], ◌∷◌, ◌++◌, map, sym, subst}
use Rattle.std.specs.Prelude.{filter}
use Rattle.protocol.specs.declared.holdings.Holding.{Holding}
use Rattle.protocol.specs.Holdings.{would_ring, turn}
use Rattle.protocol.specs.Ranks.{Acyclic, Ringless}
use Rattle.protocol.specs.RingTest.{OfPlaces}
use Rattle.protocol.proofs.Ranks.{acyclic_fewer, acyclic_push}
use Rattle.protocol.proofs.Waiting.{waits_rest, waits_turn}

-- a job's holdings go
pub ringless_left : (hs : List Holding) (k : ℕ) (gs : List Holding) → gs ≡ filter (λ h. not (eqb h.job k)) hs → Ringless hs → Ringless gs
ringless_left hs k gs is old = λ none. old (λ c. none (subst Acyclic (sym is) (acyclic_fewer hs (filter (λ h. not (eqb h.job k)) hs) (waits_rest k hs) c)))

-- a holding is turned
pub ringless_turned : (hs : List Holding) (p o : ℕ) (gs : List Holding) → gs ≡ map (turn p o) hs → Ringless hs → Ringless gs
ringless_turned hs p o gs is old = λ none. old (λ c. none (subst Acyclic (sym is) (acyclic_fewer hs (map (turn p o) hs) (waits_turn p o hs) c)))

-- a holding is added that passed the test
pub ringless_pushed : (hs : List Holding) (h : Holding) (gs : List Holding) → gs ≡ hs ++ h ∷ [] → OfPlaces hs → would_ring hs h ≡ false → Ringless hs → Ringless gs
ringless_pushed hs h gs is small test old = λ none. old (λ c. none (subst Acyclic (sym is) (acyclic_push hs h small test c)))
