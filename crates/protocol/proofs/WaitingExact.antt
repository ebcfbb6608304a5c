-- Who waits for whom.
use Rattle.std.proofs.Common.{◌≡◌, true, not, ◌&&◌, ◌↔◌, subst, arith}
use Rattle.protocol.specs.declared.holdings.HoldingState.{HoldingState}
use Rattle.protocol.specs.declared.holdings.HoldingState.TheVariants.{Reading}
use Rattle.protocol.specs.Holdings.{reading}
use Rattle.protocol.specs.Places.{has}
use Rattle.protocol.specs.WaitingLaws.{WaitingLaws}
use Rattle.protocol.proofs.Accepted.{commit_accepted}
use Rattle.protocol.proofs.Membership.{none_in}
use Rattle.protocol.proofs.Waiting.{waits_why, why_waits}

-- not both are to read
apart : (s u : HoldingState) → (not (reading s && reading u) ≡ true) ↔ (s ≡ Reading → u ≡ Reading → ⊥)
apart s u = (λ e. grind (arith, e), λ f. grind (arith, f))

pub waiting_laws : WaitingLaws
waiting_laws = record {
  clashes = λ g h. (λ e. grind (arith, e, apart g.state h.state), λ f. grind (arith, f, apart g.state h.state));
  set = λ hs p q. (waits_why hs p q, why_waits hs p q);
  commits = λ r m p e q w. none_in q (subst (λ n. has n q ≡ true) (commit_accepted r m p e).free (why_waits m.holdings p q w));
}
