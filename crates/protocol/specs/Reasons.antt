-- Why each call is refused, in plain words, in the order of the numbers.
use Rattle.std.specs.Prelude.{◌≡◌, ℕ, ◌+◌, ◌<◌, ◌≤◌, Bool, true, ◌⊎◌, ◌↔◌, List, [], ◌∷◌, ◌++◌, length, is_some}
use Rattle.terms.specs.declared.calls.Call.{Call}
use Rattle.terms.specs.declared.calls.Call.TheVariants.{Begin, Lock, Image, Commit, Abort}
use Rattle.terms.specs.Rule.{Rule}
use Rattle.protocol.specs.declared.holdings.HoldingState.TheVariants.{Open}
use Rattle.protocol.specs.declared.holdings.Holding.{Holding}
use Rattle.protocol.specs.declared.refusals.Refusal.{Refusal}
use Rattle.protocol.specs.Holdings.{locked}
use Rattle.protocol.specs.Lists.{In}
use Rattle.protocol.specs.Model.{Model, new, job_at, executions_of, holding_count}
use Rattle.protocol.specs.Pairing.{kept_pairs}
use Rattle.protocol.specs.Step.{new_refusals, refusals, run}
use Rattle.protocol.specs.Waiting.{WaitsFor, WaitsThrough}

-- a job runs at place p
abbrev RunsAt : Model → ℕ → Type 0
RunsAt m p = is_some (job_at m p) ≡ true

-- some holding is such
abbrev SomeHolding : Model → (Holding → Type 0) → Type 0
SomeHolding m P = (h : Holding) × In h m.holdings × P h

-- the reasons of each call
abbrev pub reasons : Rule → Model → Call → List (Type 0)
reasons r m (Begin p kind a) = (15 < p) ∷ RunsAt m p ∷ ((kind ≤ 255) × (r.knows kind ≡ true) → ⊥) ∷ []
reasons r m (Lock p o mode) =
    (15 < p) ∷ (RunsAt m p → ⊥) ∷ (executions_of p m ≡ []) ∷ (length m.values ≤ o)
    -- the job holds the object; it holds eight; the object is open
    ∷ SomeHolding m (λ h. (h.job ≡ p) × (h.object ≡ o)) ∷ (8 ≤ holding_count m p) ∷ SomeHolding m (λ h. (h.object ≡ o) × (h.state ≡ Open))
    -- the job would wait for itself
    ∷ WaitsThrough (m.holdings ++ locked p o mode ∷ []) p p
    -- no pair is kept, or too many
    ∷ (kept_pairs r m p o mode ≡ []) ∷ (m.limit < length (kept_pairs r m p o mode)) ∷ []
reasons r m (Image p o) =
    (15 < p) ∷ (RunsAt m p → ⊥) ∷ (executions_of p m ≡ []) ∷ (length m.values ≤ o)
    -- the job does not have the object open; there would be too many versions
    ∷ (SomeHolding m (λ h. (h.job ≡ p) × (h.object ≡ o) × (h.state ≡ Open)) → ⊥) ∷ (256 < length m.versions + length (executions_of p m)) ∷ []
reasons r m (Commit p) =
    (15 < p) ∷ (RunsAt m p → ⊥) ∷ (executions_of p m ≡ [])
    -- the job has an open holding; it waits for another
    ∷ SomeHolding m (λ h. (h.job ≡ p) × (h.state ≡ Open)) ∷ ((q : ℕ) × WaitsFor m.holdings p q) ∷ []
reasons r m (Abort p) = (15 < p) ∷ (RunsAt m p → ⊥) ∷ []

-- each test passes exactly when its reason holds
abbrev pub Tells : List (Bool × Refusal) → List (Type 0) → Type 0
Tells [] [] = Unit {0}
Tells [] (P ∷ Ps) = ⊥
Tells (t ∷ ts) [] = ⊥
Tells (t ∷ ts) (P ∷ Ps) = ((t.0 ≡ true) ↔ P) × Tells ts Ps

-- the tests and the reasons agree
pub record ReasonLaws : Type 0 where
  -- no book is made with a robustness above 120, or with a limit that is 0 or above 16
  pub of_new : (robustness limit : ℕ) → Tells (new_refusals robustness limit) ((120 < robustness) ∷ ((limit ≡ 0) ⊎ (16 < limit)) ∷ [])
  -- the tests of each call, after every list of calls on a new book
  pub of_call : (r : Rule) (robustness limit : ℕ) (first : List ℕ) (cs : List Call) (c : Call)
      → Tells (refusals r (run r (new robustness limit first) cs) c) (reasons r (run r (new robustness limit first) cs) c)
