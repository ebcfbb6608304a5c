-- A new book.
use Rattle.std.proofs.Common.{◌≡◌, ℕ, ◌≤◌, ◌||◌, ◌≢◌, List, [], ◌∷◌, replicate, None, Option, sym, ap, ◌∙◌, subst, ap₂, arith}
use Rattle.std.proofs.lemmas.Bool.{le-ltb, ne_eqb}
use Rattle.protocol.specs.declared.assumptions.Execution.{Execution}
use Rattle.protocol.specs.declared.assumptions.Version.{Version}
use Rattle.protocol.specs.declared.holdings.Holding.{Holding}
use Rattle.protocol.specs.declared.jobs.Job.{Job}
use Rattle.protocol.specs.declared.refusals.Refusal.TheVariants.{RobustnessTooLarge, LimitOutOfRange}
use Rattle.protocol.specs.Lists.{first}
use Rattle.protocol.specs.Model.{Model, new}
use Rattle.protocol.specs.Ranks.{Acyclic, Ringless}
use Rattle.protocol.specs.Step.{new_refusals}
use Rattle.protocol.proofs.Ranks.{acyclic_none}
use Rattle.tables.specs.Within.{Within}

pub new_accepted : (robustness limit : ℕ) → robustness ≤ 120 → limit ≢ 0 → limit ≤ 16 → first (new_refusals robustness limit) ≡ None
new_accepted x l few some small =
    ap₂ (λ a b. first ((a, RobustnessTooLarge) ∷ (b, LimitOutOfRange) ∷ [])) (le-ltb 120 x few) (ap₂ ◌||◌ (ne_eqb l 0 some) (le-ltb 16 l small))

-- no records keep to any room
pub none_within : {A : Type 0} (b : ℕ) (job : A → ℕ) (jobs : List (Option Job)) (xs : List A) → xs ≡ [] → Within b job jobs xs
none_within b job jobs xs e = subst (Within b job jobs) (sym e) (λ p. omega arith)

pub none_ringless : (hs : List Holding) → hs ≡ [] → Ringless hs
none_ringless hs e = λ not. not (subst Acyclic (sym e) acyclic_none)

pub new_is : (robustness limit : ℕ) (values : List ℕ) (hs : List Holding) (es : List Execution) (vs : List Version) → hs ≡ [] → es ≡ [] → vs ≡ []
    → ◌≡◌ {A = Model} (record { robustness = robustness; limit = limit; values = values; jobs = replicate 16 None; holdings = hs; executions = es; versions = vs }) (new robustness limit values)
unfolding new
new_is x l values hs es vs a b c =
    ap (λ hs. record { robustness = x; limit = l; values = values; jobs = replicate 16 None; holdings = hs; executions = es; versions = vs }) a
    ∙ ap (λ es. record { robustness = x; limit = l; values = values; jobs = replicate 16 None; holdings = []; executions = es; versions = vs }) b
    ∙ ap (λ vs. record { robustness = x; limit = l; values = values; jobs = replicate 16 None; holdings = []; executions = []; versions = vs }) c
