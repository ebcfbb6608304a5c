-- A book after a job ended.
use Rattle.std.proofs.Common.{◌≡◌, ℕ, not, ◌&&◌, eqb, List, map, set, None, refl, ap, ◌∙◌}
use Rattle.std.specs.Prelude.{filter}
use Rattle.terms.specs.declared.calls.Call.TheVariants.{Abort}
use Rattle.protocol.specs.declared.jobs.Ending.{Ending}
use Rattle.protocol.specs.declared.jobs.Ending.TheVariants.{Aborted}
use Rattle.protocol.specs.declared.assumptions.Execution.{Execution}
use Rattle.protocol.specs.declared.holdings.Holding.{Holding}
use Rattle.protocol.specs.declared.assumptions.Version.{Version}
use Rattle.protocol.specs.Lists.{first}
use Rattle.protocol.specs.Lock.{no_job}
use Rattle.protocol.specs.Model.{Model}
use Rattle.protocol.specs.Settling.{settle, survives, settled_execution, settled_version}
use Rattle.protocol.specs.Step.{answer, refusals, next}
use Rattle.terms.specs.Rule.{Rule}

pub abort_answer : (r : Rule) (m : Model) (p : ℕ) → answer r m (Abort p) ≡ first (no_job m p)
unfolding answer refusals
abort_answer r m p = refl

pub aborted_is : (r : Rule) (m : Model) (p : ℕ) → settle Aborted p m.values m ≡ next r m (Abort p)
unfolding next
aborted_is r m p = refl

pub ended_is : (w : Ending) (k : ℕ) (values : List ℕ) (m : Model) (hs : List Holding) (es : List Execution) (vs : List Version)
    → hs ≡ filter (λ h. not (eqb h.job k)) m.holdings
    → es ≡ map (settled_execution k) (filter (λ e. not (eqb e.job k) && survives w k e.assumes) m.executions)
    → vs ≡ map (settled_version k) (filter (λ v. not (eqb v.maker k) && survives w k v.assumes) m.versions)
    → ◌≡◌ {A = Model} (record { robustness = m.robustness; limit = m.limit; values = values; jobs = set m.jobs k None; holdings = hs; executions = es; versions = vs }) (settle w k values m)
unfolding settle
ended_is w k values m hs es vs a b c =
    ap (λ hs. record { robustness = m.robustness; limit = m.limit; values = values; jobs = set m.jobs k None; holdings = hs; executions = es; versions = vs }) a
    ∙ ap (λ es. record { robustness = m.robustness; limit = m.limit; values = values; jobs = set m.jobs k None; holdings = filter (λ h. not (eqb h.job k)) m.holdings; executions = es; versions = vs }) b
    ∙ ap (λ vs. record { robustness = m.robustness; limit = m.limit; values = values; jobs = set m.jobs k None; holdings = filter (λ h. not (eqb h.job k)) m.holdings; executions = map (settled_execution k) (filter (λ e. not (eqb e.job k) && survives w k e.assumes) m.executions); versions = vs }) c
