-- A book after a job began.
use Rattle.std.proofs.Common.{◌≡◌, ℕ, ◌+◌, ◌<◌, ◌≤◌, List, [], ◌∷◌, ◌++◌, length, get_or, set, replicate, Some, None, Option, refl, ap, ◌∙◌, arith}
use Rattle.std.proofs.lemmas.List.{length_push, length-set, get_or-set_same}
use Rattle.terms.specs.declared.calls.Call.TheVariants.{Begin}
use Rattle.terms.specs.Rule.{Rule}
use Rattle.protocol.specs.declared.assumptions.Execution.{Execution}
use Rattle.protocol.specs.declared.jobs.Job.{Job}
use Rattle.protocol.specs.Begin.{begin_refusals}
use Rattle.protocol.specs.Assumptions.{assume}
use Rattle.protocol.specs.Lists.{first}
use Rattle.protocol.specs.Model.{Model}
use Rattle.protocol.specs.Step.{answer, refusals, next}
use Rattle.tables.specs.Within.{Within, room, job_of_execution}
use Rattle.tables.proofs.Counts.{count_one}
use Rattle.tables.proofs.Rooms.{within_few, within_join, within_begun}

pub begin_answer : (r : Rule) (m : Model) (p k a : ℕ) → answer r m (Begin p k a) ≡ first (begin_refusals r m p k)
unfolding answer refusals
begin_answer r m p k a = refl

module _ (jobs : List (Option Job)) (es : List Execution) (e : Execution) (j : Job) (inside : e.job < length jobs) (none : get_or jobs e.job None ≡ None)
    (w : Within 16 job_of_execution jobs es) where
  -- the new execution keeps to the room of its place
  pub begun_fits : Within 16 job_of_execution (set jobs e.job (Some j)) (es ++ e ∷ [])
  begun_fits =
      within_join 16 job_of_execution (set jobs e.job (Some j)) es (within_begun 16 job_of_execution jobs es w e.job j none) (e ∷ []) e.job j
      (get_or-set_same jobs e.job (Some j) None inside) (λ q ne. count_one job_of_execution q e ne) (omega (arith, w e.job, ap (room 16) none))

  -- so the table has room for it
  pub begun_room : length jobs ≡ 16 → length es + 1 ≤ 256
  begun_room long =
      omega (arith, within_few 16 job_of_execution (set jobs e.job (Some j)) (es ++ e ∷ []) begun_fits (length-set jobs e.job (Some j) ∙ long), length_push es e)

pub begun_is : (r : Rule) (m : Model) (p k a w : ℕ) (es : List Execution) → w ≡ r.start k a
    → es ≡ m.executions ++ (record { job = p; assumes = assume 0 0; work = w; tally = 0; met = replicate 8 0 }) ∷ []
    → ◌≡◌ {A = Model} (record { robustness = m.robustness; limit = m.limit; values = m.values; jobs = set m.jobs p (Some (record { kind = k; argument = a })); holdings = m.holdings; executions = es; versions = m.versions }) (next r m (Begin p k a))
unfolding next
begun_is r m p k a w es e f =
    ap (λ es. record { robustness = m.robustness; limit = m.limit; values = m.values; jobs = set m.jobs p (Some (record { kind = k; argument = a })); holdings = m.holdings; executions = es; versions = m.versions })
    (f ∙ ap (λ (w : ℕ). m.executions ++ (record { job = p; assumes = assume 0 0; work = w; tally = 0; met = replicate 8 0 }) ∷ []) e)
