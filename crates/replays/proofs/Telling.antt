-- What a run tells is the output of a replay.
use Rattle.std.proofs.Common.{◌≡◌, ℕ, true, false, List, ◌++◌, length, is_some, Some, None, Option, Result, sym, ap, ◌∙◌, arith}
use Rattle.std.specs.Prelude.{filter}
use Rattle.std.proofs.lemmas.List.{append-nil}
use Rattle.terms.specs.declared.calls.Call.{Call}
use Rattle.terms.specs.Rule.{Rule}
use Rattle.protocol.specs.declared.assumptions.Execution.{Execution}
use Rattle.protocol.specs.declared.jobs.Job.{Job}
use Rattle.protocol.specs.declared.refusals.Refusal.{Refusal}
use Rattle.protocol.specs.Lists.{first as first_of}
use Rattle.protocol.specs.Model.{Model, new, names}
use Rattle.protocol.specs.Step.{run, new_refusals}
use Rattle.book.specs.Told.{answers_of}
use Rattle.script.specs.Outputs.{job_bytes}
use Rattle.script.specs.declared.setups.Setup.{Setup}
use Rattle.replays.specs.Output.{LineRead, calls_in, line_answers, told, told_if, replay_of, place_bytes}
use Rattle.replays.specs.Merged.{merged}
use Rattle.replays.proofs.Merging.{merged_is}

module _ (r : Rule) (setup : Setup) (values : List ℕ) (rs : List LineRead) (cs : List Call) (calls_are : cs ≡ calls_in rs) where
  pub replay_is : (answers : List (Result (Unit {0}) Refusal)) (m : Model) (out : List ℕ)
      → first_of (new_refusals setup.robustness setup.limit) ≡ None → m ≡ run r (new setup.robustness setup.limit values) cs → answers ≡ answers_of r (new setup.robustness setup.limit values) cs → out ≡ told (merged rs answers) m → out ≡ replay_of r values setup rs
  replay_is answers m out none model_is answers_are e =
      let start = new setup.robustness setup.limit values in
      let whole = told (line_answers r start rs) (run r start (calls_in rs)) in
      e ∙ ap (λ a. told a m) (ap (merged rs) (answers_are ∙ ap (answers_of r start) calls_are) ∙ merged_is r start rs)
      ∙ ap (told (line_answers r start rs)) (model_is ∙ ap (run r start) calls_are)
      ∙ sym (ap (λ o. told_if o whole) none)

-- the line of a place with a job, and of one without
pub with_job : (es : List Execution) (p count : ℕ) (o : Option Job) → is_some o ≡ true → count ≡ length (filter (names p) es) → job_bytes p count ≡ place_bytes es p o
with_job es p count None some e = let z : ◌≡◌ {A = ℕ} 0 1 = cc in absurd (omega arith)
with_job es p count (Some j) some e = ap (job_bytes p) e

pub without_job : (es : List Execution) (p : ℕ) (o : Option Job) (now : List ℕ) → is_some o ≡ false → now ≡ now ++ place_bytes es p o
without_job es p None now none = sym (append-nil now)
without_job es p (Some j) now none = let z : ◌≡◌ {A = ℕ} 0 1 = cc in absurd (omega arith)
