use Rattle.std.proofs.Common.{◌≡◌, ℕ, ◌<◌, [], ◌∷◌, length, set, replicate, Some, None, sym, ap, ◌∙◌, subst, arith}
use Rattle.std.proofs.lemmas.List.{length-set}
use Rattle.terms.specs.declared.calls.Call.TheVariants.{Begin}
use Rattle.protocol.specs.declared.assumptions.Execution.{Execution}
use Rattle.protocol.specs.declared.jobs.Job.{Job}
use Rattle.protocol.specs.Assumptions.{assume}
use Rattle.protocol.specs.Step.{answer, next}
use Rattle.tables.specs.Items.{items}
use Rattle.tables.specs.Within.{Within, job_of_execution, job_of_holding}
use Rattle.tables.proofs.Rooms.{within_begun}
use Rattle.book.specs.View.{view}
use Rattle.book.proofs.Adding.{with_room, room_ok}
use Rattle.book.proofs.Begun.{begin_answer, begun_fits, begun_room, begun_is}
use Rattle.book.proofs.Locking.{no_place}
use Rattle.book.proofs.Steps.{refused}
use Rattle.book.proofs.state.Book.begin.Goals as goal

pub returns-in_err-here : goal.returns-in_err-here
returns-in_err-here g c = λ values.
    let r = g.R.JobRule.means c.args.rule.now in
    let m = view values c.args.self.now in
    let a = Begin c.args.place c.args.kind c.args.argument in
    refused r m a c.from_residual.result c.in_err-here.field-0.0 c.from_residual.ensures.1 (subst (λ e. answer r m a ≡ Some e) (sym c.in_err-here.ensures.0) (no_place r m a c.in_err-here.ensures.1))

pub returns-in_err-kind : goal.returns-in_err-kind
returns-in_err-kind g c = λ values.
    let r = g.R.JobRule.means c.args.rule.now in
    let m = view values c.args.self.now in
    let k = c.args.kind in
    let a = c.args.argument in
    refused r m (Begin c.args.place k a) c.from_residual-in_err-kind.result c.in_err-kind.field-0.0 c.from_residual-in_err-kind.ensures.1
    (subst (λ p. answer r m (Begin p k a) ≡ Some c.in_err-kind.field-0.0) c.in_ok-here.ensures (begin_answer r m c.in_ok-here.here.number k a ∙ c.in_err-kind.ensures))

-- the execution that the job begins with, and how the table stands with it
abbrev new_one : (p w : ℕ) → Execution
new_one p w = record { job = p; assumes = assume 0 0; work = w; tally = 0; met = replicate 8 0 }

pub invariant_of-self : goal.invariant_of-self
invariant_of-self g c =
    let b = c.args.self.now in
    let p = c.in_ok-here.here.number in
    let ok = c.in_ok-kind.ensures in
    let e = new_one p c.start.result in
    let j : Job = record { kind = c.in_ok-kind.kind; argument = c.args.argument } in
    let l : p < length b.jobs = omega (arith, c.in_ok-here.here.below, b.places) in
    let pushed = with_room 256 (items b.executions) (e ∷ []) (items c.push.new.self) c.push.result c.push.ensures.added (begun_room b.jobs (items b.executions) e j l ok.1.0 b.runs b.places) in
    record {
      limited = b.limited;
      places = length-set b.jobs p (Some j) ∙ b.places;
      holds = within_begun 8 job_of_holding b.jobs (items b.holdings) b.holds p j ok.1.0;
      runs = subst (Within 16 job_of_execution (set b.jobs p (Some j))) (sym pushed) (begun_fits b.jobs (items b.executions) e j l ok.1.0 b.runs);
      ringless = b.ringless;
    }

pub returns : goal.returns
returns g c = λ values.
    let b = c.args.self.now in
    let r = g.R.JobRule.means c.args.rule.now in
    let m = view values b in
    let p = c.in_ok-here.here.number in
    let k = c.in_ok-kind.kind in
    let a = c.args.argument in
    let ok = c.in_ok-kind.ensures in
    let e = new_one p c.start.result in
    let j : Job = record { kind = k; argument = a } in
    let l : p < length b.jobs = omega (arith, c.in_ok-here.here.below, b.places) in
    let pushed = with_room 256 (items b.executions) (e ∷ []) (items c.push.new.self) c.push.result c.push.ensures.added (begun_room b.jobs (items b.executions) e j l ok.1.0 b.runs b.places) in (
      subst (λ p. answer r m (Begin p c.args.kind a) ≡ None) c.in_ok-here.ensures (begin_answer r m p c.args.kind a ∙ ok.0),
      begun_is r m p k a c.start.result (items c.push.new.self) c.start.ensures.started pushed ∙ ap (λ k. next r m (Begin p k a)) ok.1.1 ∙ ap (λ p. next r m (Begin p c.args.kind a)) c.in_ok-here.ensures,
    )

pub unwrap-requires : goal.unwrap-requires
unwrap-requires g c =
    let b = c.args.self.now in
    let p = c.in_ok-here.here.number in
    let e = new_one p c.start.result in
    let j : Job = record { kind = c.in_ok-kind.kind; argument = c.args.argument } in
    let l : p < length b.jobs = omega (arith, c.in_ok-here.here.below, b.places) in
    room_ok 256 (items b.executions) (e ∷ []) (items c.push.new.self) c.push.result c.push.ensures.added (begun_room b.jobs (items b.executions) e j l c.in_ok-kind.ensures.1.0 b.runs b.places)
