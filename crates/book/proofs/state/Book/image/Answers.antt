use Rattle.std.proofs.Common.{◌≡◌, ◌+◌, ◌≤◌, Bool, true, false, ◌&&◌, ◌++◌, map, length, Some, None, sym, ap, ◌∙◌, subst, arith}
use Rattle.std.specs.Prelude.{filter}
use Rattle.std.specs.List.{AllByRecursion, list_any}
use Rattle.std.proofs.lemmas.List.{length-map}
use Rattle.std.proofs.lemmas.Bool.{not-false}
use Rattle.terms.specs.declared.calls.Call.TheVariants.{Image}
use Rattle.protocol.specs.Holdings.{position, holds, opened}
use Rattle.protocol.specs.declared.refusals.Refusal.{Refusal}
use Rattle.protocol.specs.Image.{version_by, image_refusals}
use Rattle.protocol.specs.Model.{names, executions_of}
use Rattle.protocol.specs.Step.{answer, next}
use Rattle.tables.specs.Items.{items}
use Rattle.tables.specs.Within.{Within, job_of_holding, job_of_execution}
use Rattle.tables.proofs.Rooms.{within_at}
use Rattle.book.specs.View.{view}
use Rattle.book.proofs.Adding.{with_room, room_ok}
use Rattle.book.proofs.Imaged.{image_answer, image_room, imaged_is, position_within, within_turned}
use Rattle.book.proofs.Locking.{first_passed, no_place}
use Rattle.book.proofs.Ringless.{ringless_turned}
use Rattle.book.proofs.Steps.{refused}
use Rattle.book.proofs.state.Book.image.Goals as goal

pub returns-in_err-here : goal.returns-in_err-here
returns-in_err-here g c =
    let r = g.R.JobRule.means c.args.rule.now in
    let m = view (g.S.Store.values c.args.store.now) c.args.self.now in
    let a = Image c.args.place c.args.object in
    refused r m a c.from_residual.result c.in_err-here.field-0.0 c.from_residual.ensures.1 (subst (λ e. answer r m a ≡ Some e) (sym c.in_err-here.ensures.0) (no_place r m a c.in_err-here.ensures.1))

pub returns-in_err-job : goal.returns-in_err-job
returns-in_err-job g c =
    let r = g.R.JobRule.means c.args.rule.now in
    let m = view (g.S.Store.values c.args.store.now) c.args.self.now in
    let o = c.args.object in
    refused r m (Image c.args.place o) c.from_residual-in_err-job.result c.in_err-job.field-0.0 c.from_residual-in_err-job.ensures.1
    (subst (λ p. answer r m (Image p o) ≡ Some c.in_err-job.field-0.0) c.in_ok-here.ensures (image_answer r m c.in_ok-here.here.number o ∙ c.in_err-job.ensures))

pub invariant_of-making : goal.invariant_of-making
invariant_of-making g c =
    let b = c.args.self.now in
    let p = c.in_ok-here.here.number in
    let o = c.args.object in
    let m = view (g.S.Store.values c.args.store.now) b in
    let t : AllByRecursion (λ (t : Bool × Refusal). t.0 ≡ false) (image_refusals m p o) = first_passed (image_refusals m p o) c.in_ok-job.ensures.0 in
    let open' : list_any (λ h. holds p o h && opened h.state) (items b.holdings) ≡ true = not-false _ t.1.1.1.1.0 in
    record { held = omega (arith, c.position-met.ensures, ap (position p o) c.in_use.ensures, within_at 8 job_of_holding b.jobs (items b.holdings) b.holds p, position_within p o (items b.holdings) open') }

pub versions-made-requires : goal.versions-made-requires
versions-made-requires g c =
    let b = c.args.self.now in
    let p = c.in_ok-here.here.number in
    omega (arith, within_at 16 job_of_execution b.jobs (items b.executions) b.runs p, ap (λ l. length (filter (names p) l)) c.in_use-2.ensures)

pub unwrap-requires : goal.unwrap-requires
unwrap-requires g c =
    let b = c.args.self.now in
    let p = c.in_ok-here.here.number in
    let o = c.args.object in
    let m = view (g.S.Store.values c.args.store.now) b in
    let f = version_by (g.R.JobRule.means c.args.rule.now) (Some c.in_ok-job.job) o c.position-met.result in
    let made = c.in_use-3.ensures ∙ c.versions-made.ensures ∙ ap (λ l. map f (filter (names p) l)) c.in_use-2.ensures in
    room_ok 256 (items b.versions) c.in_use-3.result.now (items c.extend.new.self) c.extend.result c.extend.ensures.added
    (omega (arith, image_room m p o c.in_ok-job.ensures.0, ap length made, length-map (executions_of p m) f))

pub invariant_of-self : goal.invariant_of-self
invariant_of-self g c =
    let b = c.args.self.now in
    let p = c.in_ok-here.here.number in
    record {
      limited = b.limited;
      places = b.places;
      holds = subst (Within 8 job_of_holding b.jobs) (sym c.turn.ensures.becomes) (within_turned p c.args.object b.jobs (items b.holdings) b.holds);
      runs = b.runs;
      ringless = ringless_turned (items b.holdings) p c.args.object (items c.turn.new.self) c.turn.ensures.becomes b.ringless;
    }

pub returns : goal.returns
returns g c =
    let b = c.args.self.now in
    let p = c.in_ok-here.here.number in
    let o = c.args.object in
    let r = g.R.JobRule.means c.args.rule.now in
    let m = view (g.S.Store.values c.args.store.now) b in
    let ok = c.in_ok-job.ensures in
    let j = c.in_ok-job.job in
    let n = c.position-met.result in
    let f = version_by r (Some j) o n in
    let made = c.in_use-3.ensures ∙ c.versions-made.ensures ∙ ap (λ l. map f (filter (names p) l)) c.in_use-2.ensures in
    let fits : length (items b.versions) + length c.in_use-3.result.now ≤ 256 = omega (arith, image_room m p o ok.0, ap length made, length-map (executions_of p m) f) in
    let vs = with_room 256 (items b.versions) c.in_use-3.result.now (items c.extend.new.self) c.extend.result c.extend.ensures.added fits ∙ ap (λ l. items b.versions ++ l) made in (
      subst (λ p. answer r m (Image p o) ≡ None) c.in_ok-here.ensures (image_answer r m p o ∙ ok.0),
      imaged_is r m p o n j (items c.turn.new.self) (items c.extend.new.self) ok.1 (c.position-met.ensures ∙ ap (position p o) c.in_use.ensures) c.turn.ensures.becomes vs ∙ ap (λ p. next r m (Image p o)) c.in_ok-here.ensures,
    )
