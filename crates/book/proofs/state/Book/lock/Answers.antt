use Rattle.std.proofs.Common.{◌≡◌, Some, None, sym, ap, ◌∙◌, subst}
use Rattle.terms.specs.declared.calls.Call.TheVariants.{Lock}
use Rattle.protocol.specs.Step.{answer, next}
use Rattle.tables.specs.Items.{items}
use Rattle.tables.specs.Within.{Within, job_of_execution, job_of_holding}
use Rattle.book.specs.View.{view}
use Rattle.book.proofs.Locked.{locked_is, lock_holds, lock_adds, lock_holdings, lock_executions, lock_holdings_fit, lock_executions_fit, lock_ringless}
use Rattle.book.proofs.Locking.{lock_answer, no_place}
use Rattle.book.proofs.Steps.{refused}
use Rattle.book.proofs.state.Book.lock.Goals as goal

pub returns-in_err-here : goal.returns-in_err-here
returns-in_err-here g c =
    let r = g.R.JobRule.means c.args.rule.now in
    let m = view (g.S.Store.values c.args.store.now) c.args.self.now in
    let a = Lock c.args.place c.args.object c.args.mode in
    refused r m a c.from_residual.result c.in_err-here.field-0.0 c.from_residual.ensures.1 (subst (λ e. answer r m a ≡ Some e) (sym c.in_err-here.ensures.0) (no_place r m a c.in_err-here.ensures.1))

pub returns-in_err-found : goal.returns-in_err-found
returns-in_err-found g c =
    let r = g.R.JobRule.means c.args.rule.now in
    let m = view (g.S.Store.values c.args.store.now) c.args.self.now in
    refused r m (Lock c.args.place c.args.object c.args.mode) c.from_residual-in_err-found.result c.in_err-found.field-0.0 c.from_residual-in_err-found.ensures.1
    (subst (λ p. answer r m (Lock p c.args.object c.args.mode) ≡ Some c.in_err-found.field-0.0) c.in_ok-here.ensures (lock_answer r m c.in_ok-here.here.number c.args.object c.args.mode ∙ c.in_err-found.ensures))

pub invariant_of-self : goal.invariant_of-self
invariant_of-self g c =
    let r = g.R.JobRule.means c.args.rule.now in
    let b = c.args.self.now in
    let m = view (g.S.Store.values c.args.store.now) b in
    let p = c.in_ok-here.here.number in
    let o = c.args.object in
    let mode = c.args.mode in
    let ok = c.in_ok-found.ensures in
    let taken = lock_answer r m p c.args.object c.args.mode ∙ ok.0 in
    let new = c.holding.ensures in
    let hs = lock_holdings r m p o mode b.places b.limited b.holds b.runs taken c.holding.result (items c.push.new.self) c.push.result new c.push.ensures.added in
    let es = lock_executions r m p o mode b.places b.limited b.holds b.runs taken (items c.remove_job.new.self) c.in_use.result.now (items c.extend.new.self) c.extend.result c.remove_job.ensures.becomes (c.in_use.ensures ∙ ok.1) c.extend.ensures.added in
    record {
      limited = b.limited;
      places = b.places;
      holds = subst (Within 8 job_of_holding b.jobs) (sym hs) (lock_holdings_fit r m p o mode b.places b.limited b.holds b.runs taken);
      runs = subst (Within 16 job_of_execution b.jobs) (sym es) (lock_executions_fit r m p o mode b.places b.limited b.holds b.runs taken);
      ringless = lock_ringless r m p o mode b.places b.limited b.holds b.runs taken (items c.push.new.self) hs b.ringless;
    }

pub returns : goal.returns
returns g c =
    let r = g.R.JobRule.means c.args.rule.now in
    let b = c.args.self.now in
    let xs = g.S.Store.values c.args.store.now in
    let m = view xs b in
    let p = c.in_ok-here.here.number in
    let o = c.args.object in
    let mode = c.args.mode in
    let ok = c.in_ok-found.ensures in
    let taken = lock_answer r m p c.args.object c.args.mode ∙ ok.0 in
    let hs = lock_holdings r m p o mode b.places b.limited b.holds b.runs taken c.holding.result (items c.push.new.self) c.push.result c.holding.ensures c.push.ensures.added in
    let es = lock_executions r m p o mode b.places b.limited b.holds b.runs taken (items c.remove_job.new.self) c.in_use.result.now (items c.extend.new.self) c.extend.result c.remove_job.ensures.becomes (c.in_use.ensures ∙ ok.1) c.extend.ensures.added in (
      subst (λ p. answer r m (Lock p o mode) ≡ None) c.in_ok-here.ensures taken,
      locked_is r m p o mode (items c.push.new.self) (items c.extend.new.self) hs es ∙ ap (λ p. next r m (Lock p o mode)) c.in_ok-here.ensures,
    )

pub unwrap-requires : goal.unwrap-requires
unwrap-requires g c =
    let r = g.R.JobRule.means c.args.rule.now in
    let b = c.args.self.now in
    let m = view (g.S.Store.values c.args.store.now) b in
    let p = c.in_ok-here.here.number in
    let ok = c.in_ok-found.ensures in
    let taken = lock_answer r m p c.args.object c.args.mode ∙ ok.0 in
    lock_holds r m p c.args.object c.args.mode b.places b.limited b.holds b.runs taken c.holding.result (items c.push.new.self) c.push.result c.push.ensures.added

pub unwrap-requires-2 : goal.unwrap-requires-2
unwrap-requires-2 g c =
    let r = g.R.JobRule.means c.args.rule.now in
    let b = c.args.self.now in
    let m = view (g.S.Store.values c.args.store.now) b in
    let p = c.in_ok-here.here.number in
    let ok = c.in_ok-found.ensures in
    let taken = lock_answer r m p c.args.object c.args.mode ∙ ok.0 in
    lock_adds r m p c.args.object c.args.mode b.places b.limited b.holds b.runs taken (items c.remove_job.new.self) c.in_use.result.now (items c.extend.new.self) c.extend.result c.remove_job.ensures.becomes (c.in_use.ensures ∙ ok.1) c.extend.ensures.added
