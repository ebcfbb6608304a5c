use Rattle.std.proofs.Common.{set, None, sym, refl, ◌∙◌, subst}
use Rattle.std.proofs.lemmas.List.{length-set}
use Rattle.protocol.specs.Settling.{survives, settled_execution}
use Rattle.tables.specs.Items.{items}
use Rattle.book.specs.View.{view}
use Rattle.tables.specs.Within.{Within, job_of_execution, job_of_holding}
use Rattle.tables.proofs.Rooms.{within_removed, within_settled}
use Rattle.book.proofs.Ended.{ended_is}
use Rattle.book.proofs.Ringless.{ringless_left}
use Rattle.book.proofs.state.Book.end.Goals as goal

pub invariant_of-self : goal.invariant_of-self
invariant_of-self c =
    let b = c.args.self.now in
    let p = c.args.place.number in
    record {
      limited = b.limited;
      places = length-set b.jobs p None ∙ b.places;
      holds = subst (Within 8 job_of_holding (set b.jobs p None)) (sym c.remove_job.ensures.becomes) (within_removed 8 job_of_holding b.jobs (items b.holdings) b.holds p);
      runs = subst (Within 16 job_of_execution (set b.jobs p None)) (sym c.settle.ensures.becomes) (within_settled 16 job_of_execution b.jobs (items b.executions) b.runs p (λ e. survives c.args.ending p e.assumes) (settled_execution p) (λ e. refl));
      ringless = ringless_left (items b.holdings) p (items c.remove_job.new.self) c.remove_job.ensures.becomes b.ringless;
    }

pub returns : goal.returns
returns c = λ values written.
    ended_is c.args.ending c.args.place.number written (view values c.args.self.now) (items c.remove_job.new.self) (items c.settle.new.self) (items c.settle-2.new.self)
    c.remove_job.ensures.becomes c.settle.ensures.becomes c.settle-2.ensures.becomes
