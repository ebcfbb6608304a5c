use Rattle.std.proofs.Common.{replicate, None, refl, arith}
use Rattle.tables.specs.Items.{items}
use Rattle.tables.specs.Within.{job_of_execution, job_of_holding}
use Rattle.book.proofs.New.{new_accepted, none_within, none_ringless, new_is}
use Rattle.book.proofs.state.Book.new.Goals as goal

pub invariant_of-result : goal.invariant_of-result
invariant_of-result c =
    let hs = items c.new.result in
    let es = items c.executions.result in
    record {
      limited = omega arith;
      places = refl;
      holds = none_within 8 job_of_holding (replicate 16 None) hs c.new.ensures.starts;
      runs = none_within 16 job_of_execution (replicate 16 None) es c.executions.ensures.starts;
      ringless = none_ringless hs c.new.ensures.starts;
    }

pub returns : goal.returns
returns c = (
  new_accepted c.args.robustness c.args.limit (omega arith) c.if-limit-eq0.false (omega arith),
  λ values. new_is c.args.robustness c.args.limit values (items c.new.result) (items c.executions.result) (items c.versions.result) c.new.ensures.starts c.executions.ensures.starts c.versions.ensures.starts,
)
