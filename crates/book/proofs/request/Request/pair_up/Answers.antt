use Rattle.std.proofs.Common.{map, get_or, Ok, Err, ◌∙◌, rules, arith}
use Rattle.std.specs.Prelude.{filter}
use Rattle.std.proofs.lemmas.Bool.{eq-eqb, ne_eqb}
use Rattle.std.proofs.lemmas.Iterator.{YieldsList-from_slice, YieldsList-from_map}
use Rattle.std.proofs.lemmas.Iterator.Consumers.{YieldsList-from_filter, YieldsList-at}
use borrow.Author.Tests.{tests}
use Rattle.std.proofs.lemmas.Result.{err_from_is_err_and}
use Rattle.protocol.specs.declared.assumptions.Offer.{Offer}
use Rattle.protocol.specs.Pairing.{is_kept}
use Rattle.tables.specs.Items.{items}
use Rattle.book.specs.Meeting.{meeting, Added}
use Rattle.book.proofs.Kept.{adds_kept, past_all, more, passed, over, all_added}
use Rattle.book.proofs.request.Request.pair_up.Goals as goal
use Rattle.book.proofs.request.Request.pair_up.Goals.{then-execution-self+in_ok-add_all, else-execution-self}

pub loop-execution-preserved : goal.loop-execution-preserved
loop-execution-preserved g c =
    let q = c.args.self.now in
    let r = q.robustness in
    let p = q.place.number in
    let f = meeting (g.R.JobRule.means q.rule.now) q in
    let os = c.args.offers.now in
    let es = c.args.executions.now in
    let i = c.loop-execution.execution-index in
    let e = get_or es i past_all in
    let found = c.loop-execution.found in
    let inv = c.loop-execution.invariant in
    elim c.if-execution-self.branch [
      | then-execution-self+in_ok-add_all w ↦
          let a : Added found (filter (is_kept r) (map (f e) os)) w.add_all.new.self (Ok tt) =
          adds_kept (is_kept r) (f e) os found w.add_all.new.self (Ok tt) w.in_ok-add_all.ensures
          (YieldsList-from_map {s = w.map.result} _ (f e) (YieldsList-at w.map.ensures.source (YieldsList-from_filter {s = w.filter.result} _ (λ (o : Offer). is_kept r (f e o)) (YieldsList-from_slice os cc) w.filter.ensures.closure (λ x b q k. search (rules, tests)))) w.map.ensures.closure (λ x r q k. search rules)) in
          rw w.found-is record {
            adds = more r f os p es i (items c.args.found.now.pairs) (items found.pairs) inv.adds (items w.add_all.new.self.pairs) c.loop-execution-test.true (eq-eqb e.job p w.if-execution-self.true) a.added.0;
            within = a.within ∙ inv.within;
          }
      | else-execution-self w ↦
          rw w.found-is record {
            adds = passed r f os p es i (items c.args.found.now.pairs) (items found.pairs) inv.adds c.loop-execution-test.true (ne_eqb e.job p w.if-execution-self.false);
            within = inv.within;
          }
    ]

pub returns-in_err-add_all : goal.returns-in_err-add_all
returns-in_err-add_all g c =
    let q = c.args.self.now in
    let r = q.robustness in
    let p = q.place.number in
    let f = meeting (g.R.JobRule.means q.rule.now) q in
    let os = c.args.offers.now in
    let es = c.args.executions.now in
    let i = c.loop-execution.execution-index in
    let e = get_or es i past_all in
    let found = c.loop-execution.found in
    let inv = c.loop-execution.invariant in
    let a : Added found (filter (is_kept r) (map (f e) os)) c.add_all.new.self (Err c.in_err-add_all.field-0.0) =
    adds_kept (is_kept r) (f e) os found c.add_all.new.self (Err c.in_err-add_all.field-0.0) c.in_err-add_all.ensures
    (YieldsList-from_map {s = c.map.result} _ (f e) (YieldsList-at c.map.ensures.source (YieldsList-from_filter {s = c.filter.result} _ (λ (o : Offer). is_kept r (f e o)) (YieldsList-from_slice os cc) c.filter.ensures.closure (λ x b q k. search (rules, tests)))) c.map.ensures.closure (λ x r q k. search rules)) in
    let is = err_from_is_err_and c.from_residual.result c.from_residual.ensures.1 in
    rw (is.1, is.2) record {
      added = (a.added.0, over r f os p es i (items c.args.found.now.pairs) (items found.pairs) inv.adds c.args.found.now.limit c.loop-execution-test.true (eq-eqb e.job p c.if-execution-self.true) (omega (arith, a.added.1, inv.within)));
      within = a.within ∙ inv.within;
    }

pub returns : goal.returns
returns g c =
    let q = c.args.self.now in
    let f = meeting (g.R.JobRule.means q.rule.now) q in
    let inv = c.loop-execution.invariant in
    let all = all_added q.robustness f c.args.offers.now q.place.number c.args.executions.now c.loop-execution.execution-index (items c.args.found.now.pairs) (items c.loop-execution.found.pairs) inv.adds c.loop-execution-test.false in
    record { added = (all, omega (arith, c.loop-execution.found.few, inv.within)); within = inv.within }
