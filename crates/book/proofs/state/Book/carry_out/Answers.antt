use Rattle.std.proofs.Common.{◌+◌, ◌++◌, get_or, drop, vec_items, sym, ap, ◌∙◌, arith}
use Rattle.std.proofs.lemmas.List.{at_drop_more, at_drop_all}
use Rattle.terms.specs.declared.calls.Call.{Call}
use Rattle.terms.specs.declared.calls.Call.TheVariants.{Begin}
use Rattle.protocol.specs.Step.{run}
use Rattle.book.specs.Told.{answers_of}
use Rattle.book.specs.View.{view}
use Rattle.book.proofs.Steps.{step_from, run_more, run_none}
use Rattle.book.proofs.Told.{answers_step, answers_none}
use Rattle.book.proofs.state.Book.carry_out.Goals as goal

pub loop-call-preserved : goal.loop-call-preserved
loop-call-preserved g c =
    let r = g.R.JobRule.means c.args.rule.now in
    let m = view (g.S.Store.values c.loop-call.store) c.loop-call.self in
    let n = view (g.S.Store.values c.call-answer.new.store) c.call-answer.new.self in
    let cs = c.args.calls.now in
    let i = c.loop-call.call-index in
    let d : Call = Begin 0 0 0 in
    let x = get_or cs i d in
    let given = vec_items c.loop-call.answers in (
      sym (at_drop_more (run r m) cs i d c.loop-call-test.true ∙ run_more r m x (drop (i + 1) cs) ∙ ap (λ m. run r m (drop (i + 1) cs)) (step_from r m x c.call-answer.result n c.call-answer.ensures)) ∙ c.loop-call.invariant.0,
      answers_step r m n x c.call-answer.result (drop (i + 1) cs) given (vec_items c.push_reserved.new.self) c.call-answer.ensures c.push_reserved.ensures.items
          ∙ sym (at_drop_more (λ l. given ++ answers_of r m l) cs i d c.loop-call-test.true) ∙ c.loop-call.invariant.1,
      omega (arith, c.loop-call.invariant.2, c.push_reserved.ensures.len, c.push_reserved.ensures.capacity),
    )

pub returns : goal.returns
returns g c =
    let r = g.R.JobRule.means c.args.rule.now in
    let m = view (g.S.Store.values c.loop-call.store) c.loop-call.self in
    let cs = c.args.calls.now in
    let i = c.loop-call.call-index in
    let given = vec_items c.loop-call.answers in
    record {
      left = sym (at_drop_all (run r m) cs i c.loop-call-test.false ∙ run_none r m) ∙ c.loop-call.invariant.0;
      told = sym (at_drop_all (λ l. given ++ answers_of r m l) cs i c.loop-call-test.false ∙ answers_none r m given) ∙ c.loop-call.invariant.1;
    }
