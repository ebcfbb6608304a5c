use Rattle.std.proofs.Common.{◌≡◌, ◌++◌, vec_items, ap, ◌∙◌}
use Rattle.protocol.specs.Model.{new}
use Rattle.protocol.specs.Step.{run}
use Rattle.book.specs.Told.{answers_of}
use Rattle.book.specs.View.{view}
use Rattle.book.proofs.Told.{lawful_run}
use Rattle.book.proofs.running.run.Goals as goal

pub returns : goal.returns
returns g c =
    let r = g.R.JobRule.means c.args.rule.now in
    let x = c.args.robustness in
    let l = c.args.limit in
    let first = g.S.Store.values c.args.store.now in
    let cs = c.args.calls.now in
    let start = view first c.in_ok-book.book in
    let m = view (g.S.Store.values c.carry_out.new.store) c.carry_out.new.self in
    let given = vec_items c.carry_out.new.answers in
    let s : start ≡ new x l first = c.in_ok-book.ensures.1 first in
    let is : m ≡ run r (new x l first) cs = c.carry_out.ensures.left ∙ ap (λ s. run r s cs) s in
    let tells : given ≡ answers_of r (new x l first) cs = c.carry_out.ensures.told ∙ ap (λ l. l ++ answers_of r start cs) c.in_ok-answers.ensures.items ∙ ap (λ s. answers_of r s cs) s in
    record { law = lawful_run r x l first cs m given c.ready-ready.result is tells c.ready-ready.ensures; model = (c.in_ok-book.ensures.0, is, tells) }
