use Rattle.std.proofs.Common.{◌≡◌, length, rules, ap, ◌∙◌, arith}
use Rattle.std.proofs.lemmas.Iterator.{YieldsList-from_range}
use Rattle.std.proofs.lemmas.Iterator.Consumers.{fold_from_yields_List, YieldsList-from_filter_map}
use borrow.Author.Tests.{tests}
use Rattle.house.specs.Work.{work_of, worked, reads_from}
use Rattle.planner.proofs.Taken.{met_at, taken, all_taken}
use Rattle.planner.proofs.plans.job_line.Goals as goal

pub returns : goal.returns
returns g c =
    let rule = g.R.JobRule.means c.args.rule.now in
    let values = g.S.Store.values c.args.store.now in
    let kind = c.args.kind in
    let argument = c.args.argument in
    let work : c.fold-work.result ≡ work_of rule kind argument (reads_from 0 values) =
    fold_from_yields_List _ (taken rule kind argument) _ _ c.fold-work.ensures.ran
    (YieldsList-from_filter_map _ (met_at values) (YieldsList-from_range 0 c.len.result (length values) (cc) (omega arith)) c.filter_map.ensures.closure (λ x r q k. search (rules, tests)))
    (λ a x b q k. search rules)
    ∙ all_taken rule kind argument c.start.result values
    ∙ ap (λ n. worked rule kind argument n (reads_from 0 values)) c.start.ensures.started in
    cc
