use Rattle.std.proofs.Common.{◌≡◌, ◌∙◌, arith}
use Rattle.std.proofs.lemmas.Grind.{common_steps}
use Rattle.planner.specs.Plan.{sheet_by_rule}
use Rattle.planner.proofs.Sheets.{by_total}
use Rattle.planner.proofs.plans.plan_sheet.Goals as goal

pub returns : goal.returns
unfolding sheet_by_rule
returns g c =
    let values = g.S.Store.values c.args.store.now in
    let by_rule : c.map.result ≡ sheet_by_rule values = grind (arith, common_steps) in
    record { rule = by_rule; total = by_rule ∙ by_total values }
