use Rattle.std.proofs.Common.{◌∙◌, ap}
use Rattle.std.specs.Fmt.{styled_decimal}
use Rattle.planner.proofs.Laid.{in_two, in_twenty}
use Rattle.planner.proofs.plans.LineDisplay.fmt.Goals as goal

pub returns-clause-writes : goal.returns-clause-writes
returns-clause-writes g c = λ plain done.
    let minutes = ap (λ s. styled_decimal s c.args.self.now.minutes) c.laid_out.ensures ∙ in_two c.args.self.now.minutes in
    let hours = ap (λ s. styled_decimal s c.args.self.now.hours) c.laid_out-2.ensures ∙ in_twenty c.args.self.now.hours in
    simp (minutes, hours) at (c.write.ensures.writes plain done)
