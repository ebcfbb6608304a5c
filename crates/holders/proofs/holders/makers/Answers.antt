use Rattle.std.proofs.Common.{rules}
use Rattle.protocol.specs.Holdings.{makers, makes}
use Rattle.holders.proofs.holders.makers.Goals as goal

pub returns : goal.returns
unfolding makers
returns c = c.jobs_passing.ensures (makes c.args.object) (λ h b said. search rules)
