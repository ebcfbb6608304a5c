use Rattle.std.proofs.Common.{rules}
use Rattle.protocol.specs.Holdings.{new_waits}
use Rattle.holders.proofs.waits.new_waits.Goals as goal

pub returns : goal.returns
unfolding new_waits
returns c = c.jobs_passing.ensures _ (λ h b said. search rules)
