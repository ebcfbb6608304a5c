use Rattle.house.proofs.Charged.{tells_hours}
use Rattle.house.proofs.laws.plan_tells_hours.Goals as goal

-- named on the function instead, the lemma does not close the goal, which the tactic meets unfolded
pub returns : goal.returns
returns c = tells_hours
