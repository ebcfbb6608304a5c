use Rattle.house.proofs.Lent.{never_sooner}
use Rattle.house.proofs.laws.extend_is_never_sooner.Goals as goal

-- named on the function instead, the lemma does not close the goal: the tactic stops at one of its limits
pub returns : goal.returns
returns c = never_sooner
