use Rattle.protocol.proofs.theorems.a_commit_writes_the_one_version_of_each_turned_object.Goals as goal
use Rattle.protocol.proofs.CommitExact.{commit_laws}

-- named on the function instead, the lemma is not found: the search leaves its premise, that the commit is accepted
pub returns : goal.returns
returns c = commit_laws
