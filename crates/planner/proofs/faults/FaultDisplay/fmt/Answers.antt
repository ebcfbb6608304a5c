use Rattle.planner.proofs.faults.FaultDisplay.fmt.Goals as goal

pub returns-in-NoNumber-clause-writes : goal.returns-in-NoNumber-clause-writes
returns-in-NoNumber-clause-writes g c = λ plain done. simp c.in-NoNumber.is (c.write.ensures.writes plain done)
