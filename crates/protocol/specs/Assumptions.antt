-- Assumptions: which running jobs are taken to commit, and which to abort.
use Rattle.std.specs.Prelude.{ℕ}
use Rattle.protocol.specs.declared.assumptions.Assumption.{Assumption}

-- the jobs taken to commit
abbrev pub commits_of : Assumption → ℕ
commits_of a = a.commits.mask

-- the jobs taken to abort
abbrev pub aborts_of : Assumption → ℕ
aborts_of a = a.aborts.mask

-- the assumption that takes these to commit and those to abort
abbrev pub assume : ℕ → ℕ → Assumption
assume commits aborts = record { commits = record { mask = commits }; aborts = record { mask = aborts } }
