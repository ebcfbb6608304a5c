-- The book as plain lists.
use Rattle.std.specs.Prelude.{ℕ, Bool, List, [], length, replicate, Some, None, Option, ◌==◌, slice_index_or, filter}
use Rattle.protocol.specs.declared.assumptions.Execution.{Execution}
use Rattle.protocol.specs.declared.assumptions.Version.{Version}
use Rattle.protocol.specs.declared.holdings.Holding.{Holding}
use Rattle.protocol.specs.declared.jobs.Job.{Job}
use Rattle.protocol.specs.Holdings.{held_by}

-- the state of a book
pub record Model : Type 0 where
  -- how many jobs an execution may ever have taken to abort
  pub robustness : ℕ
  -- how many executions a job may have
  pub limit : ℕ
  -- the values of the store's objects
  pub values : List ℕ
  -- the job at each of the sixteen places
  pub jobs : List (Option Job)
  -- all holdings, in the order of locking
  pub holdings : List Holding
  -- all executions; those that name one job are its own, in their order
  pub executions : List Execution
  -- all versions, in the order of making
  pub versions : List Version

-- a new book, over a store with these values
unfoldable pub new : ℕ → ℕ → List ℕ → Model
new robustness limit values = record { robustness = robustness; limit = limit; values = values; jobs = replicate 16 None; holdings = []; executions = []; versions = [] }

-- the job that runs at place p
abbrev pub job_at : Model → ℕ → Option Job
job_at m p = slice_index_or m.jobs p None

-- the kind of a job, or 0
abbrev pub kind_of : Option Job → ℕ
kind_of None = 0
kind_of (Some j) = j.kind

-- the argument of a job, or 0
abbrev pub argument_of : Option Job → ℕ
argument_of None = 0
argument_of (Some j) = j.argument

-- how many objects job p holds
abbrev pub holding_count : Model → ℕ → ℕ
holding_count m p = length (filter (held_by p) m.holdings)

-- e is an execution of job p
abbrev pub names : ℕ → Execution → Bool
names p e = e.job == p

-- the executions of job p, in order
abbrev pub executions_of : ℕ → Model → List Execution
executions_of p m = filter (names p) m.executions
