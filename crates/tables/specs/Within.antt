-- Room: how many records a place may have.
use Rattle.std.specs.Prelude.{ℕ, ◌≤◌, List, length, Some, None, Option, nat_eq, slice_index_or, filter}
use Rattle.protocol.specs.declared.assumptions.Execution.{Execution}
use Rattle.protocol.specs.declared.holdings.Holding.{Holding}
use Rattle.protocol.specs.declared.jobs.Job.{Job}

-- the job of an execution
abbrev pub job_of_execution : Execution → ℕ
job_of_execution e = e.job

-- the job of a holding
abbrev pub job_of_holding : Holding → ℕ
job_of_holding h = h.job

-- how many records name place p
abbrev pub count : {A : Type 0} → (A → ℕ) → ℕ → List A → ℕ
count job p xs = length (filter (λ x. nat_eq (job x) p) xs)

-- the room of a place: none where no job runs
abbrev pub room : ℕ → Option Job → ℕ
room b None = 0
room b (Some j) = b

-- each place has at most b records, and one where no job runs has none; so no record names a place that is not there
abbrev pub Within : {A : Type 0} → ℕ → (A → ℕ) → List (Option Job) → List A → Type 0
Within b job jobs xs = (p : ℕ) → count job p xs ≤ room b (slice_index_or jobs p None)
