-- Begin: a job of a kind, with an argument, starts at a place.
use Rattle.std.specs.Prelude.{ℕ, Bool, not, ◌&&◌, List, [], ◌∷◌, ◌++◌, replicate, Some, nat_le, nat_lt, slice_set, is_some}
use Rattle.terms.specs.Rule.{Rule}
use Rattle.protocol.specs.declared.assumptions.Execution.{Execution}
use Rattle.protocol.specs.declared.refusals.Refusal.{Refusal}
use Rattle.protocol.specs.declared.refusals.Refusal.TheVariants.{NoSuchPlace, PlaceTaken, UnknownKind}
use Rattle.protocol.specs.Assumptions.{assume}
use Rattle.protocol.specs.Model.{Model, job_at}

-- a kind has 8 bits, and the rule knows it
abbrev pub is_known : Rule → ℕ → Bool
is_known r kind = nat_le kind 255 && r.knows kind

-- each test with the refusal that it answers, in the order of the numbers
abbrev pub begin_refusals : Rule → Model → ℕ → ℕ → List (Bool × Refusal)
begin_refusals r m p kind = (nat_lt 15 p, NoSuchPlace) ∷ (is_some (job_at m p), PlaceTaken) ∷ (not (is_known r kind), UnknownKind) ∷ []

-- the one execution with which a job begins
abbrev pub first_execution : Rule → ℕ → ℕ → ℕ → Execution
first_execution r p kind argument = record { job = p; assumes = assume 0 0; work = r.start kind argument; tally = 0; met = replicate 8 0 }

-- the book with the new job at its place and its first execution
abbrev pub after_begin : Rule → Model → ℕ → ℕ → ℕ → Model
after_begin r m p kind argument = record {
  robustness = m.robustness;
  limit = m.limit;
  values = m.values;
  jobs = slice_set m.jobs p (Some (record { kind = kind; argument = argument }));
  holdings = m.holdings;
  executions = m.executions ++ first_execution r p kind argument ∷ [];
  versions = m.versions;
}
