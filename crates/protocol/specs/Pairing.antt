-- What an object offers to a job that locks it, and which pairs of execution and offer are kept.
use Rattle.std.specs.Prelude.{ℕ, ◌+◌, Bool, ◌&&◌, List, ◌∷◌, map, ◌==◌, nat_le, slice_index, slice_set, flat_map, filter}
use Rattle.terms.specs.declared.modes.Mode.{Mode}
use Rattle.terms.specs.Rule.{Rule}
use Rattle.protocol.specs.declared.assumptions.Execution.{Execution}
use Rattle.protocol.specs.declared.assumptions.Offer.{Offer}
use Rattle.protocol.specs.declared.assumptions.Version.{Version}
use Rattle.protocol.specs.declared.holdings.Holding.{Holding}
use Rattle.protocol.specs.Assumptions.{commits_of, aborts_of, assume}
use Rattle.protocol.specs.Holdings.{makers, later_makers}
use Rattle.protocol.specs.Model.{Model, job_at, kind_of, argument_of, holding_count, executions_of}
use Rattle.protocol.specs.Places.{join, without, disjoint, size}

-- it is a version of object o
abbrev pub of_object : ℕ → Version → Bool
of_object o v = v.object == o

-- a version, to a job that locks object o: it takes every later maker to abort
abbrev pub offer : List Holding → ℕ → Version → Offer
offer hs o v = record { value = v.value; assumes = assume (commits_of v.assumes) (join (aborts_of v.assumes) (later_makers o v.maker hs)) }

-- the stored value, to a job that locks object o: it takes every maker to abort
abbrev pub stored_offer : Model → ℕ → Offer
stored_offer m o = record { value = slice_index m.values o; assumes = assume 0 (makers o m.holdings) }

-- what object o offers, in order: the stored value, then its versions
unfoldable pub offers : Model → ℕ → List Offer
offers m o = stored_offer m o ∷ map (offer m.holdings o) (filter (of_object o) m.versions)

-- the execution e after it met the offer x: the sets are joined, the tally grows by the jobs newly taken to abort; take makes the working value, and
-- its job has held n objects
abbrev pub pair : ℕ → (ℕ → ℕ → ℕ) → Execution → Offer → Execution
pair n take e x = record {
  job = e.job;
  assumes = assume (join (commits_of e.assumes) (commits_of x.assumes)) (join (aborts_of e.assumes) (aborts_of x.assumes));
  work = take e.work x.value;
  tally = e.tally + size (without (join (aborts_of e.assumes) (aborts_of x.assumes)) (aborts_of e.assumes));
  met = slice_set e.met n x.value;
}

-- a pair stays where it takes no job both ways and keeps within the robustness
abbrev pub is_kept : ℕ → Execution → Bool
is_kept robustness e = disjoint (commits_of e.assumes) (aborts_of e.assumes) && nat_le e.tally robustness

-- the kept pairs of each execution with each offer, in order
unfoldable pub pairs : ℕ → (Execution → Offer → Execution) → List Offer → List Execution → List Execution
pairs robustness f xs es = flat_map (λ e. filter (is_kept robustness) (map (f e) xs)) es

-- an execution of job p meets an offer of object o
abbrev pub pairing : Rule → Model → ℕ → ℕ → Mode → Execution → Offer → Execution
pairing r m p o mode = pair (holding_count m p) (λ work met. r.take (kind_of (job_at m p)) (argument_of (job_at m p)) work o mode met)

-- the executions that job p has once it has locked object o
unfoldable pub kept_pairs : Rule → Model → ℕ → ℕ → Mode → List Execution
unfolding offers pairs
kept_pairs r m p o mode = pairs m.robustness (pairing r m p o mode) (offers m o) (executions_of p m)
