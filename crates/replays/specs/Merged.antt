-- The answers to lines, by the answers to their calls.
use Rattle.std.specs.Prelude.{ℕ, List, [], ◌∷◌, drop, Ok, Err, Result, slice_index_or}
use Rattle.std.specs.Result.{result_err}
use Rattle.protocol.specs.declared.refusals.Refusal.{Refusal}
use Rattle.protocol.specs.Cases.{answer_number}
use Rattle.script.specs.Faults.{number_of}
use Rattle.replays.specs.Output.{LineRead}

-- each line with a call takes the next of the answers
unfoldable pub merged : List LineRead → List (Result (Unit {0}) Refusal) → List ℕ
merged [] answers = []
merged (Ok c ∷ rs) answers = answer_number (result_err (slice_index_or answers 0 (Ok tt))) ∷ merged rs (drop 1 answers)
merged (Err f ∷ rs) answers = number_of f ∷ merged rs answers
