-- What a list of calls is answered, and the past that it makes with its answers.
use Rattle.std.specs.Prelude.{List, [], ◌∷◌, map, Some, None, Ok, Err, Option, Result}
use Rattle.std.specs.Result.{result_err}
use Rattle.terms.specs.declared.calls.Call.{Call}
use Rattle.terms.specs.Rule.{Rule}
use Rattle.protocol.specs.declared.refusals.Refusal.{Refusal}
use Rattle.protocol.specs.Model.{Model}
use Rattle.protocol.specs.Past.{Event, past}

-- what a caller gets back: the refusal, if the call is answered one
abbrev pub returned : Option Refusal → Result (Unit {0}) Refusal
returned None = Ok tt
returned (Some x) = Err x

-- each call with its answer
unfoldable pub events : List Call → List (Result (Unit {0}) Refusal) → List Event
events [] answers = []
events (c ∷ cs) [] = []
events (c ∷ cs) (a ∷ answers) = record { call = c; answer = result_err a } ∷ events cs answers

-- the answers that the rules give
unfoldable pub answers_of : Rule → Model → List Call → List (Result (Unit {0}) Refusal)
answers_of r m cs = map (λ e. returned e.answer) (past r m cs)
