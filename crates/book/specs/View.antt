-- A book and the values of its store as the rules see them; and what a call answers and leaves.
use Rattle.std.specs.Prelude.{◌≡◌, ℕ, List, Some, None, Result, MatchResult}
use Rattle.terms.specs.declared.calls.Call.{Call}
use Rattle.terms.specs.Rule.{Rule}
use Rattle.protocol.specs.declared.refusals.Refusal.{Refusal}
use Rattle.protocol.specs.Model.{Model}
use Rattle.protocol.specs.Step.{answer, next}
use Rattle.tables.specs.Items.{items}
use Rattle.book.specs.declared.state.Book.{Book}

-- the book over a store with these values
abbrev pub view : List ℕ → Book → Model
view values b = record {
  robustness = b.robustness;
  limit = b.limit;
  values = values;
  jobs = b.jobs;
  holdings = items b.holdings;
  executions = items b.executions;
  versions = items b.versions;
}

-- the call is answered as the rules say: accepted, it leaves what they say; refused, it leaves all as it was
abbrev pub Follows : Rule → Model → Call → Result (Unit {0}) Refusal → Model → Type 0
Follows r m call result after =
    MatchResult result (λ _. (answer r m call ≡ None) × (after ≡ next r m call)) (λ e. (answer r m call ≡ Some e) × (after ≡ m))
