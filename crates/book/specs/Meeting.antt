-- What an execution becomes where it meets an offer, and how such pairs are found.
use Rattle.std.specs.Prelude.{◌≡◌, ◌<◌, ◌≤◌, List, ◌++◌, length, Result, MatchResult}
use Rattle.terms.specs.Rule.{Rule}
use Rattle.protocol.specs.declared.assumptions.Execution.{Execution}
use Rattle.protocol.specs.declared.assumptions.Offer.{Offer}
use Rattle.protocol.specs.declared.refusals.Refusal.{Refusal}
use Rattle.protocol.specs.declared.refusals.Refusal.TheVariants.{TooManyExecutions}
use Rattle.protocol.specs.Pairing.{pair}
use Rattle.tables.specs.Items.{items}
use Rattle.book.specs.declared.request.Found.{Found}
use Rattle.book.specs.declared.request.Request.{Request}

-- the pair of the two, for a lock that is asked for
abbrev pub meeting : {R : Type 0} → Rule → Request R → Execution → Offer → Execution
meeting r q = pair q.held (λ work met. r.take q.job.kind q.job.argument work q.object q.mode met)

-- to add kept pairs to what was found: the limit stays, and all are added behind those that were there and stay within it, or they would be too many
pub record Added (before : Found) (part : List Execution) (after : Found) (result : Result (Unit {0}) Refusal) : Type 0 where
  pub added : MatchResult result (λ _. (items after.pairs ≡ items before.pairs ++ part) × (length (items after.pairs) ≤ before.limit)) (λ e. (e ≡ TooManyExecutions) × (before.limit < length (items before.pairs ++ part)))
  pub within : after.limit ≡ before.limit
