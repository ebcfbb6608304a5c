use Rattle.std.proofs.Common.{◌≡◌, ◌++◌, drop}
use Rattle.std.specs.Prelude.{filter}
use Rattle.protocol.specs.Model.{names}
use Rattle.protocol.specs.Pairing.{pairs}
use Rattle.tables.specs.Items.{items}
use Rattle.book.specs.Meeting.{meeting}
use Rattle.book.proofs.request.Request.pair_up.Given as goal

abbrev pub invariant-loop-execution : goal.invariant-loop-execution
invariant-loop-execution g l = record {
  adds : items l.found.pairs ++ pairs l.self.robustness (meeting (g.R.JobRule.means l.self.rule.now) l.self) l.offers (filter (names l.self.place.number) (drop l.execution-index l.executions))
      ≡ items l.initial.found.pairs ++ pairs l.self.robustness (meeting (g.R.JobRule.means l.self.rule.now) l.self) l.offers (filter (names l.self.place.number) l.executions);
  within : l.found.limit ≡ l.initial.found.limit;
}
