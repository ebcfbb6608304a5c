use Rattle.std.proofs.Common.{◌≡◌, ◌++◌}
use Rattle.tables.specs.Items.{items}
use Rattle.book.proofs.request.Found.add_all.Given as goal

abbrev pub invariant-loop-pair : goal.invariant-loop-pair
invariant-loop-pair g l = record {
  can : (goal.iterator-loop-pair g).can_next l.pair-iterator;
  ends : (goal.iterator-loop-pair g).is_finite l.pair-iterator;
  adds : items l.self.pairs ≡ items l.initial.self.pairs ++ l.yielded;
  within : l.self.limit ≡ l.initial.self.limit;
}
