use Rattle.std.proofs.Common.{◌≡◌, ◌++◌}
use Rattle.tables.specs.Items.{items}
use Rattle.book.proofs.gathering.gather.Given as goal

abbrev pub invariant-loop-one : goal.invariant-loop-one
invariant-loop-one g l = record {
  can : (goal.iterator-loop-one g).can_next l.one-iterator;
  ends : (goal.iterator-loop-one g).is_finite l.one-iterator;
  all : items l.all ≡ items l.initial.all ++ l.yielded;
}
