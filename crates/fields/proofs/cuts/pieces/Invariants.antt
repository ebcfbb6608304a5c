use Rattle.std.proofs.Common.{map, vec_items}
use Rattle.fields.specs.Places.{word_of}
use Rattle.fields.proofs.Steps.{Cutting}
use Rattle.fields.proofs.cuts.pieces.Given as goal

abbrev pub invariant-loop-bytes : goal.invariant-loop-bytes
invariant-loop-bytes l =
    (goal.iterator-loop-bytes).can_next l.bytes-iterator
    × (goal.iterator-loop-bytes).is_finite l.bytes-iterator
    × Cutting (goal.iterator-loop-bytes).next_gives l.fn.mark (word_of l.text) (map word_of (vec_items l.all)) l.at l.bytes-iterator
