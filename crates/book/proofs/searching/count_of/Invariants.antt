use Rattle.std.proofs.Common.{◌≡◌, ◌+◌, ◌≤◌, eqb, length, drop}
use Rattle.std.specs.Prelude.{filter}
use Rattle.book.proofs.searching.count_of.Given as goal

abbrev pub invariant-loop-record : goal.invariant-loop-record
invariant-loop-record g l =
    (l.count ≤ l.record-index)
    × (l.count + length (filter (λ x. eqb (g.T.NamesJob.named x) l.place.number) (drop l.record-index l.records)) ≡ length (filter (λ x. eqb (g.T.NamesJob.named x) l.place.number) l.records))
