use Rattle.std.proofs.Common.{◌≡◌, drop}
use Rattle.protocol.specs.Ending.{written}
use Rattle.book.proofs.writing.Made.write.Given as goal

abbrev pub invariant-loop-holding : goal.invariant-loop-holding
invariant-loop-holding g l =
    written l.self.place.number l.self.versions.now (drop l.holding-index l.holdings) (g.S.Store.values l.store) ≡ written l.self.place.number l.self.versions.now l.holdings (g.S.Store.values l.initial.store)
