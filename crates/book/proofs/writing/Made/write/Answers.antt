use Rattle.std.proofs.Common.{sym, ◌∙◌}
use Rattle.std.proofs.lemmas.List.{at_drop_all}
use Rattle.protocol.specs.Ending.{written}
use Rattle.book.proofs.Written.{written_none, written_here, written_later}
use Rattle.book.proofs.writing.Made.write.Goals as goal
use Rattle.book.proofs.writing.Made.write.Goals.{then-has_turned, else-has_turned}

pub loop-holding-preserved : goal.loop-holding-preserved
loop-holding-preserved g c =
    let p = c.args.self.now.place.number in
    let vs = c.args.self.now.versions.now in
    let hs = c.args.holdings.now in
    let i = c.loop-holding.holding-index in
    let xs = g.S.Store.values c.loop-holding.store in
    elim c.if-has_turned.branch [
      | then-has_turned w ↦
          rw w.store-is (sym (written_here p vs hs i c.loop-holding-test.true xs (sym c.has_turned.ensures ∙ w.if-has_turned.true) (g.S.Store.values w.write_one.new.store) w.write_one.ensures) ∙ c.loop-holding.invariant)
      | else-has_turned w ↦
          rw w.store-is (sym (written_later p vs hs i c.loop-holding-test.true xs (sym c.has_turned.ensures ∙ w.if-has_turned.false)) ∙ c.loop-holding.invariant)
    ]

pub returns : goal.returns
returns g c =
    let p = c.args.self.now.place.number in
    let vs = c.args.self.now.versions.now in
    let xs = g.S.Store.values c.loop-holding.store in
    sym (at_drop_all (λ hs. written p vs hs xs) c.args.holdings.now c.loop-holding.holding-index c.loop-holding-test.false ∙ written_none p vs xs) ∙ c.loop-holding.invariant
