use Rattle.std.proofs.Common.{rules, refl, ap, ◌∙◌}
use Rattle.std.proofs.lemmas.Iterator.{YieldsList-from_slice, YieldsList-from_range, YieldsList-from_zip}
use Rattle.std.proofs.lemmas.Iterator.Consumers.{fold_from_yields_List}
use borrow.Author.Tests.{tests}
use Rattle.protocol.specs.declared.places.PlaceSet.{PlaceSet}
use Rattle.holders.proofs.Spread.{with_set, spread_row}
use Rattle.holders.proofs.reaching.spread_once.Goals as goal

pub returns : goal.returns
returns c =
    let row = c.args.sets.now in
    ap (λ (s : PlaceSet). s.mask)
    (fold_from_yields_List _ (with_set c.args.set) _ _ c.fold.ensures.ran (YieldsList-from_zip (YieldsList-from_range 0 16 16 (cc) refl) (YieldsList-from_slice row (cc))) (λ a x b q k. search (rules, tests)))
    ∙ spread_row 16 row c.args.set c.told-sets
