use Rattle.std.proofs.Common.{ap, ◌∙◌, rules}
use Rattle.std.proofs.lemmas.Iterator.{YieldsList-from_slice}
use Rattle.std.proofs.lemmas.Iterator.Consumers.{YieldsList-from_filter, YieldsList-from_enumerate, fold_from_yields_List}
use borrow.Author.Tests.{tests}
use Rattle.protocol.specs.declared.places.PlaceSet.{PlaceSet}
use Rattle.holders.proofs.OneMore.{own, with_own, waits_folded}
use Rattle.holders.proofs.waits.waits_by_own.Goals as goal

pub returns : goal.returns
returns c =
    let p = c.args.place in
    let hs = c.args.holdings.now in
    ap (λ (s : PlaceSet). s.mask)
    (fold_from_yields_List _ (with_own p hs) _ _ c.fold.ensures.ran
    (YieldsList-from_filter _ (own p hs) (YieldsList-from_enumerate (YieldsList-from_slice hs (cc)) cc) c.filter.ensures.closure (λ x b q k. search (rules, tests)))
    (λ a x b q k. search rules))
    ∙ waits_folded p hs
