use Rattle.std.proofs.Common.{rules, refl, ap, ◌∙◌}
use Rattle.std.specs.List.{range_with_len}
use Rattle.std.proofs.lemmas.Iterator.{YieldsList-from_range}
use Rattle.std.proofs.lemmas.Iterator.Consumers.{fold_from_yields_List}
use Rattle.protocol.specs.declared.places.PlaceSet.{PlaceSet}
use Rattle.holders.specs.Sets.{mask_at}
use Rattle.holders.proofs.Spread.{round, rounds_folded}
use Rattle.holders.proofs.reaching.reached.Goals as goal

pub returns : goal.returns
returns c =
    let w = mask_at c.args.sets.now in
    ap (λ (s : PlaceSet). s.mask) (fold_from_yields_List _ (round w) _ _ c.fold.ensures.ran (YieldsList-from_range 0 17 17 refl refl) (λ a x b q k. search rules))
    ∙ rounds_folded w (range_with_len 0 17) c.args.set
