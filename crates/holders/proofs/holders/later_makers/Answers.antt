use Rattle.std.proofs.Common.{rules, sym, ap, ◌∙◌, ◌+◌}
use Rattle.std.proofs.lemmas.List.{take_rest}
use Rattle.std.proofs.lemmas.Iterator.{YieldsList-from_slice}
use Rattle.std.proofs.lemmas.Iterator.Search.{position_from_yields_List}
use borrow.Author.Tests.{tests}
use Rattle.protocol.specs.Holdings.{makers, holds}
use Rattle.protocol.specs.Places.{placed}
use Rattle.holders.proofs.Joins.{placed_zero}
use Rattle.holders.proofs.Chains.{later_Some, later_None}
use Rattle.holders.proofs.holders.later_makers.Goals as goal

pub returns-in-Some : goal.returns-in-Some
returns-in-Some c =
    let p = c.args.place in
    let o = c.args.object in
    let hs = c.args.holdings.now in
    c.makers.ensures ∙ ap placed (ap (makers o) (take_rest hs (c.in-Some.i + 1)) ∙ later_Some o p hs c.in-Some.i
    (sym (position_from_yields_List (holds p o) _ _ _ c.position-own.ensures.ran (YieldsList-from_slice hs cc) (λ x b q k. search (rules, tests))) ∙ c.in-Some.is))

pub returns-in-None : goal.returns-in-None
returns-in-None c =
    let p = c.args.place in
    let o = c.args.object in
    let hs = c.args.holdings.now in
    sym placed_zero ∙ ap placed (sym (later_None o p hs
    (sym (position_from_yields_List (holds p o) _ _ _ c.position-own.ensures.ran (YieldsList-from_slice hs cc) (λ x b q k. search (rules, tests))) ∙ c.in-None.is)))
