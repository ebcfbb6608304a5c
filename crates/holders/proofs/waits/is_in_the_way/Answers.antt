use Rattle.std.proofs.Common.{◌&&◌, eqb, rules}
use Rattle.std.proofs.lemmas.Iterator.{YieldsList-from_slice}
use Rattle.std.proofs.lemmas.Iterator.Search.{any_from_yields_List}
use borrow.Author.Tests.{tests}
use Rattle.protocol.specs.Holdings.{clash}
use Rattle.holders.proofs.waits.is_in_the_way.Goals as goal

pub returns-then-holding-place : goal.returns-then-holding-place
returns-then-holding-place c =
    let p = c.args.place in
    let g = c.args.holding.now in
    let any = any_from_yields_List (λ own. eqb own.job p && clash g own) _ _ _ c.any.ensures.ran (YieldsList-from_slice c.args.behind.now cc) (λ x b q k. search (rules, tests)) in
    search (rules, tests, any)
