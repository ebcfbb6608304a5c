use Rattle.std.proofs.Common.{not, eqb, ap, ◌∙◌, rules}
use Rattle.std.proofs.lemmas.Iterator.{YieldsList-from_slice}
use Rattle.std.proofs.lemmas.Iterator.Consumers.{YieldsList-from_filter, count_from_yields_List}
use Rattle.std.proofs.lemmas.Iterator.Search.{YieldsList-from_take_while}
use borrow.Author.Tests.{tests}
use Rattle.protocol.specs.Holdings.{held_by}
use Rattle.holders.proofs.Chains.{position_counted}
use Rattle.holders.proofs.holders.position.Goals as goal

pub returns : goal.returns
returns c =
    let p = c.args.place in
    let o = c.args.object in
    count_from_yields_List _ _ c.count.ensures.ran
    (YieldsList-from_take_while _ (λ h. not (eqb h.object o))
    (YieldsList-from_filter _ (held_by p) (YieldsList-from_slice c.args.holdings.now cc) (ap (λ s. s.p) c.take_while.ensures.source ∙ c.filter.ensures.closure) (λ x b q k. search (rules, tests)))
    c.take_while.ensures.closure c.take_while.ensures.done (λ x b q k. search (rules, tests)))
    ∙ position_counted p o c.args.holdings.now
