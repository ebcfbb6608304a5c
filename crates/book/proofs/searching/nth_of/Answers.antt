use Rattle.std.proofs.Common.{◌∙◌, rules}
use Rattle.std.proofs.lemmas.Iterator.{YieldsList-from_slice}
use Rattle.std.proofs.lemmas.Iterator.Consumers.{YieldsList-from_filter, nth_from_yields_List}
use borrow.Author.Tests.{tests}
use Rattle.book.proofs.searching.nth_of.Goals as goal

pub returns : goal.returns
returns g c =
    c.copied.ensures
    ∙ nth_from_yields_List c.nth.result _ c.args.n c.nth.ensures.ran (YieldsList-from_filter _ _ (YieldsList-from_slice c.args.records.now cc) c.filter.ensures.closure (λ x b q k. search (rules, tests)))
