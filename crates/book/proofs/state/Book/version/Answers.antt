use Rattle.std.proofs.Common.{[], ◌∷◌, Some, cond, ltb, length, get_or, map, sym, ap, ◌∙◌, rules}
use Rattle.std.specs.Prelude.{filter}
use Rattle.std.specs.List.{slice_get}
use Rattle.std.proofs.lemmas.Iterator.{YieldsList-from_slice, YieldsList-from_map}
use Rattle.std.proofs.lemmas.Iterator.Adapters.{option_map_id, YieldsList-from_once}
use Rattle.std.proofs.lemmas.Iterator.Consumers.{YieldsList-at, YieldsList-from_filter, YieldsList-from_chain, nth_from_yields_List}
use borrow.Author.Tests.{tests}
use Rattle.protocol.specs.Pairing.{of_object}
use Rattle.book.specs.Questions.{made_version, stored_version}
use Rattle.book.proofs.Listed.{listed}
use Rattle.book.proofs.state.Book.version.Goals as goal

pub returns : goal.returns
returns g c =
    let o = c.args.object in
    let stored = stored_version c.in_ok-read.field-0 in
    let made = map made_version (filter (of_object o) c.in_use.result.now) in
    sym (option_map_id c.nth.result)
    ∙ nth_from_yields_List c.nth.result _ c.args.n c.nth.ensures.ran
    (YieldsList-from_chain {s = c.chain.result}
    (YieldsList-at c.chain.ensures.first (YieldsList-from_once {s = c.once.result} (Some stored) c.once.ensures.item))
    (YieldsList-at c.chain.ensures.second (YieldsList-from_map {s = c.map-made.result} _ made_version (YieldsList-at c.map-made.ensures.source (YieldsList-from_filter {s = c.filter.result} _ (of_object o) (YieldsList-from_slice c.in_use.result.now cc) c.filter.ensures.closure (λ x b q k. search (rules, tests)))) c.map-made.ensures.closure (λ x r q k. search rules)))
    c.chain.ensures.first_done c.chain.ensures.second_done)
    ∙ ap (λ l. slice_get l c.args.n) (listed (g.S.Store.values c.args.store.now) o c.in_ok-read.field-0 made c.in_ok-read.ensures.reads)
    ∙ ap (λ vs. slice_get (cond (ltb o (length (g.S.Store.values c.args.store.now))) (stored_version (get_or (g.S.Store.values c.args.store.now) o 0) ∷ map made_version (filter (of_object o) vs)) []) c.args.n) c.in_use.ensures
