use Rattle.std.proofs.Common.{◌∷◌, ◌++◌, map, length, not, Some, refl, ◌∙◌, ap, rules, arith}
use Rattle.std.specs.Prelude.{filter}
use Rattle.std.proofs.iter.Serving.{serving}
use Rattle.std.proofs.lemmas.Iterator.{YieldsList-from_slice, YieldsList-from_map}
use Rattle.std.proofs.lemmas.Iterator.Adapters.{YieldsList-from_once}
use Rattle.std.proofs.lemmas.Iterator.Consumers.{YieldsList-from_filter, YieldsList-at, YieldsList-from_chain}
use Rattle.std.proofs.lemmas.List.{length-map}
use Rattle.std.proofs.lemmas.List.Filters.{length-filter_both}
use borrow.Author.Tests.{tests}
use Rattle.protocol.specs.Pairing.{offer, of_object}
use Rattle.tables.specs.Items.{items}
use Rattle.book.proofs.Gathered.{gathered, gathers}
use Rattle.book.proofs.offering.Offering.offers.Goals as goal

pub gather-requires : goal.gather-requires
gather-requires c =
    let q = c.args.self.now in
    let f = offer q.holdings.now q.object in
    let vs = c.args.versions.now in
    let t = of_object q.object in (
      omega arith,
      (
        grind serving,
        (
          search rules,
          gathers (length (items c.new-all.result)) 257 (omega (arith, c.requires, ap length c.new-all.ensures.starts, length-map (filter t vs) f, length-filter_both t (λ v. not (t v)) (λ v. refl) vs))
              (YieldsList-from_chain {s = c.chain.result}
              (YieldsList-at c.chain.ensures.first (YieldsList-from_once {s = c.into_iter.result} (Some c.stored.result) c.into_iter.ensures.into_iter_gives.0))
              (YieldsList-at c.chain.ensures.second (YieldsList-from_map {s = c.map-made.result} _ f (YieldsList-at c.map-made.ensures.source (YieldsList-from_filter {s = c.filter.result} _ t (YieldsList-from_slice vs cc) c.filter.ensures.closure (λ x b q k. search (rules, tests)))) c.map-made.ensures.closure (λ x r q k. search rules)))
              c.chain.ensures.first_done c.chain.ensures.second_done),
        ),
      ),
    )

pub returns : goal.returns
returns c =
    let q = c.args.self.now in
    let f = offer q.holdings.now q.object in
    let vs = c.args.versions.now in
    let t = of_object q.object in
    gathered (items c.new-all.result) (items c.gather.new.all) c.gather.ensures
    (YieldsList-from_chain {s = c.chain.result}
    (YieldsList-at c.chain.ensures.first (YieldsList-from_once {s = c.into_iter.result} (Some c.stored.result) c.into_iter.ensures.into_iter_gives.0))
    (YieldsList-at c.chain.ensures.second (YieldsList-from_map {s = c.map-made.result} _ f (YieldsList-at c.map-made.ensures.source (YieldsList-from_filter {s = c.filter.result} _ t (YieldsList-from_slice vs cc) c.filter.ensures.closure (λ x b q k. search (rules, tests)))) c.map-made.ensures.closure (λ x r q k. search rules)))
    c.chain.ensures.first_done c.chain.ensures.second_done)
    ∙ ap (λ l. l ++ c.stored.result ∷ map f (filter t vs)) c.new-all.ensures.starts
    ∙ ap (λ x. x ∷ map f (filter t vs)) c.stored.ensures
