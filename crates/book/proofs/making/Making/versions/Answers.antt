use Rattle.std.proofs.Common.{◌++◌, map, length, Some, ◌∙◌, ap, rules, arith}
use Rattle.std.specs.Prelude.{filter}
use Rattle.std.proofs.iter.Serving.{serving}
use Rattle.std.proofs.lemmas.Iterator.{YieldsList-from_slice, YieldsList-from_map}
use Rattle.std.proofs.lemmas.Iterator.Consumers.{YieldsList-from_filter, YieldsList-at}
use Rattle.std.proofs.lemmas.List.{length-map}
use borrow.Author.Tests.{tests}
use Rattle.protocol.specs.Image.{version_by}
use Rattle.protocol.specs.Model.{names}
use Rattle.tables.specs.Items.{items}
use Rattle.book.proofs.Gathered.{gathered, gathers}
use Rattle.book.proofs.making.Making.versions.Goals as goal

pub gather-requires : goal.gather-requires
gather-requires g c =
    let m = c.args.self.now in
    let f = version_by (g.R.JobRule.means m.rule.now) (Some m.job) m.object m.met in
    let own = filter (names m.place.number) c.args.executions.now in (
      omega arith,
      (
        grind serving,
        (
          search rules,
          gathers (length (items c.new-all.result)) 16 (omega (arith, c.requires, length-map own f, ap length c.new-all.ensures.starts))
              (YieldsList-from_map {s = c.map-made.result} _ f (YieldsList-at c.map-made.ensures.source (YieldsList-from_filter {s = c.filter.result} _ (names m.place.number) (YieldsList-from_slice c.args.executions.now cc) c.filter.ensures.closure (λ x b q k. search (rules, tests)))) c.map-made.ensures.closure (λ x r q k. search rules)),
        ),
      ),
    )

pub returns : goal.returns
returns g c =
    let m = c.args.self.now in
    let f = version_by (g.R.JobRule.means m.rule.now) (Some m.job) m.object m.met in
    let own = filter (names m.place.number) c.args.executions.now in
    gathered (items c.new-all.result) (items c.gather.new.all) c.gather.ensures
    (YieldsList-from_map {s = c.map-made.result} _ f (YieldsList-at c.map-made.ensures.source (YieldsList-from_filter {s = c.filter.result} _ (names m.place.number) (YieldsList-from_slice c.args.executions.now cc) c.filter.ensures.closure (λ x b q k. search (rules, tests)))) c.map-made.ensures.closure (λ x r q k. search rules))
    ∙ ap (λ l. l ++ map f own) c.new-all.ensures.starts
