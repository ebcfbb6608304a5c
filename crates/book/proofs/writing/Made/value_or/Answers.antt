use Rattle.std.proofs.Common.{◌&&◌, eqb, ap, ◌∙◌, rules}
use Rattle.std.specs.Option.{option_map_or}
use Rattle.std.proofs.lemmas.Iterator.{YieldsList-from_slice}
use Rattle.std.proofs.lemmas.Iterator.Search.{find_from_yields_List}
use borrow.Author.Tests.{tests}
use Rattle.protocol.specs.declared.assumptions.Version.{Version}
use Rattle.book.proofs.Written.{or_else, found}
use Rattle.book.proofs.writing.Made.value_or.Goals as goal

pub returns : goal.returns
returns c =
    or_else _ c.find.result c.args.other c.map_or.result c.map_or.ensures (λ v e. search rules)
    ∙ ap (λ o. option_map_or (λ (v : Version). v.value) o c.args.other)
    (find_from_yields_List (λ (v : Version). eqb v.maker c.args.self.now.place.number && eqb v.object c.args.object) _ _ c.find.result c.find.ensures.ran (YieldsList-from_slice c.args.self.now.versions.now cc) (λ x b q k. search (rules, tests)))
    ∙ found c.args.self.now.place.number c.args.object c.args.other c.args.self.now.versions.now
