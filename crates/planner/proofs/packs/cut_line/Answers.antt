use Rattle.std.proofs.Common.{◌≡◌, eqb, sym, ◌∙◌, rules}
use Rattle.std.specs.List.{position}
use Rattle.std.proofs.lemmas.Iterator.{YieldsList-from_slice}
use Rattle.std.proofs.lemmas.Iterator.Search.{position_from_yields_List}
use Rattle.planner.proofs.Cuts.{cut_there, cut_nowhere}
use Rattle.planner.proofs.packs.cut_line.Goals as goal

pub returns-in-Some : goal.returns-in-Some
returns-in-Some c =
    let found : c.position.result ≡ position (λ byte. eqb byte 10) c.args.text.now = position_from_yields_List (λ byte. eqb byte 10) _ _ _ c.position.ensures.ran (YieldsList-from_slice c.args.text.now cc) (λ x b q k. search rules) in
    let cut = cut_there c.args.text.now c.in-Some.end (sym c.in-Some.is ∙ found) in
    record { line = cut.0; rest = cut.1 }

pub returns-in-None : goal.returns-in-None
returns-in-None c =
    let found : c.position.result ≡ position (λ byte. eqb byte 10) c.args.text.now = position_from_yields_List (λ byte. eqb byte 10) _ _ _ c.position.ensures.ran (YieldsList-from_slice c.args.text.now cc) (λ x b q k. search rules) in
    let cut = cut_nowhere c.args.text.now (sym c.in-None.is ∙ found) in
    record { line = cut.0; rest = cut.1 }
