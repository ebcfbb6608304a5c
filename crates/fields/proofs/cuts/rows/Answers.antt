use Rattle.std.proofs.Common.{◌≡◌, map, vec_items, ap, ◌∙◌, rules}
use Rattle.std.specs.Iterator.Adapters.{map_source}
use Rattle.std.specs.Slice.Iter.{iter_rest}
use Rattle.std.proofs.lemmas.Iterator.{YieldsList-from_slice}
use Rattle.std.proofs.lemmas.Iterator.Adapters.{serves_from_places}
use Rattle.fields.specs.Places.{word_of}
use Rattle.fields.proofs.Turns.{line_inside, rows_collected}
use Rattle.fields.proofs.cuts.rows.Goals as goal

pub try_collect-requires-clause-can : goal.try_collect-requires-clause-can
try_collect-requires-clause-can c =
    let lines = line_inside c.args.script.now (vec_items c.in_ok-lines.field-0) c.in_ok-lines.ensures in
    (tt, serves_from_places (YieldsList-from_slice (vec_items c.in_ok-lines.field-0) (search rules)) (λ x q r. search rules) (λ x k h is. let l = lines x.now k h is in search (rules, l)))

pub returns : goal.returns
returns c =
    let all : iter_rest (map_source c.map.result) ≡ vec_items c.in_ok-lines.field-0 = search rules in
    rows_collected _ c.args.script.now c.map.result c.try_collect.result c.try_collect.ensures.ran (λ f l r q k. search rules) (ap (map word_of) all ∙ c.in_ok-lines.ensures)
