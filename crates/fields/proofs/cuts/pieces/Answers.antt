use Rattle.std.proofs.Common.{◌==◌, map, vec_items, ap, ◌∙◌, rules, of_calls, tests, arith}
use Rattle.std.proofs.lemmas.Iterator.Consumers.{YieldsList-at}
use Rattle.std.proofs.lemmas.Iterator.Splits.{YieldsList-from_slice_split}
use Rattle.std.proofs.lemmas.List.{map_push}
use Rattle.fields.specs.Places.{word_of}
use Rattle.fields.proofs.Steps.{starts, room, goes_on, all_done}
use Rattle.fields.proofs.cuts.pieces.Goals as goal

pub loop-bytes-init : goal.loop-bytes-init
loop-bytes-init c = (
  search (rules, of_calls),
  search rules,
  starts c.args.mark (word_of c.args.text) _ c.into_iter-bytes-iterator.result (search rules)
      (YieldsList-at c.into_iter-bytes-iterator.ensures.into_iter_gives
      (YieldsList-from_slice_split _ (λ x. x == c.args.mark) c.args.text.bytes.now c.split-bytes-items.ensures.rest c.split-bytes-items.ensures.done c.split-bytes-items.ensures.closure (λ x b q k. search (rules, of_calls, tests)))),
)

pub overflow_add-at-in-loop-bytes : goal.overflow_add-at-in-loop-bytes
overflow_add-at-in-loop-bytes c =
    let fits = room c.args.mark (word_of c.args.text) _ c.loop-bytes.at _ c.next.new.self c.in-Some.bytes c.loop-bytes.invariant.2 c.in-Some.ensures.steps in
    let small = c.requires in
    omega arith

pub loop-bytes-preserved : goal.loop-bytes-preserved
loop-bytes-preserved c = (
  search rules,
  search rules,
  goes_on c.args.mark (word_of c.args.text) _ _ c.loop-bytes.at _ c.next.new.self c.in-Some.bytes c.loop-bytes.invariant.2 c.in-Some.ensures.steps
      (ap (map word_of) c.in_ok-push.ensures.items ∙ map_push word_of (vec_items c.loop-bytes.all) _),
)

pub returns : goal.returns
returns c = all_done c.args.mark (word_of c.args.text) _ c.loop-bytes.at _ _ c.loop-bytes.invariant.2 c.in-None.ensures.steps
