use Rattle.std.proofs.Common.{◌<◌, ◌≤◌, ◌++◌, length, get_or, string_bytes, ap, ◌∙◌, arith}
use Rattle.script.specs.Outputs.{object_bytes}
use Rattle.replays.specs.Output.{lines_from}
use Rattle.replays.proofs.Writing.{line_more, lines_done, value_there, object_line_is}
use Rattle.replays.proofs.lines.write_objects.Goals as goal

pub loop-object-preserved : goal.loop-object-preserved
loop-object-preserved g c =
    let xs = g.S.Store.values c.args.store.now in
    let o = c.loop-object.object in
    let now = string_bytes c.loop-object.out in
    let whole = string_bytes c.args.out.now ++ lines_from object_bytes 0 xs in
    let value = c.unwrap-value.result in
    let there : o < length xs = omega (arith, c.loop-object-test.true, c.len-object-end.ensures.counts) in
    let small : length xs ≤ 65536 = g.S.Store.short c.args.store.now in
    line_more object_bytes o xs o now whole c.loop-object.invariant 0 (string_bytes c.append_to.new.out) there
    (c.in_ok-append_to.ensures.bytes ∙ ap (λ l. now ++ l) (object_line_is _ o value (get_or xs o 0) (omega (arith, small)) (value_there xs o value c.read.result there c.read.ensures.reads c.unwrap-value.ensures)))

pub returns : goal.returns
returns g c =
    let xs = g.S.Store.values c.args.store.now in
    let now = string_bytes c.loop-object.out in
    let whole = string_bytes c.args.out.now ++ lines_from object_bytes 0 xs in
    lines_done object_bytes c.loop-object.object xs c.loop-object.object now whole c.loop-object.invariant (omega (arith, c.loop-object-test.false, c.len-object-end.ensures.counts))
