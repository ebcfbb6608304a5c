use Rattle.std.proofs.Common.{◌<◌, length, get_or, arith}
use Rattle.std.proofs.lemmas.List.{get_or_default}
use Rattle.std.proofs.lemmas.List.Edits.{map_over_more}
use Rattle.protocol.specs.Holdings.{turn}
use Rattle.protocol.specs.Empty.{no_holding}
use Rattle.tables.proofs.turning.turn.Goals as goal

pub loop-holding-preserved : goal.loop-holding-preserved
loop-holding-preserved c =
    let was = c.args.holdings.now in
    let now = c.loop-holding.holdings in
    let i = c.loop-holding.holding-index in
    let h = get_or now i no_holding in
    let within : i < length was = omega arith in
    rw c.turned.ensures
    (map_over_more (turn c.args.place c.args.object) was now i h within c.loop-holding.invariant (get_or_default now i no_holding h (omega arith)))
