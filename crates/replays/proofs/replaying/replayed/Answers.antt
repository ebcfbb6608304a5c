use Rattle.std.proofs.Common.{length, vec_items, ap, arith}
use Rattle.replays.proofs.Short.{few_lines}
use Rattle.replays.proofs.replaying.replayed.Goals as goal

pub invariant_of-asked : goal.invariant_of-asked
invariant_of-asked c =
    record { short = omega (arith, few_lines c.args.script.now c.in-Ok.read.setup (vec_items c.in-Ok.read.readings) c.in-Ok.ensures, ap length c.as_slice.ensures.value) }
