use Rattle.std.proofs.Common.{◌≡◌, ℕ, ap, ◌∙◌}
use Rattle.protocol.specs.Holdings.{rounds, reach, waits, new_waits}
use Rattle.protocol.specs.Places.{placed}
use Rattle.holders.specs.Sets.{mask_at}
use Rattle.holders.proofs.Spread.{reach_placed}
use Rattle.holders.proofs.reaching.reached_by.Goals as goal

pub returns : goal.returns
unfolding reach
returns c =
    let w : ℕ → ℕ = mask_at c.waiting.result in
    let hs = c.args.holdings.now in
    let new = new_waits hs c.args.new.now in
    let start : rounds w 17 c.new_waits.result.mask ≡ rounds w 17 (placed new) = ap (rounds w 17) c.new_waits.ensures in
    c.reached.ensures ∙ start ∙ reach_placed w (waits hs) c.waiting.ensures.each new
