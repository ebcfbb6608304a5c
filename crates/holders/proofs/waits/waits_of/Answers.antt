use Rattle.std.proofs.Common.{◌≡◌, ◌+◌, true, false, get_or, drop, sym, ap, ◌∙◌}
use Rattle.std.proofs.lemmas.List.{take_rest}
use Rattle.protocol.specs.Places.{single, join, placed}
use Rattle.protocol.specs.Empty.{no_holding}
use Rattle.holders.proofs.Sets.{blocks}
use Rattle.holders.proofs.Gathered.{join_far, join_held, gathered_none, gathered_all, gathered_more, gathered_less, gathered_own, gathered_skip}
use Rattle.holders.proofs.waits.waits_of.Goals as goal
use Rattle.holders.proofs.waits.waits_of.Goals.{then-holding-place+then-holding-lt16+then-not-has+then-is_in_the_way, then-holding-place+then-holding-lt16+then-not-has+else-is_in_the_way, else-holding-place, else-holding-place-via-then-holding-place+then-holding-lt16+else-not-has, else-holding-place-via-then-holding-place+else-holding-lt16, else-holding-place-via-else-holding-place}

pub loop-i-init : goal.loop-i-init
loop-i-init c = gathered_none c.args.place c.args.holdings.now

pub loop-i-preserved : goal.loop-i-preserved
loop-i-preserved c =
    let p = c.args.place in
    let hs = c.args.holdings.now in
    let set = c.loop-i.set.mask in
    let i = c.loop-i.i in
    let h = get_or hs i no_holding in
    let inv = c.loop-i.invariant in
    let l = c.loop-i-test.true in
    elim c.if-holding-place.branch [
      | then-holding-place+then-holding-lt16+then-not-has+then-is_in_the_way w ↦
          let told : blocks p h (drop (i + 1) hs) ≡ true = ap (blocks p h) (sym (take_rest hs (i + 1))) ∙ sym w.is_in_the_way.ensures ∙ w.if-is_in_the_way.true in
          let new : w.joined-set.result.mask ≡ join set (placed (single h.job)) = cc in
          rw w.set-is (gathered_more p hs set i inv l told w.joined-set.result.mask new)
      | then-holding-place+then-holding-lt16+then-not-has+else-is_in_the_way w ↦
          let told : blocks p h (drop (i + 1) hs) ≡ false = ap (blocks p h) (sym (take_rest hs (i + 1))) ∙ sym w.is_in_the_way.ensures ∙ w.if-is_in_the_way.false in
          rw w.set-is (gathered_less p hs set i inv l told)
      | else-holding-place w ↦
          rw w.set-is
          (elim w.else-holding-place.branch [
            | else-holding-place-via-then-holding-place+then-holding-lt16+else-not-has v ↦ gathered_skip p hs set i inv l (join_held set h.job cc)
            | else-holding-place-via-then-holding-place+else-holding-lt16 v ↦ gathered_skip p hs set i inv l (join_far set h.job v.if-holding-lt16.false)
            | else-holding-place-via-else-holding-place v ↦ gathered_own p hs set i inv l cc
          ])
    ]

pub returns : goal.returns
returns c = gathered_all c.args.place c.args.holdings.now c.loop-i.set.mask c.loop-i.i c.loop-i.invariant c.loop-i-test.false
