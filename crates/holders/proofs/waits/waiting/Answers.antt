use Rattle.std.proofs.Common.{◌≡◌, get_or, take, ap, ap₂, ◌∙◌, arith}
use Rattle.std.proofs.lemmas.List.{take_all, get_or_default}
use Rattle.protocol.specs.Holdings.{waits, new_waits}
use Rattle.protocol.specs.Places.{join, placed}
use Rattle.protocol.specs.Empty.{no_holding}
use Rattle.protocol.specs.declared.places.PlaceSet.{PlaceSet}
use Rattle.holders.specs.Sets.{nobody, mask_at}
use Rattle.holders.proofs.OneMore.{waiting_none, waiting_more, waiting_skip}
use Rattle.holders.proofs.waits.waiting.Goals as goal
use Rattle.holders.proofs.waits.waiting.Goals.{then-place-lt16, else-place-lt16}

pub loop-i-init : goal.loop-i-init
loop-i-init c = waiting_none c.args.holdings.now

pub loop-i-preserved : goal.loop-i-preserved
loop-i-preserved c =
    let hs = c.args.holdings.now in
    let sets = c.loop-i.sets in
    let i = c.loop-i.i in
    let l = c.loop-i-test.true in
    let h = get_or hs i no_holding in
    elim c.if-place-lt16.branch [
      | then-place-lt16 w ↦
          let new : w.new_waits.result.mask ≡ placed (new_waits (take i hs) h) = cc in
          let is : w.joined.result.mask ≡ join (mask_at sets h.job) (placed (new_waits (take i hs) h)) =
          w.joined.ensures ∙ ap₂ join (ap (λ (s : PlaceSet). s.mask) (get_or_default sets h.job _ nobody (omega (arith, c.loop-i.invariant.long, w.if-place-lt16.true)))) new in
          rw w.sets-is (waiting_more hs sets i l c.loop-i.invariant w.joined.result w.if-place-lt16.true is)
      | else-place-lt16 w ↦ rw w.sets-is (waiting_skip hs sets i l c.loop-i.invariant w.if-place-lt16.false)
    ]

pub returns : goal.returns
returns c =
    let hs = c.args.holdings.now in
    record {
      each = λ p l. c.loop-i.invariant.told p l ∙ ap (λ gs. placed (waits gs p)) (take_all c.loop-i.i hs c.loop-i-test.false);
      all = c.loop-i.invariant.long;
    }
