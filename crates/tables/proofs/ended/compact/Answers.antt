use Rattle.std.proofs.Common.{◌<◌, ◌≤◌, length, sym, ◌∙◌, arith}
use Rattle.tables.proofs.Sifting.{sifting_some, sifting_none, compacted}
use Rattle.tables.proofs.ended.compact.Goals as goal
use Rattle.tables.proofs.ended.compact.Goals.{in-Some, in_default}

pub loop-i-preserved : goal.loop-i-preserved
loop-i-preserved g c =
    let xs = c.args.records.now in
    let ys = c.loop-i.records in
    let x = c.index-records-i.result in
    let l : c.loop-i.i < length ys = omega arith in
    elim c.match-left.branch [
      | in-Some w ↦ (
        omega (arith, w.live-is),
        λ rule says.
            rw (w.records-is, w.live-is)
            (sifting_some rule xs ys c.loop-i.live c.loop-i.i x (c.loop-i.invariant.1 rule says) l c.index-records-i.is w.in-Some.record (sym w.in-Some.is ∙ says _ _ c.left.ensures)),
      )
      | in_default w ↦ (
        omega (arith, w.live-is),
        λ rule says.
            rw (w.records-is, w.live-is)
            (sifting_none rule xs ys c.loop-i.live c.loop-i.i x (c.loop-i.invariant.1 rule says) l c.index-records-i.is (sym w.in_default.is ∙ says _ _ c.left.ensures)),
      )
    ]

pub returns : goal.returns
returns g c =
    let xs = c.args.records.now in
    let done : length xs ≤ c.loop-i.i = omega arith in
    λ rule says. compacted rule xs c.loop-i.records c.loop-i.live c.loop-i.i (c.loop-i.invariant.1 rule says) done c.args.empty c.refill.new.records c.refill.ensures
