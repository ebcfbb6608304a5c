use Rattle.std.proofs.Common.{Bool, eqb, length, sym, ap, ◌∙◌, arith}
use Rattle.std.proofs.lemmas.Bool.{eq-eqb, ne_eqb}
use Rattle.book.proofs.Counted.{passes_here, passes_later, at_end}
use Rattle.book.proofs.searching.count_of.Goals as goal
use Rattle.book.proofs.searching.count_of.Goals.{then-job-place, else-job-place}

pub loop-record-init : goal.loop-record-init
loop-record-init g c = (omega arith, omega arith)

pub overflow_add-count : goal.overflow_add-count
overflow_add-count g c = omega (arith, c.loop-record.invariant.0)

pub loop-record-preserved : goal.loop-record-preserved
loop-record-preserved g c =
    let t : g.row.T.Denot → Bool = λ x. eqb (g.T.NamesJob.named x) c.args.place.number in
    let xs = c.args.records.now in
    let i = c.loop-record.record-index in
    let x = c.record-item.result in
    let inv = c.loop-record.invariant in
    elim c.if-job-place.branch [
      | then-job-place w ↦
          rw w.count-is (omega arith, omega (arith, inv.1, ap length (passes_here t xs i x c.loop-record-test.true c.record-item.is (eq-eqb _ _ (sym c.job.ensures ∙ w.if-job-place.true)))))
      | else-job-place w ↦
          rw w.count-is (omega arith, omega (arith, inv.1, ap length (passes_later t xs i x c.loop-record-test.true c.record-item.is (ne_eqb _ _ (λ e. w.if-job-place.false (c.job.ensures ∙ e))))))
    ]

pub returns : goal.returns
returns g c =
    let t : g.row.T.Denot → Bool = λ x. eqb (g.T.NamesJob.named x) c.args.place.number in
    omega (arith, c.loop-record.invariant.1, ap length (at_end t c.args.records.now c.loop-record.record-index c.loop-record-test.false))
