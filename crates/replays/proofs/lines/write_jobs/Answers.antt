use Rattle.std.proofs.Common.{[], ◌<◌, ◌++◌, length, get_or, is_some, None, string_bytes, sym, ap, ◌∙◌, arith}
use Rattle.tables.specs.Items.{items}
use Rattle.book.specs.View.{view}
use Rattle.protocol.specs.Model.{executions_of}
use Rattle.replays.specs.Output.{lines_from, place_bytes}
use Rattle.replays.proofs.Telling.{with_job, without_job}
use Rattle.replays.proofs.Writing.{line_more, lines_done}
use Rattle.replays.proofs.lines.write_jobs.Goals as goal
use Rattle.replays.proofs.lines.write_jobs.Goals.{then-is_some+in_ok-append_to, else-is_some}

pub loop-place-preserved : goal.loop-place-preserved
loop-place-preserved c =
    let b = c.args.book.now in
    let es = items b.executions in
    let p = c.loop-place.place in
    let now = string_bytes c.loop-place.out in
    let whole = string_bytes c.args.out.now ++ lines_from (place_bytes es) 0 b.jobs in
    let there : p < length b.jobs = omega (arith, b.places, c.loop-place-test.true) in
    elim c.if-is_some.branch [
      | then-is_some+in_ok-append_to w ↦
          rw w.out-is (
          line_more (place_bytes es) p b.jobs p now whole c.loop-place.invariant None (string_bytes w.append_to.new.out) there
          (w.in_ok-append_to.ensures.bytes
          ∙ ap (λ l. now ++ l)
          (with_job es p _ (get_or b.jobs p None) (sym (c.is_some.ensures ∙ ap is_some (c.job.ensures ∙ ap (λ q. get_or b.jobs q None) c.from.ensures)) ∙ w.if-is_some.true)
          (w.execution_count-executions.ensures ∙ ap (λ q. length (executions_of q (view [] b))) w.from-then-is_some.ensures)))
          )
      | else-is_some w ↦
          rw w.out-is (
          line_more (place_bytes es) p b.jobs p now whole c.loop-place.invariant None now there
          (without_job es p (get_or b.jobs p None) now (sym (c.is_some.ensures ∙ ap is_some (c.job.ensures ∙ ap (λ q. get_or b.jobs q None) c.from.ensures)) ∙ w.if-is_some.false))
          )
    ]

pub returns : goal.returns
returns c =
    let b = c.args.book.now in
    let es = items b.executions in
    let now = string_bytes c.loop-place.out in
    let whole = string_bytes c.args.out.now ++ lines_from (place_bytes es) 0 b.jobs in
    lines_done (place_bytes es) c.loop-place.place b.jobs c.loop-place.place now whole c.loop-place.invariant (omega (arith, b.places, c.loop-place-test.false))
