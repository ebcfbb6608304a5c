use Rattle.std.proofs.Common.{◌+◌, ◌++◌, Ok, string_bytes, ap, ◌∙◌}
use Rattle.script.specs.Outputs.{answer_bytes}
use Rattle.replays.proofs.Merging.{next_answer, line_of_call, line_of_fault, lines_told}
use Rattle.std.specs.Prelude.{unwrap_or}
use Rattle.replays.proofs.asked.Asked.write_answers.Goals as goal
use Rattle.replays.proofs.asked.Asked.write_answers.Goals.{in-Ok, in-Err}

pub loop-i-preserved : goal.loop-i-preserved
loop-i-preserved c =
    let rs = c.args.self.now.readings.now in
    let now = string_bytes c.loop-i.out in
    elim c.match-reading.branch [
      | in-Ok w ↦
          rw w.left-is (
          line_of_call rs c.loop-i.i _ c.loop-i-test.true c.loop-i.left.rest.now now _ c.loop-i.invariant _ _ w.unwrap_or.result _ w.in-Ok.is
          (let n = next_answer c.loop-i.left w.next.new.self w.next.result w.next.ensures.steps in (w.unwrap_or.ensures ∙ ap (λ r. unwrap_or r (Ok tt)) w.copied.ensures ∙ n.0, n.1))
          (c.in_ok-append_to.ensures.bytes ∙ ap (λ a. now ++ answer_bytes (c.loop-i.i + 2) a) (w.answer-is ∙ w.answer_number-answer.ensures))
          )
      | in-Err w ↦
          rw w.left-is (line_of_fault rs c.loop-i.i _ c.loop-i-test.true c.loop-i.left.rest.now now _ c.loop-i.invariant _ _ w.in-Err.is
          (c.in_ok-append_to.ensures.bytes ∙ ap (λ a. now ++ answer_bytes (c.loop-i.i + 2) a) (w.answer-is ∙ w.from-answer.ensures)))
    ]

pub returns : goal.returns
returns c =
    lines_told c.args.self.now.readings.now c.loop-i.i c.loop-i.left.rest.now (string_bytes c.loop-i.out) _ c.loop-i-test.false c.loop-i.invariant
