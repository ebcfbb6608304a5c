use Rattle.std.proofs.Common.{◌≡◌, ◌+◌, ◌++◌, drop, string_bytes}
use Rattle.script.specs.Outputs.{answer_bytes}
use Rattle.replays.specs.Output.{lines_from}
use Rattle.replays.specs.Merged.{merged}
use Rattle.replays.proofs.asked.Asked.write_answers.Given as goal

abbrev pub invariant-loop-i : goal.invariant-loop-i
invariant-loop-i l =
    string_bytes l.out ++ lines_from answer_bytes (l.i + 2) (merged (drop l.i l.self.readings.now) l.left.rest.now)
    ≡ string_bytes l.initial.out ++ lines_from answer_bytes 2 (merged l.self.readings.now l.answers)
