use Rattle.std.proofs.Common.{rules}
use Rattle.script.proofs.Lengths.{short_line}
use Rattle.script.proofs.outputs.OutputLine.text.Goals as goal

pub returns-clause-short : goal.returns-clause-short
returns-clause-short c = search (rules, short_line)
