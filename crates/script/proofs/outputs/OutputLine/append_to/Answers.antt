use Rattle.std.proofs.Common.{◌+◌, ◌≤◌, ◌++◌, length, string_bytes, ap, ◌∙◌, arith, length-append}
use Rattle.std.proofs.lemmas.Result.{on_ok_weaker}
use Rattle.script.specs.Outputs.{line_bytes}
use Rattle.script.proofs.Lengths.{short_line}
use Rattle.script.proofs.outputs.OutputLine.append_to.Goals as goal

pub returns-clause-short : goal.returns-clause-short
returns-clause-short c =
    let few = short_line c.args.self c.fits.ensures in
    on_ok_weaker c.write.result (λ e. omega (arith, few, ap length e ∙ length-append (string_bytes c.args.out.now) (line_bytes c.args.self))) c.write.ensures.bytes
