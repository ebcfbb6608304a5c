use Rattle.std.proofs.Common.{Ok, Err, ◌∙◌}
use Rattle.std.proofs.lemmas.Result.{err_from_is_err_and}
use Rattle.script.proofs.Bridges.{call_line}
use Rattle.script.proofs.calls.read_call.Goals as goal

pub returns-in_err-later : goal.returns-in_err-later
returns-in_err-later c =
    let p = err_from_is_err_and c.from_residual.result c.from_residual.ensures.1 in
    rw (p.1, p.2) (call_line c.args.fields.now (Err c.in_err-later.field-0.0) c.in_err-later.ensures)

pub returns : goal.returns
returns c = c.call.ensures ∙ call_line c.args.fields.now (Ok c.in_ok-later.field-0) c.in_ok-later.ensures
