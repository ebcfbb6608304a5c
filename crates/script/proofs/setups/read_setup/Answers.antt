use Rattle.std.proofs.Common.{Ok, Err, ◌∙◌}
use Rattle.std.proofs.lemmas.Result.{err_from_is_err_and}
use Rattle.script.proofs.Bridges.{setup_line}
use Rattle.script.proofs.setups.read_setup.Goals as goal

pub returns-in_err-first : goal.returns-in_err-first
returns-in_err-first c =
    let p = err_from_is_err_and c.from_residual.result c.from_residual.ensures.1 in
    rw (p.1, p.2) (setup_line c.args.fields.now (Err c.in_err-first.field-0.0) c.in_err-first.ensures)

pub returns : goal.returns
returns c = c.setup.ensures ∙ setup_line c.args.fields.now (Ok c.in_ok-first.field-0) c.in_ok-first.ensures
