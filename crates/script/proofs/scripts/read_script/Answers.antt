use Rattle.std.proofs.Common.{vec_items, refl, arith, ltb-false}
use Rattle.std.proofs.lemmas.Result.{err_from_is_err_and}
use Rattle.script.proofs.Wholes.{refused, accepted}
use Rattle.script.proofs.scripts.read_script.Goals as goal

pub returns-in_err-setup : goal.returns-in_err-setup
returns-in_err-setup c =
    let p = err_from_is_err_and c.from_residual-in_err-setup.result c.from_residual-in_err-setup.ensures.1 in
    rw p.1 (rw p.2
    (refused c.args.script.now (omega arith) c.as_slice.result.now (vec_items c.in_ok-lines.lines) c.as_slice.ensures.value c.in_ok-lines.ensures
    (omega (arith, ltb-false)) c.first-item.result c.first-item.is c.as_slice-2.result.now c.as_slice-2.ensures.value
    c.in_err-setup.field-0.0 c.in_err-setup.ensures))

pub returns : goal.returns
returns c =
    accepted c.args.script.now (omega arith) c.as_slice.result.now (vec_items c.in_ok-lines.lines) c.as_slice.ensures.value c.in_ok-lines.ensures
    (omega (arith, ltb-false)) c.first-item.result c.first-item.is c.as_slice-2.result.now c.as_slice-2.ensures.value
    c.in_ok-setup.setup (vec_items c.in_ok-readings.readings) _ refl c.in_ok-setup.ensures c.in_ok-readings.ensures
