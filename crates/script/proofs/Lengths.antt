-- No line of the output has more than 32 bytes.
use Rattle.std.proofs.Common.{◌≤◌, length, arith, length-append}
use Rattle.std.proofs.lemmas.Fmt.{length-decimal-le}
use Rattle.script.specs.Outputs.{line_bytes, FitsTypes}
use Rattle.script.specs.declared.outputs.OutputLine.{OutputLine}
use Rattle.script.specs.declared.outputs.OutputLine.TheVariants.{Answer, Object, Job}

pub short_line : (line : OutputLine) → FitsTypes line → length (line_bytes line) ≤ 32
short_line (Answer n a) (h, k) =
    let p = length-decimal-le 10 n (omega arith) (omega arith) (omega arith) in
    let q = length-decimal-le 3 a (omega arith) (omega arith) (omega arith) in
    simp length-append (omega arith)
short_line (Object o v) (h, k) =
    let p = length-decimal-le 5 o (omega arith) (omega arith) (omega arith) in
    let q = length-decimal-le 20 v (omega arith) (omega arith) (omega arith) in
    simp length-append (omega arith)
short_line (Job p e) (h, k) =
    let q = length-decimal-le 3 p (omega arith) (omega arith) (omega arith) in
    let r = length-decimal-le 3 e (omega arith) (omega arith) (omega arith) in
    simp length-append (omega arith)
