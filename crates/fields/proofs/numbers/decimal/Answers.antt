use Rattle.std.proofs.Common.{◌≡◌, ◌+◌, ◌*◌, true, false, get_or, drop, Some, sym, ap, ◌∙◌, arith}
use Rattle.std.proofs.lemmas.List.{at_drop_all}
use Rattle.std.proofs.lemmas.Bool.Decides.{nat_tests}
use Rattle.fields.specs.Number.{read_on, digit}
use Rattle.fields.proofs.Digits.{bounded, short, step, stop}
use Rattle.fields.proofs.numbers.decimal.Goals as goal

pub returns-then-not-is_ascii_digit : goal.returns-then-not-is_ascii_digit
returns-then-not-is_ascii_digit c =
    let out : digit (get_or c.args.digits.now c.loop-byte.byte-index 0) ≡ false = grind (arith, nat_tests) in
    sym (stop c.loop-byte.value _ _ c.loop-byte-test.true out) ∙ c.loop-byte.invariant.1

pub overflow_mul-value : goal.overflow_mul-value
overflow_mul-value c = omega (arith, short c.loop-byte.value c.loop-byte.byte-index c.loop-byte.invariant.0 (omega arith))

pub overflow_add-value : goal.overflow_add-value
overflow_add-value c = omega (arith, short c.loop-byte.value c.loop-byte.byte-index c.loop-byte.invariant.0 (omega arith))

pub loop-byte-preserved : goal.loop-byte-preserved
loop-byte-preserved c =
    let is : digit (get_or c.args.digits.now c.loop-byte.byte-index 0) ≡ true = grind (arith, nat_tests) in (
      bounded c.loop-byte.value c.loop-byte.byte-index c.from.result c.loop-byte.invariant.0 (grind (arith, nat_tests)),
      ap (λ d. read_on (c.loop-byte.value * 10 + d) (drop (c.loop-byte.byte-index + 1) c.args.digits.now)) c.from.ensures
          ∙ sym (step c.loop-byte.value _ _ c.loop-byte-test.true is) ∙ c.loop-byte.invariant.1,
    )

pub returns : goal.returns
returns c =
    let done : read_on c.loop-byte.value (drop c.loop-byte.byte-index c.args.digits.now) ≡ Some c.loop-byte.value = at_drop_all (read_on c.loop-byte.value) c.args.digits.now c.loop-byte.byte-index (omega arith) in
    sym done ∙ c.loop-byte.invariant.1
