use Rattle.std.proofs.Common.{◌≡◌, ℕ, ◌+◌, ◌<◌, false, eqb, List, [], ◌∷◌, ◌++◌, length, Some, None, Option, Result, Ok, Err, ok_or, sym, refl, ap, ◌∙◌, arith}
use Rattle.planner.specs.declared.faults.Fault.{Fault}
use Rattle.planner.specs.declared.faults.Fault.TheVariants.{NoNumber, TooMany}
use Rattle.std.proofs.lemmas.Bool.{eqb-false, eqb-true}
use Rattle.planner.specs.Numbers.{number_of}
use Rattle.planner.specs.Packs.{lines_of, packs_after, packs_of}
use Rattle.planner.proofs.Cuts.{after_shorter}
use Rattle.planner.proofs.Turns.{pack_read, no_pack, one_too_many, text_ends}
use Rattle.planner.proofs.packs.read_packs.Goals as goal

-- a text that is not empty
some : (text : List ℕ) → false ≡ eqb (length text) 0 → 0 < length text
some text e = let no = eqb-false (length text) 0 (sym e) in omega arith

pub returns-then-line-gt-MOST_OBJECTS : goal.returns-then-line-gt-MOST_OBJECTS
returns-then-line-gt-MOST_OBJECTS c =
    let read = c.loop-rest.packs.items in
    let line : length read + 1 ≡ c.len-line.result + 1 = omega (arith, c.loop-rest.packs.ok.0) in
    sym c.loop-rest.invariant ∙ one_too_many read c.loop-rest.rest.now (some c.loop-rest.rest.now c.loop-rest-test.ensures) (omega arith) ∙ ap (λ n. Err (TooMany n)) line

taken : (o : Option ℕ) (fault : Fault) (r : Result ℕ Fault) (pack : ℕ) → r ≡ ok_or o fault → r ≡ Ok pack → Some pack ≡ o
taken None fault r pack e is = absurd (cc)
taken (Some other) fault r pack e is = cc

refused : (o : Option ℕ) (fault met : Fault) (r : Result ℕ Fault) → r ≡ ok_or o fault → r ≡ Err met → (None ≡ o) × (met ≡ fault)
refused None fault met r e is = (refl, cc)
refused (Some pack) fault met r e is = absurd (cc)

pub returns-in_err-pack : goal.returns-in_err-pack
returns-in_err-pack c =
    let read = c.loop-rest.packs.items in
    let line : length read + 1 ≡ c.len-line.result + 1 = omega (arith, c.loop-rest.packs.ok.0) in
    let none = refused c.number.result (NoNumber (c.len-line.result + 1)) c.in_err-pack.field-0.0 c.ok_or.result c.ok_or.ensures.value c.in_err-pack.was in
    let said : packs_of c.args.text.now ≡ Err (NoNumber (c.len-line.result + 1)) =
    sym c.loop-rest.invariant ∙ no_pack read c.loop-rest.rest.now (some c.loop-rest.rest.now c.loop-rest-test.ensures) (omega arith) (none.0 ∙ c.number.ensures ∙ ap number_of c.cut_line.ensures.line) ∙ ap (λ n. Err (NoNumber n)) line in
    let same = none.1 in
    grind arith

pub loop-rest-smaller : goal.loop-rest-smaller
loop-rest-smaller c =
    let shorter = after_shorter c.loop-rest.rest.now (some c.loop-rest.rest.now c.loop-rest-test.ensures) in
    omega (arith, ap length c.cut_line.ensures.rest)

pub loop-rest-preserved : goal.loop-rest-preserved
loop-rest-preserved c =
    let read = c.loop-rest.packs.items in
    let rest = c.loop-rest.rest.now in
    let pack = c.in_ok-pack.pack in
    let one : Some pack ≡ c.number.result = taken c.number.result _ c.ok_or.result pack c.ok_or.ensures.value c.in_ok-pack.was in
    ap (λ l. packs_after l (lines_of c.cut_line.result.1.now)) c.in_ok-push.ensures.items
    ∙ ap (λ l. packs_after (read ++ pack ∷ []) (lines_of l)) c.cut_line.ensures.rest
    ∙ sym (pack_read read rest (some c.loop-rest.rest.now c.loop-rest-test.ensures) pack (omega (arith, c.loop-rest.packs.ok.0)) (one ∙ c.number.ensures ∙ ap number_of c.cut_line.ensures.line))
    ∙ c.loop-rest.invariant

pub returns : goal.returns
returns c = sym c.loop-rest.invariant ∙ text_ends c.loop-rest.packs.items c.loop-rest.rest.now (eqb-true (length c.loop-rest.rest.now) 0 (sym c.loop-rest-test.ensures))
