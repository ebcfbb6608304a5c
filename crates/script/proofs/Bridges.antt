-- From fields to the bytes that they hold, and from lines to what they ask for.
use Rattle.std.proofs.Common.{◌≡◌, ℕ, zero, suc, Bool, true, false, cond, List, [], ◌∷◌, length, Some, None, Option, Result, sym, refl, ap, ◌∙◌}
use lib.ListN.{length-map}
use Rattle.fields.specs.declared.parts.Field.{Field}
use Rattle.script.specs.Calls.{nth, call_by, call_of}
use Rattle.script.specs.Faults.{then}
use Rattle.script.specs.Letters.{letter_in}
use Rattle.script.specs.Lines.{text_of, texts, field, first_by, first_line, later_by, later_line, call_asked, setup_asked}
use Rattle.script.specs.Setups.{setup_by, setup_of}
use Rattle.script.specs.declared.faults.Fault.{Fault}
use Rattle.script.specs.declared.lines.Line.{Line}

-- the bytes of the field of number i
text_at : (fs : List Field) (i : ℕ) → text_of (field fs i) ≡ nth (texts fs) i
text_at [] i = refl
text_at (f ∷ fs) zero = refl
text_at (f ∷ fs) (suc i) = text_at fs i

through : {X Y : Type 0} (b : Bool) (x y : Result X Fault) (f : X → Result Y Fault) → then (cond b x y) f ≡ cond b (then x f) (then y f)
through true x y f = refl
through false x y f = refl

module _ (fs : List Field) where
  later_asks : (o : Option ℕ) → then (later_by o fs) call_asked ≡ call_by o (length fs) (λ i. text_of (field fs i))
  later_asks None = refl
  later_asks (Some c) = simp through

  pub call_line : (r : Result Line Fault) → r ≡ later_line fs → then r call_asked ≡ call_of (texts fs)
  call_line r e =
      ap (λ l. then l call_asked) e ∙ later_asks (letter_in (text_of (field fs 0)))
      ∙ (λ j. call_by (letter_in (text_at fs 0 j)) (sym (length-map fs text_of) j) (λ i. text_at fs i j))

  first_asks : (o : Option ℕ) → then (first_by o fs) setup_asked ≡ setup_by o (length fs) (λ i. text_of (field fs i))
  first_asks None = refl
  first_asks (Some c) = simp through

  pub setup_line : (r : Result Line Fault) → r ≡ first_line fs → then r setup_asked ≡ setup_of (texts fs)
  setup_line r e =
      ap (λ l. then l setup_asked) e ∙ first_asks (letter_in (text_of (field fs 0)))
      ∙ (λ j. setup_by (letter_in (text_at fs 0 j)) (sym (length-map fs text_of) j) (λ i. text_at fs i j))
