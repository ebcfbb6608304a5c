-- Setups, from their lines and back.
use Rattle.std.proofs.Common.{◌≡◌, ℕ, ◌^◌, ◌≤◌, Bool, true, false, cond, leb, List, [], ◌∷◌, length, Some, None, Ok, Err, decimal, Option, sym, refl, ap, ◌∙◌, subst, ⊎_elim, arith}
use Rattle.std.specs.List.{join_with_byte, AllByRecursion}
use Rattle.std.specs.Str.Iter.{LacksByte}
use Rattle.std.proofs.lemmas.Bool.{leb-true, le-leb}
use Rattle.fields.specs.Cut.{pieces}
use Rattle.fields.proofs.Joins.{whole, unique}
use Rattle.script.specs.Calls.{nth}
use Rattle.script.specs.Faults.{then}
use Rattle.script.specs.Laws.{ShortSetup, WrittenSetupsReadBack}
use Rattle.script.specs.Letters.{letter_in, rule_letter, rule_in, store_letter, store_in, value_in, objects_in}
use Rattle.script.specs.Setups.{setup_with, setup_by, setup_of, setup_in}
use Rattle.script.specs.Writing.{rule_bytes, store_bytes, setup_bytes}
use Rattle.script.specs.declared.faults.Fault.TheVariants.{Form}
use Rattle.script.specs.declared.setups.RuleName.{RuleName}
use Rattle.script.specs.declared.setups.RuleName.TheVariants.{Charge, Loan}
use Rattle.script.specs.declared.setups.Setup.{Setup}
use Rattle.script.specs.declared.setups.StoreName.{StoreName}
use Rattle.script.specs.declared.setups.StoreName.TheVariants.{Table, Image}
use Rattle.script.proofs.Parses.{decimal_lacks, letter_lacks, read_value, value_ok, then_ok, having_ok, way, lettered, ok_same, lettered_ok}

-- the fields of a setup's line
abbrev parts : Setup → List (List ℕ)
parts s = (83 ∷ []) ∷ rule_bytes s.rule ∷ store_bytes s.store ∷ decimal s.robustness ∷ decimal s.limit ∷ decimal s.objects ∷ []

rule_lacks : (n : RuleName) → LacksByte 44 (rule_bytes n)
rule_lacks Charge = letter_lacks 67 (λ e. absurd (omega arith))
rule_lacks Loan = letter_lacks 76 (λ e. absurd (omega arith))

store_lacks : (n : StoreName) → LacksByte 44 (store_bytes n)
store_lacks Table = letter_lacks 84 (λ e. absurd (omega arith))
store_lacks Image = letter_lacks 77 (λ e. absurd (omega arith))

lacks : (s : Setup) → ShortSetup (10 ^ 18) 64 s → AllByRecursion (LacksByte 44) (parts s)
lacks s (hr, hl, ho) =
    (letter_lacks 83 (λ e. absurd (omega arith)), (rule_lacks s.rule, (store_lacks s.store, (decimal_lacks s.robustness hr, (decimal_lacks s.limit hl, (decimal_lacks s.objects (omega arith), tt))))))

read_rule : (n : RuleName) → rule_in (rule_bytes n) ≡ Ok n
read_rule Charge = refl
read_rule Loan = refl

read_store : (n : StoreName) → store_in (store_bytes n) ≡ Ok n
read_store Table = refl
read_store Image = refl

read_objects : (n : ℕ) → n ≤ 64 → objects_in (decimal n) ≡ Ok n
read_objects n h =
    ap (λ r. then r (λ n. cond (leb n 64) (Ok n) (Err Form))) (read_value n (omega arith)) ∙ ap (λ b. cond b (Ok n) (Err Form)) (le-leb n 64 h)

read_parts : (s : Setup) → ShortSetup (10 ^ 18) 64 s → setup_of (parts s) ≡ Ok s
read_parts s (hr, hl, ho) =
    λ i. then (read_rule s.rule i) (λ rule. then (read_store s.store i) (λ store. then (read_value s.robustness hr i) (λ robustness. then (read_value s.limit hl i) (λ limit. then (read_objects s.objects ho i) (λ objects.
    Ok (record { rule = rule; store = store; robustness = robustness; limit = limit; objects = objects }))))))

joined : (s : Setup) → join_with_byte 44 (parts s) ≡ setup_bytes s
joined s = refl

back : (s : Setup) → ShortSetup (10 ^ 18) 64 s → setup_in (setup_bytes s) ≡ Ok s
back s h = ap (λ l. setup_of (pieces 44 l)) (sym (joined s)) ∙ ap setup_of (unique 44 (parts s) (omega arith) (lacks s h)) ∙ read_parts s h

-- fs is how s is written
abbrev Is : List (List ℕ) → Setup → Type 0
Is fs s = ShortSetup (10 ^ 18) 64 s × (fs ≡ parts s)

rule_ok : (w : List ℕ) (n : RuleName) → rule_in w ≡ Ok n → w ≡ rule_bytes n
rule_ok = lettered_ok 67 76 Charge Loan rule_letter refl refl

store_ok : (w : List ℕ) (n : StoreName) → store_in w ≡ Ok n → w ≡ store_bytes n
store_ok = lettered_ok 84 77 Table Image store_letter refl refl

few : (x n : ℕ) (b : Bool) → leb x 64 ≡ b → cond b (Ok x) (Err Form) ≡ Ok n → (x ≤ 64) × (x ≡ n)
few x n true t e = (leb-true x 64 t, ok_same x n e)
few x n false t e = absurd (grind arith)

objects_ok : (w : List ℕ) (n : ℕ) → objects_in w ≡ Ok n → (n ≤ 64) × (w ≡ decimal n)
objects_ok w n e =
    let x = then_ok (value_in w) (λ n. cond (leb n 64) (Ok n) (Err Form)) n e in
    let v = value_ok w x.0 x.1 in
    let f = few x.0 n (leb x.0 64) refl x.2 in
    subst (λ m. (m ≤ 64) × (w ≡ decimal m)) f.1 (f.0, v.1)

module _ (setup : Setup) where
  with_ok : (u s r l o : List ℕ) → setup_with u s r l o ≡ Ok setup → Is ((83 ∷ []) ∷ u ∷ s ∷ r ∷ l ∷ o ∷ []) setup
  with_ok u s r l o e =
      let a = then_ok (rule_in u) _ setup e in
      let b = then_ok (store_in s) _ setup a.2 in
      let c = then_ok (value_in r) _ setup b.2 in
      let d = then_ok (value_in l) _ setup c.2 in
      let f = then_ok (objects_in o) _ setup d.2 in
      let v = value_ok r c.0 c.1 in
      let w = value_ok l d.0 d.1 in
      let x = objects_ok o f.0 f.1 in
      let whole_setup : Setup = record { rule = a.0; store = b.0; robustness = c.0; limit = d.0; objects = f.0 } in
      subst (Is ((83 ∷ []) ∷ u ∷ s ∷ r ∷ l ∷ o ∷ [])) (ok_same whole_setup setup f.2)
      ((v.0, w.0, x.0), λ i. (83 ∷ []) ∷ rule_ok u a.0 a.1 i ∷ store_ok s b.0 b.1 i ∷ v.1 i ∷ w.1 i ∷ x.1 i ∷ [])

  by : (fs : List (List ℕ)) (o : Option ℕ) → letter_in (nth fs 0) ≡ o → setup_by o (length fs) (nth fs) ≡ Ok setup → Is fs setup
  by fs None is e = absurd (grind arith)
  by fs (Some l) is e =
      ⊎_elim
      (λ p. let t = having_ok 6 (length fs) (setup_with (nth fs 1) (nth fs 2) (nth fs 3) (nth fs 4) (nth fs 5)) setup p.1 in subst (λ gs. Is gs setup) (lettered fs l 83 5 is p.0 t.0) (with_ok (nth fs 1) (nth fs 2) (nth fs 3) (nth fs 4) (nth fs 5) t.1))
      (λ f. absurd (grind arith))
      (way l 83 _ _ setup e)

  forth : (line : List ℕ) → setup_in line ≡ Ok setup → ShortSetup (10 ^ 18) 64 setup × (line ≡ setup_bytes setup)
  forth line e =
      let r = by (pieces 44 line) (letter_in (nth (pieces 44 line) 0)) refl e in
      (r.0, sym (whole 44 line) ∙ ap (join_with_byte 44) r.1 ∙ joined setup)

pub setups_read_back : WrittenSetupsReadBack (10 ^ 18) 64
setups_read_back = (back, λ line s. forth s line)
