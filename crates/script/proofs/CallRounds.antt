-- Calls, from their lines and back.
use Rattle.std.proofs.Common.{◌≡◌, ℕ, suc, ◌^◌, ◌<◌, List, [], ◌∷◌, length, Some, None, Ok, decimal, Option, Result, sym, refl, ap, ◌∙◌, subst, ⊎_elim, arith}
use Rattle.std.specs.List.{join_with_byte, AllByRecursion}
use Rattle.std.specs.Str.Iter.{LacksByte}
use Rattle.fields.specs.Cut.{pieces}
use Rattle.fields.proofs.Joins.{whole, unique}
use Rattle.terms.specs.declared.calls.Call.{Call}
use Rattle.terms.specs.declared.calls.Call.TheVariants.{Begin, Lock, Image, Commit, Abort}
use Rattle.terms.specs.declared.modes.Mode.{Mode}
use Rattle.terms.specs.declared.modes.Mode.TheVariants.{Read, Write}
use Rattle.script.specs.Calls.{nth, having, begin_of, lock_of, image_of, commit_of, abort_of, call_by, call_of, call_in}
use Rattle.script.specs.Faults.{then}
use Rattle.script.specs.Laws.{ShortCall, WrittenCallsReadBack}
use Rattle.script.specs.Letters.{letter_in, mode_letter, mode_in, value_in}
use Rattle.script.specs.Writing.{mode_bytes, call_bytes}
use Rattle.script.specs.declared.faults.Fault.{Fault}
use Rattle.script.proofs.Parses.{decimal_lacks, letter_lacks, read_value, value_ok, then_ok, having_ok, way, row, lettered, ok_same, lettered_ok}

-- the fields of a call's line
abbrev parts : Call → List (List ℕ)
parts (Begin p k a) = (66 ∷ []) ∷ decimal p ∷ decimal k ∷ decimal a ∷ []
parts (Lock p o m) = (76 ∷ []) ∷ decimal p ∷ decimal o ∷ mode_bytes m ∷ []
parts (Image p o) = (73 ∷ []) ∷ decimal p ∷ decimal o ∷ []
parts (Commit p) = (67 ∷ []) ∷ decimal p ∷ []
parts (Abort p) = (65 ∷ []) ∷ decimal p ∷ []

joined : (c : Call) → join_with_byte 44 (parts c) ≡ call_bytes c
joined (Begin p k a) = refl
joined (Lock p o m) = refl
joined (Image p o) = refl
joined (Commit p) = refl
joined (Abort p) = refl

mode_lacks : (m : Mode) → LacksByte 44 (mode_bytes m)
mode_lacks Read = letter_lacks 82 (λ e. absurd (omega arith))
mode_lacks Write = letter_lacks 87 (λ e. absurd (omega arith))

lacks : (c : Call) → ShortCall (10 ^ 18) c → AllByRecursion (LacksByte 44) (parts c)
lacks (Begin p k a) (hp, hk, ha) = (letter_lacks 66 (λ e. absurd (omega arith)), (decimal_lacks p hp, (decimal_lacks k hk, (decimal_lacks a ha, tt))))
lacks (Lock p o m) (hp, ho) = (letter_lacks 76 (λ e. absurd (omega arith)), (decimal_lacks p hp, (decimal_lacks o ho, (mode_lacks m, tt))))
lacks (Image p o) (hp, ho) = (letter_lacks 73 (λ e. absurd (omega arith)), (decimal_lacks p hp, (decimal_lacks o ho, tt)))
lacks (Commit p) hp = (letter_lacks 67 (λ e. absurd (omega arith)), (decimal_lacks p hp, tt))
lacks (Abort p) hp = (letter_lacks 65 (λ e. absurd (omega arith)), (decimal_lacks p hp, tt))

some : (c : Call) → 0 < length (parts c)
some (Begin p k a) = omega arith
some (Lock p o m) = omega arith
some (Image p o) = omega arith
some (Commit p) = omega arith
some (Abort p) = omega arith

read_mode : (m : Mode) → mode_in (mode_bytes m) ≡ Ok m
read_mode Read = refl
read_mode Write = refl

read_parts : (c : Call) → ShortCall (10 ^ 18) c → call_of (parts c) ≡ Ok c
read_parts (Begin p k a) (hp, hk, ha) = λ i. then (read_value p hp i) (λ place. then (read_value k hk i) (λ kind. then (read_value a ha i) (λ argument. Ok (Begin place kind argument))))
read_parts (Lock p o m) (hp, ho) = λ i. then (read_value p hp i) (λ place. then (read_value o ho i) (λ object. then (read_mode m i) (λ mode. Ok (Lock place object mode))))
read_parts (Image p o) (hp, ho) = λ i. then (read_value p hp i) (λ place. then (read_value o ho i) (λ object. Ok (Image place object)))
read_parts (Commit p) hp = λ i. then (read_value p hp i) (λ place. Ok (Commit place))
read_parts (Abort p) hp = λ i. then (read_value p hp i) (λ place. Ok (Abort place))

back : (c : Call) → ShortCall (10 ^ 18) c → call_in (call_bytes c) ≡ Ok c
back c h = ap (λ l. call_of (pieces 44 l)) (sym (joined c)) ∙ ap call_of (unique 44 (parts c) (some c) (lacks c h)) ∙ read_parts c h

-- fs is how c is written
abbrev Is : List (List ℕ) → Call → Type 0
Is fs c = ShortCall (10 ^ 18) c × (fs ≡ parts c)

mode_ok : (w : List ℕ) (m : Mode) → mode_in w ≡ Ok m → w ≡ mode_bytes m
mode_ok = lettered_ok 82 87 Read Write mode_letter refl refl

module _ (c : Call) where
  begin_ok : (p k a : List ℕ) → begin_of p k a ≡ Ok c → Is ((66 ∷ []) ∷ p ∷ k ∷ a ∷ []) c
  begin_ok p k a e =
      let x = then_ok (value_in p) (λ place. then (value_in k) (λ kind. then (value_in a) (λ argument. Ok (Begin place kind argument)))) c e in
      let y = then_ok (value_in k) (λ kind. then (value_in a) (λ argument. Ok (Begin x.0 kind argument))) c x.2 in
      let z = then_ok (value_in a) (λ argument. Ok (Begin x.0 y.0 argument)) c y.2 in
      let u = value_ok p x.0 x.1 in
      let v = value_ok k y.0 y.1 in
      let w = value_ok a z.0 z.1 in
      subst (Is ((66 ∷ []) ∷ p ∷ k ∷ a ∷ [])) (ok_same (Begin x.0 y.0 z.0) c z.2)
      ((u.0, v.0, w.0), λ i. (66 ∷ []) ∷ u.1 i ∷ v.1 i ∷ w.1 i ∷ [])

  lock_ok : (p o m : List ℕ) → lock_of p o m ≡ Ok c → Is ((76 ∷ []) ∷ p ∷ o ∷ m ∷ []) c
  lock_ok p o m e =
      let x = then_ok (value_in p) (λ place. then (value_in o) (λ object. then (mode_in m) (λ mode. Ok (Lock place object mode)))) c e in
      let y = then_ok (value_in o) (λ object. then (mode_in m) (λ mode. Ok (Lock x.0 object mode))) c x.2 in
      let z = then_ok (mode_in m) (λ mode. Ok (Lock x.0 y.0 mode)) c y.2 in
      let u = value_ok p x.0 x.1 in
      let v = value_ok o y.0 y.1 in
      let w = mode_ok m z.0 z.1 in
      subst (Is ((76 ∷ []) ∷ p ∷ o ∷ m ∷ [])) (ok_same (Lock x.0 y.0 z.0) c z.2)
      ((u.0, v.0), λ i. (76 ∷ []) ∷ u.1 i ∷ v.1 i ∷ w i ∷ [])

  image_ok : (p o : List ℕ) → image_of p o ≡ Ok c → Is ((73 ∷ []) ∷ p ∷ o ∷ []) c
  image_ok p o e =
      let x = then_ok (value_in p) (λ place. then (value_in o) (λ object. Ok (Image place object))) c e in
      let y = then_ok (value_in o) (λ object. Ok (Image x.0 object)) c x.2 in
      let u = value_ok p x.0 x.1 in
      let v = value_ok o y.0 y.1 in
      subst (Is ((73 ∷ []) ∷ p ∷ o ∷ [])) (ok_same (Image x.0 y.0) c y.2) ((u.0, v.0), λ i. (73 ∷ []) ∷ u.1 i ∷ v.1 i ∷ [])

  commit_ok : (p : List ℕ) → commit_of p ≡ Ok c → Is ((67 ∷ []) ∷ p ∷ []) c
  commit_ok p e =
      let x = then_ok (value_in p) (λ place. Ok (Commit place)) c e in
      let u = value_ok p x.0 x.1 in
      subst (Is ((67 ∷ []) ∷ p ∷ [])) (ok_same (Commit x.0) c x.2) (u.0, λ i. (67 ∷ []) ∷ u.1 i ∷ [])

  abort_ok : (p : List ℕ) → abort_of p ≡ Ok c → Is ((65 ∷ []) ∷ p ∷ []) c
  abort_ok p e =
      let x = then_ok (value_in p) (λ place. Ok (Abort place)) c e in
      let u = value_ok p x.0 x.1 in
      subst (Is ((65 ∷ []) ∷ p ∷ [])) (ok_same (Abort x.0) c x.2) (u.0, λ i. (65 ∷ []) ∷ u.1 i ∷ [])

  -- the fields of an accepted line
  module _ (fs : List (List ℕ)) where
    by : (o : Option ℕ) → letter_in (nth fs 0) ≡ o → call_by o (length fs) (nth fs) ≡ Ok c → Is fs c
    by None is e = absurd (grind arith)
    by (Some l) is e = ways e
      where
        -- as many fields as the letter wants
        as_letter : (m k : ℕ) (r : Result Call Fault) → (r ≡ Ok c → Is ((m ∷ []) ∷ row fs 1 k) c) → (l ≡ m) × (having (suc k) (length fs) r ≡ Ok c) → Is fs c
        as_letter m k r ok (same, h) =
            let t = having_ok (suc k) (length fs) r c h in
            subst (λ gs. Is gs c) (lettered fs l m k is same t.0) (ok t.1)

        ways : call_by (Some l) (length fs) (nth fs) ≡ Ok c → Is fs c
        ways e =
            ⊎_elim (as_letter 66 3 _ (begin_ok (nth fs 1) (nth fs 2) (nth fs 3)))
            (λ e. ⊎_elim (as_letter 76 3 _ (lock_ok (nth fs 1) (nth fs 2) (nth fs 3)))
            (λ e. ⊎_elim (as_letter 73 2 _ (image_ok (nth fs 1) (nth fs 2)))
            (λ e. ⊎_elim (as_letter 67 1 _ (commit_ok (nth fs 1)))
            (λ e. ⊎_elim (as_letter 65 1 _ (abort_ok (nth fs 1)))
            (λ e. absurd (grind arith))
            (way l 65 _ _ c e)) (way l 67 _ _ c e)) (way l 73 _ _ c e)) (way l 76 _ _ c e)) (way l 66 _ _ c e)

    call_ok : call_of fs ≡ Ok c → Is fs c
    call_ok = by (letter_in (nth fs 0)) refl

  forth : (line : List ℕ) → call_in line ≡ Ok c → ShortCall (10 ^ 18) c × (line ≡ call_bytes c)
  forth line e =
      let r = call_ok (pieces 44 line) e in
      (r.0, sym (whole 44 line) ∙ ap (join_with_byte 44) r.1 ∙ joined c)

pub calls_read_back : WrittenCallsReadBack (10 ^ 18)
calls_read_back = (back, λ line c. forth c line)
