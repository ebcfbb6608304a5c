-- What an accepted field is, and how a written field is read.
use Rattle.std.proofs.Common.{◌≡◌, ℕ, zero, suc, ◌+◌, ◌^◌, ◌<◌, Bool, true, false, cond, eqb, ◌⊎◌, List, [], ◌∷◌, length, get_or, drop, Some, None, Ok, Err, decimal, Option, Result, sym, refl, ap, ◌∙◌, inl, inr, ⊎_elim, add-one, arith}
use Rattle.std.specs.Option.{ok_or}
use Rattle.std.specs.Str.Iter.{LacksByte}
use Rattle.std.specs.Char.{is_ascii_digit}
use Rattle.std.specs.Str.{all_ascii_digits}
use Rattle.std.proofs.lemmas.Fmt.{digits_decimal}
use Rattle.std.proofs.lemmas.List.{drop_all, drop_more}
use Rattle.std.proofs.lemmas.Bool.{and_parts, eqb-true}
use Rattle.std.proofs.lemmas.Bool.Decides.{nat_tests}
use Rattle.std.proofs.lemmas.Option.{same_Some}
use Rattle.fields.specs.Number.{number_in}
use Rattle.fields.proofs.Written.{own, numbers_are_decimals}
use Rattle.script.specs.Calls.{having}
use Rattle.script.specs.Faults.{then}
use Rattle.script.specs.Letters.{letter_in, lettered_in, one_of, value_in}
use Rattle.script.specs.declared.faults.Fault.{Fault}
use Rattle.script.specs.declared.faults.Fault.TheVariants.{Count, Form}

-- digits are no commas
digits_lack : (ds : List ℕ) → all_ascii_digits ds ≡ true → LacksByte 44 ds
digits_lack [] h k l e = absurd (omega arith)
digits_lack (d ∷ ds) h zero l e = absurd (grind (arith, nat_tests))
digits_lack (d ∷ ds) h (suc k) l e = digits_lack ds (and_parts (is_ascii_digit d) (all_ascii_digits ds) h).1 k (omega arith) e

pub decimal_lacks : (n : ℕ) → n < 10 ^ 18 → LacksByte 44 (decimal n)
decimal_lacks n h = digits_lack (decimal n) (digits_decimal own n (omega arith))

pub letter_lacks : (c : ℕ) → (c ≡ 44 → ⊥) → LacksByte 44 (c ∷ [])
letter_lacks c off zero l e = off e
letter_lacks c off (suc k) l e = absurd (omega arith)

-- a written number is read
pub read_value : (n : ℕ) → n < 10 ^ 18 → value_in (decimal n) ≡ Ok n
read_value n h = ap (λ o. ok_or o Form) (numbers_are_decimals.1 n h)

some_from_ok : {X : Type 0} (o : Option X) (x : X) → ok_or o Form ≡ Ok x → o ≡ Some x
some_from_ok None x e = absurd (grind arith)
some_from_ok (Some y) x e = cc

-- a field that is read as a number is that number written
pub value_ok : (w : List ℕ) (n : ℕ) → value_in w ≡ Ok n → (n < 10 ^ 18) × (w ≡ decimal n)
value_ok w n e = numbers_are_decimals.0 w n (some_from_ok (number_in w) n e)

-- what came through is a value of both parts
pub then_ok : {X Y : Type 0} (r : Result X Fault) (f : X → Result Y Fault) (y : Y) → then r f ≡ Ok y → (x : X) × (r ≡ Ok x) × (f x ≡ Ok y)
then_ok (Ok x) f y e = (x, refl, e)
then_ok (Err d) f y e = absurd (grind arith)

pub having_ok : {X : Type 0} (n k : ℕ) (r : Result X Fault) (x : X) → having n k r ≡ Ok x → (k ≡ n) × (r ≡ Ok x)
having_ok n k r x = by (eqb k n) refl
  where
    by : (b : Bool) → eqb k n ≡ b → cond b r (Err Count) ≡ Ok x → (k ≡ n) × (r ≡ Ok x)
    by true t e = (eqb-true k n t, e)
    by false t e = absurd (grind arith)

-- one of two ways
pub way : {X : Type 0} (c m : ℕ) (r s : Result X Fault) (x : X) → cond (eqb c m) r s ≡ Ok x → ((c ≡ m) × (r ≡ Ok x)) ⊎ (s ≡ Ok x)
way c m r s x = by (eqb c m) refl
  where
    by : (b : Bool) → eqb c m ≡ b → cond b r s ≡ Ok x → ((c ≡ m) × (r ≡ Ok x)) ⊎ (s ≡ Ok x)
    by true t e = inl (eqb-true c m t, e)
    by false t e = inr e

-- the only letter
letter_some : (w : List ℕ) (c : ℕ) → letter_in w ≡ Some c → w ≡ c ∷ []
letter_some [] c e = absurd (grind arith)
letter_some (x ∷ []) c e = let s : x ≡ c = grind arith in ap (λ y. y ∷ []) s
letter_some (x ∷ y ∷ w) c e = absurd (grind arith)

-- the fields in a row, by their numbers
abbrev pub row : List (List ℕ) → ℕ → ℕ → List (List ℕ)
row fs i zero = []
row fs i (suc n) = get_or fs i [] ∷ row fs (suc i) n

in_row : (fs : List (List ℕ)) (i n : ℕ) → length fs ≡ i + n → drop i fs ≡ row fs i n
in_row fs i zero h = drop_all i fs (omega arith)
in_row fs i (suc n) h =
    drop_more fs i [] (omega arith)
    ∙ ap (λ l. get_or fs i [] ∷ l) (ap (λ k. drop k fs) (add-one i) ∙ in_row fs (suc i) n (omega arith))

pub ok_same : {X : Type 0} (x y : X) → ◌≡◌ {A = Result X Fault} (Ok x) (Ok y) → x ≡ y
ok_same x y e = cc

-- one of two letters
one_of_some : {X : Type 0} (a b : ℕ) (x y : X) (c : ℕ) (r : X) → one_of a x b y c ≡ Some r → ((c ≡ a) × (x ≡ r)) ⊎ ((c ≡ b) × (y ≡ r))
one_of_some a b x y c r = by (eqb c a) refl
  where
    last : (t : Bool) → eqb c b ≡ t → cond t (Some y) None ≡ Some r → (c ≡ b) × (y ≡ r)
    last true t e = (eqb-true c b t, same_Some y r e)
    last false t e = absurd (grind arith)

    by : (t : Bool) → eqb c a ≡ t → cond t (Some x) (cond (eqb c b) (Some y) None) ≡ Some r → ((c ≡ a) × (x ≡ r)) ⊎ ((c ≡ b) × (y ≡ r))
    by true t e = inl (eqb-true c a t, same_Some x r e)
    by false t e = inr (last (eqb c b) refl e)

-- a field that is read as what one of two letters stands for is its letter
pub lettered_ok : {X : Type 0} (a b : ℕ) (x y : X) (letter_of : X → ℕ) → letter_of x ≡ a → letter_of y ≡ b → (w : List ℕ) (r : X) → lettered_in (one_of a x b y) w ≡ Ok r → w ≡ letter_of r ∷ []
lettered_ok a b x y letter_of is_a is_b [] r e = absurd (grind arith)
lettered_ok a b x y letter_of is_a is_b (c ∷ []) r e =
    ⊎_elim
    (λ p. ap (λ d. d ∷ []) (p.0 ∙ sym is_a ∙ ap letter_of p.1))
    (λ p. ap (λ d. d ∷ []) (p.0 ∙ sym is_b ∙ ap letter_of p.1))
    (one_of_some a b x y c r (some_from_ok (one_of a x b y c) r e))
lettered_ok a b x y letter_of is_a is_b (c ∷ d ∷ w) r e = absurd (grind arith)

-- the fields of a line by its letter and the fields after it
pub lettered : (fs : List (List ℕ)) (l m n : ℕ) → letter_in (get_or fs 0 []) ≡ Some l → l ≡ m → length fs ≡ suc n → (m ∷ []) ∷ row fs 1 n ≡ fs
lettered fs l m n is e h =
    sym (in_row fs 0 (suc n) (omega arith) ∙ ap (λ w. w ∷ row fs 1 n) (letter_some (get_or fs 0 []) l is ∙ ap (λ x. x ∷ []) e))
