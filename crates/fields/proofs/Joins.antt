-- The pieces of a text are what stands between its marks.
use Rattle.std.proofs.Common.{◌≡◌, ℕ, zero, suc, ◌<◌, Bool, true, false, cond, eqb, List, [], ◌∷◌, length, refl, ap, arith}
use Rattle.std.specs.List.{join_with_byte, AllByRecursion, onto_first}
use Rattle.std.proofs.lemmas.List.Splits.{join_with_byte-slice_split}
use Rattle.std.specs.Str.Iter.{LacksByte}
use Rattle.std.proofs.lemmas.Bool.{eqb-false, ne_eqb}
use Rattle.std.proofs.lemmas.Bool.Decides.{nat_tests}
use Rattle.fields.specs.Cut.{pieces}

lacks_none : (m : ℕ) → LacksByte m []
lacks_none m k h e = absurd (omega arith)

lacks_more : (m x : ℕ) (w : List ℕ) → (x ≡ m → ⊥) → LacksByte m w → LacksByte m (x ∷ w)
lacks_more m x w off l zero h e = off e
lacks_more m x w off l (suc k) h e = l k (omega arith) e

lacks_onto : (m x : ℕ) (ws : List (List ℕ)) → (x ≡ m → ⊥) → AllByRecursion (LacksByte m) ws → AllByRecursion (LacksByte m) (onto_first x ws)
lacks_onto m x [] off l = (lacks_more m x [] off (lacks_none m), tt)
lacks_onto m x (w ∷ ws) off (l, ls) = (lacks_more m x w off l, ls)

-- what a text lacks, its pieces lack
pub lacks_pieces : (c m : ℕ) (xs : List ℕ) → LacksByte c xs → AllByRecursion (LacksByte c) (pieces m xs)
lacks_pieces c m [] l = (l, tt)
lacks_pieces c m (x ∷ xs) l =
    let ih = lacks_pieces c m xs (λ k h e. l (suc k) (omega arith) e) in
    let P : Bool → Type 0 = λ b. AllByRecursion (LacksByte c) (cond b ([] ∷ pieces m xs) (onto_first x (pieces m xs))) in
    elim (eqb x m) as P [ true ↦ (lacks_none c, ih) | false ↦ lacks_onto c x (pieces m xs) (λ e. l 0 (omega arith) e) ih ]

module _ (m : ℕ) where
  pub whole : (xs : List ℕ) → join_with_byte m (pieces m xs) ≡ xs
  whole = join_with_byte-slice_split m

  pub lacks : (xs : List ℕ) → AllByRecursion (LacksByte m) (pieces m xs)
  lacks [] = (lacks_none m, tt)
  lacks (x ∷ xs) =
      let ih = lacks xs in
      let P : Bool → Type 0 = λ b. eqb x m ≡ b → AllByRecursion (LacksByte m) (cond b ([] ∷ pieces m xs) (onto_first x (pieces m xs))) in
      (elim (eqb x m) as P [ true ↦ λ e. (lacks_none m, ih) | false ↦ λ e. lacks_onto m x (pieces m xs) (eqb-false x m e) ih ]) refl

  only : (w : List ℕ) (ws : List (List ℕ)) → LacksByte m w → AllByRecursion (LacksByte m) ws → pieces m (join_with_byte m (w ∷ ws)) ≡ w ∷ ws
  only [] [] l ls = refl
  only [] (v ∷ ws) l (n, ls) = let same : eqb m m ≡ true = search (arith, nat_tests) in rw same (ap (λ r. [] ∷ r) (only v ws n ls))
  only (x ∷ w) [] l ls =
      let ih = only w [] (λ k h e. l (suc k) (omega arith) e) ls in
      rw (ne_eqb x m (λ e. l 0 (omega arith) e)) (ap (onto_first x) ih)
  only (x ∷ w) (v ∷ ws) l (n, ls) =
      let ih = only w (v ∷ ws) (λ k h e. l (suc k) (omega arith) e) (n, ls) in
      rw (ne_eqb x m (λ e. l 0 (omega arith) e)) (ap (onto_first x) ih)

  pub unique : (ws : List (List ℕ)) → 0 < length ws → AllByRecursion (LacksByte m) ws → pieces m (join_with_byte m ws) ≡ ws
  unique [] h = absurd (omega arith)
  unique (w ∷ ws) h = λ l. only w ws l.0 l.1
