-- The elements of a list that pass a test, from the i-th on.
use Rattle.std.proofs.Common.{◌≡◌, ℕ, ◌+◌, ◌<◌, ◌≤◌, Bool, true, false, cond, List, [], ◌∷◌, length, get_or, drop, sym, ap, ◌∙◌}
use Rattle.std.specs.Prelude.{filter}
use Rattle.std.proofs.lemmas.List.{at_drop_more, at_drop_all}

module _ {A : Type 0} (t : A → Bool) (xs : List A) (i : ℕ) where
  -- the i-th passes
  pub passes_here : (x : A) → i < length xs → x ≡ get_or xs i x → t x ≡ true → filter t (drop i xs) ≡ x ∷ filter t (drop (i + 1) xs)
  passes_here x l is e =
      at_drop_more (filter t) xs i x l ∙ ap (λ y. filter t (y ∷ drop (i + 1) xs)) (sym is)
      ∙ ap (λ b. cond b (x ∷ filter t (drop (i + 1) xs)) (filter t (drop (i + 1) xs))) e

  -- the i-th does not
  pub passes_later : (x : A) → i < length xs → x ≡ get_or xs i x → t x ≡ false → filter t (drop i xs) ≡ filter t (drop (i + 1) xs)
  passes_later x l is e =
      at_drop_more (filter t) xs i x l ∙ ap (λ y. filter t (y ∷ drop (i + 1) xs)) (sym is)
      ∙ ap (λ b. cond b (x ∷ filter t (drop (i + 1) xs)) (filter t (drop (i + 1) xs))) e

  -- there is no i-th
  pub at_end : length xs ≤ i → filter t (drop i xs) ≡ []
  at_end l = at_drop_all (filter t) xs i l
