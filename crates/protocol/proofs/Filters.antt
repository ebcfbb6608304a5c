-- Filters of a list: by one more at its end, by a test that all or none pass, by two tests, of a list of lists.
use Rattle.std.proofs.Common.{◌≡◌, ◌≤◌, Bool, true, false, List, [], ◌∷◌, ◌++◌, length, refl, append-nil, inl, inr, arith}
use Rattle.std.specs.Prelude.{flat_map, filter}
use Rattle.std.proofs.lemmas.List.Elements.{filter-append}
use Rattle.protocol.specs.Lists.{In}

module _ {A : Type 0} (t : A → Bool) where
  pub filter_push_yes : (xs : List A) (x : A) → t x ≡ true → filter t (xs ++ x ∷ []) ≡ filter t xs ++ x ∷ []
  filter_push_yes xs x e = grind (arith, e, filter-append t xs (x ∷ []))

  pub filter_push_no : (xs : List A) (x : A) → t x ≡ false → filter t (xs ++ x ∷ []) ≡ filter t xs
  filter_push_no xs x e = grind (arith, append-nil, e, filter-append t xs (x ∷ []))

  pub filter_all : (xs : List A) → ((x : A) → In x xs → t x ≡ true) → filter t xs ≡ xs
  filter_all [] f = refl
  filter_all (x ∷ xs) f = grind (arith, f x (inl refl), filter_all xs (λ y i. f y (inr i)))

  pub filter_none : (xs : List A) → ((x : A) → In x xs → t x ≡ true → ⊥) → filter t xs ≡ []
  filter_none [] f = refl
  filter_none (x ∷ xs) f = grind (arith, f x (inl refl), filter_none xs (λ y i. f y (inr i)))

  -- what passes t passes u, so a filter by u before one by t does nothing
  pub filter_twice : (u : A → Bool) (xs : List A) → ((x : A) → t x ≡ true → u x ≡ true) → filter t (filter u xs) ≡ filter t xs
  filter_twice u [] f = refl
  filter_twice u (x ∷ xs) f = grind (arith, f x, filter_twice u xs f)

  -- a wider test keeps at least as many
  pub filter_more : (u : A → Bool) (xs : List A) → ((x : A) → t x ≡ true → u x ≡ true) → length (filter t xs) ≤ length (filter u xs)
  filter_more u [] f = omega arith
  filter_more u (x ∷ xs) f = grind (arith, f x, filter_more u xs f)

  -- a test of each list may come last
  pub filter_flat_map : {B : Type 0} (f : B → List A) (xs : List B) → flat_map (λ x. filter t (f x)) xs ≡ filter t (flat_map f xs)
  filter_flat_map f [] = refl
  filter_flat_map f (x ∷ xs) = grind (arith, filter_flat_map f xs, filter-append t (f x) (flat_map f xs))
