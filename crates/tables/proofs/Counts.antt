-- How many records name a place, and how many there are where each place has few.
use Rattle.std.proofs.Common.{◌≡◌, ℕ, zero, suc, ◌+◌, ◌*◌, ◌<◌, ◌≤◌, Bool, true, cond, not, eqb, List, [], ◌∷◌, ◌++◌, map, length, get_or, sym, refl, ap, inl, inr, suc-mul, arith}
use Rattle.std.specs.Prelude.{filter}
use Rattle.std.specs.List.{All, sum_by}
use Rattle.std.proofs.lemmas.List.Elements.{All-weaker, filter_passes}
use Rattle.std.proofs.lemmas.List.Filters.{length-filter_both, sum_by-filter_both}
use Rattle.std.proofs.lemmas.List.Sums.{length-filter, sum_by-cons, sum_by-append, sum_by-le, get_or-le-sum_by}
use Rattle.std.proofs.lemmas.Bool.{eq-eqb, ne_eqb, cases_eq, both_ways, not-true}
use Rattle.tables.specs.Ended.{others}
use Rattle.tables.specs.Within.{count}

module _ {A : Type 0} (job : A → ℕ) where
  -- a count is a sum of ones
  abbrev one : ℕ → A → ℕ
  one p x = cond (eqb (job x) p) 1 0

  summed : (p : ℕ) (xs : List A) → count job p xs ≡ sum_by (one p) xs
  summed p xs = length-filter (λ x. eqb (job x) p) xs

  -- one record more
  pub count_cons : (p : ℕ) (x : A) (xs : List A) → count job p (x ∷ xs) ≡ cond (eqb (job x) p) 1 0 + count job p xs
  count_cons p x xs = omega (arith, summed p (x ∷ xs), summed p xs, sum_by-cons (one p) x xs)

  one_named : (x : A) → one (job x) x ≡ 1
  one_named x = ap (λ b. cond b 1 0) (eq-eqb (job x) (job x) refl)

  -- a record of the place
  pub count_named : (x : A) (xs : List A) → count job (job x) (x ∷ xs) ≡ 1 + count job (job x) xs
  count_named x xs = omega (arith, count_cons (job x) x xs, one_named x)

  -- a record of another place
  pub count_other : (p : ℕ) (x : A) (xs : List A) → (job x ≡ p → ⊥) → count job p (x ∷ xs) ≡ count job p xs
  count_other p x xs ne = omega (arith, count_cons p x xs, ap {B = ℕ} (λ b. cond b 1 0) (ne_eqb (job x) p ne))

  pub count_one : (p : ℕ) (x : A) → (p ≡ job x → ⊥) → count job p (x ∷ []) ≤ 0
  count_one p x ne = omega (arith, count_other p x [] (λ e. ne (sym e)))

  pub count_append : (p : ℕ) (xs ys : List A) → count job p (xs ++ ys) ≡ count job p xs + count job p ys
  count_append p xs ys = omega (arith, summed p (xs ++ ys), summed p xs, summed p ys, sum_by-append (one p) xs ys)

  -- those of a place and those of others are all
  pub count_parts : (p : ℕ) (xs : List A) → length xs ≡ count job p xs + length (others job p xs)
  count_parts p xs = sym (length-filter_both (λ x. eqb (job x) p) (λ x. not (eqb (job x) p)) (λ _. refl) xs)

  -- a filter leaves no more of a place
  pub count_filter : (t : A → Bool) (p : ℕ) (xs : List A) → count job p (filter t xs) ≤ count job p xs
  count_filter t p xs = omega (arith, summed p (filter t xs), summed p xs, sum_by-filter_both t (λ x. not (t x)) (λ _. refl) (one p) xs)

  -- a change that keeps the job
  pub count_map : (f : A → A) → ((x : A) → job (f x) ≡ job x) → (p : ℕ) (xs : List A) → count job p (map f xs) ≡ count job p xs
  count_map f same p [] = refl
  count_map f same p (x ∷ xs) =
      omega (arith, count_cons p (f x) (map f xs), count_cons p x xs, count_map f same p xs, ap {B = ℕ} (λ j. cond (eqb j p) 1 0) (same x))

  -- what passes names another place
  pub count_none : (t : A → Bool) (p : ℕ) → ((x : A) → t x ≡ true → job x ≡ p → ⊥) → (xs : List A) → count job p (filter t xs) ≡ 0
  count_none t p f xs =
      let none : All (λ x. one p x ≤ 0) (filter t xs) =
      All-weaker (λ x. t x ≡ true) (λ x. one p x ≤ 0) (λ x e. omega (arith, ap {B = ℕ} (λ b. cond b 1 0) (ne_eqb (job x) p (f x e)))) (filter t xs) (filter_passes t xs) in
      omega (arith, summed p (filter t xs), sum_by-le (one p) 0 (filter t xs) none)

  pub count_others : (p : ℕ) (xs : List A) → count job p (others job p xs) ≡ 0
  count_others p = count_none (λ x. not (eqb (job x) p)) p (λ x e h. both_ways (eqb (job x) p) (not-true _ e) (eq-eqb (job x) p h))

  -- the place of a record has one
  pub count_at : (xs : List A) (k : ℕ) (d : A) → k < length xs → 1 ≤ count job (job (get_or xs k d)) xs
  count_at xs k d l =
      let x = get_or xs k d in
      omega (arith, summed (job x) xs, one_named x, get_or-le-sum_by (one (job x)) xs k d l)

  none_named : (xs : List A) → ((p : ℕ) → count job p xs ≤ 0) → length xs ≤ 0
  none_named [] h = omega arith
  none_named (x ∷ xs) h = omega (arith, h (job x), count_named x xs)

  -- records of n places, at most b of each, are at most n times b
  pub few : (n b : ℕ) (xs : List A) → ((p : ℕ) → p < n → count job p xs ≤ b) → ((p : ℕ) → n ≤ p → count job p xs ≤ 0) → length xs ≤ n * b
  few zero b xs h k = omega (arith, none_named xs (λ p. k p (omega arith)))
  few (suc n) b xs h k =
      let less : (p : ℕ) → count job p (others job n xs) ≤ count job p xs = λ p. count_filter (λ x. not (eqb (job x) n)) p xs in
      let rest : length (others job n xs) ≤ n * b =
      few n b (others job n xs) (λ p l. omega (arith, h p (omega arith), less p)) (λ p l.
      elim (cases_eq p n) [
        | inl e ↦ omega (arith, ap (λ q. count job q (others job n xs)) e, count_others n xs)
        | inr ne ↦ omega (arith, k p (omega arith), less p)
      ]) in
      omega (arith, count_parts n xs, h n (omega arith), suc-mul n b)
