-- A loop that moves to the front what a rule leaves of each record.
use Rattle.std.proofs.Common.{◌≡◌, ℕ, ◌+◌, ◌-◌, ◌<◌, ◌≤◌, Bool, true, false, cond, Option, Some, None, List, [], ◌∷◌, ◌++◌, map, length, get_or, take, drop, set, replicate, filter, sym, refl, ap, subst, ◌∙◌, ap₂, arith}
use Rattle.std.specs.List.{filter_map, cons_option}
use borrow.Rule.Slice.PartMut.{put_mid, post_of}
use Rattle.std.proofs.lemmas.List.Elements.{filter_map-append}
use Rattle.std.proofs.lemmas.List.{append-nil, take_more, take_more_set, take_all, drop_more, drop-set-lt, drop-drop, drop_all, length-drop, length-set, length-take-le, map-id}
use Rattle.tables.specs.Ended.{Compacted}

-- ys began as xs. What is left of the first i of xs stands in the first k places of ys, and from i on ys is as it was
pub record Sifting {T : Type 0} (rule : T → Option T) (xs ys : List T) (k i : ℕ) : Type 0 where
  pub front : take k ys ≡ filter_map rule (take i xs)
  pub rest : drop i ys ≡ drop i xs
  pub behind : k ≤ i
  pub within : i ≤ length xs
  pub long : length ys ≡ length xs

module _ {T : Type 0} (rule : T → Option T) where
  module _ (xs ys : List T) (k i : ℕ) (x : T) (s : Sifting rule xs ys k i) (l : i < length ys) (is : x ≡ get_or ys i x) where
    -- xs reads at i as ys does, and they end alike behind it
    both : (get_or xs i x ≡ x) × (drop (i + 1) ys ≡ drop (i + 1) xs)
    both =
        let l' : i < length xs = omega (arith, s.long) in
        let a = drop_more ys i x l in
        let b = drop_more xs i x l' in
        let r = s.rest in
        (cc, cc)

    next : (r : Option T) → r ≡ rule x → filter_map rule (take (i + 1) xs) ≡ take k ys ++ cons_option r []
    next r is_r =
        let l' : i < length xs = omega (arith, s.long) in
        ap (filter_map rule) (take_more xs i x l') ∙ filter_map-append rule (take i xs) (get_or xs i x ∷ [])
        ∙ ap₂ (λ l y. l ++ cons_option (rule y) []) (sym s.front) both.0 ∙ ap (λ o. take k ys ++ cons_option o []) (sym is_r)

    pub sifting_some : (y : T) → Some y ≡ rule x → Sifting rule xs (set ys k y) (k + 1) (i + 1)
    sifting_some y e = record {
      front = take_more_set ys k y (omega (arith, s.behind)) ∙ sym (next (Some y) e);
      rest = drop-set-lt (i + 1) ys k y (omega (arith, s.behind)) ∙ both.1;
      behind = omega (arith, s.behind);
      within = omega (arith, s.long);
      long = length-set ys k y ∙ s.long;
    }

    pub sifting_none : None ≡ rule x → Sifting rule xs ys k (i + 1)
    sifting_none e = record {
      front = sym (next None e ∙ append-nil (take k ys));
      rest = both.1;
      behind = omega (arith, s.behind);
      within = omega (arith, s.long);
      long = s.long;
    }

  -- at the end the places behind are emptied
  module _ (xs ys : List T) (k i : ℕ) (s : Sifting rule xs ys k i) (done : length xs ≤ i) where
    sifted : take k ys ≡ filter_map rule xs
    sifted = s.front ∙ ap (filter_map rule) (take_all i xs done)

    count : k ≡ length (filter_map rule xs)
    count = sym (length-take-le k ys (omega (arith, s.long, s.behind, s.within))) ∙ ap length sifted

    pub compacted : (e : T) (zs : List T) → zs ≡ replicate (length (take (length ys - k) (drop k ys))) e
        → Compacted e (filter_map rule xs) xs k (put_mid k (length ys - k) ys zs)
    compacted e zs is =
        let none : post_of k (length ys - k) ys ≡ [] = drop-drop (length ys - k) k ys ∙ drop_all (k + (length ys - k)) ys (omega arith) in
        let many : length (take (length ys - k) (drop k ys)) ≡ length xs - length (filter_map rule xs) =
        length-take-le (length ys - k) (drop k ys) (omega (arith, length-drop k ys)) ∙ omega (arith, count, s.long) in
        record {
          left = count;
          after = ap (λ l. take k ys ++ (zs ++ l)) none ∙ ap (λ l. take k ys ++ l) (append-nil zs ∙ is ∙ ap (λ n. replicate n e) many)
              ∙ ap (λ l. l ++ replicate (length xs - length (filter_map rule xs)) e) sifted;
        }

-- a rule that tests and changes leaves the changes of those that pass
module _ {T : Type 0} (t : T → Bool) where
  abbrev pub where_passes : (T → T) → T → Option T
  where_passes f x = cond (t x) (Some (f x)) None

  filter_map_test : (f : T → T) (xs : List T) → filter_map (where_passes f) xs ≡ map f (filter t xs)
  filter_map_test f [] = refl
  filter_map_test f (x ∷ xs) = go (t x) (filter_map_test f xs)
    where
      go : (b : Bool) → filter_map (where_passes f) xs ≡ map f (filter t xs)
          → cons_option (cond b (Some (f x)) None) (filter_map (where_passes f) xs) ≡ map f (cond b (x ∷ filter t xs) (filter t xs))
      go true e = ap (λ l. f x ∷ l) e
      go false e = e

  pub compacted_test : (f : T → T) {e : T} {xs ys : List T} {r : ℕ} → Compacted e (filter_map (where_passes f) xs) xs r ys → Compacted e (map f (filter t xs)) xs r ys
  compacted_test f {e} {xs} {ys} {r} = subst (λ l. Compacted e l xs r ys) (filter_map_test f xs)

  pub compacted_filter : {e : T} {xs ys : List T} {r : ℕ} → Compacted e (filter_map (where_passes (λ x. x)) xs) xs r ys → Compacted e (filter t xs) xs r ys
  compacted_filter {e} {xs} {ys} {r} c = subst (λ l. Compacted e l xs r ys) (map-id (filter t xs)) (compacted_test (λ x. x) c)
