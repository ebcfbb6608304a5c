-- The first values of a list, and a write among them.
use Rattle.std.proofs.Common.{◌≡◌, ℕ, zero, suc, min, List, [], ◌∷◌, map, length, take, set, replicate, refl, ap, ◌∙◌, arith}
use Rattle.std.proofs.lemmas.List.{take_min}

-- so many of a list, or all where there are fewer
pub take_fewer : {X : Type 0} (n : ℕ) (xs : List X) → take (min (length xs) n) xs ≡ take n xs
take_fewer n xs = let same : min (length xs) n ≡ min n (length xs) = omega arith in ap (λ k. take k xs) same ∙ take_min n xs

pub take_set : {X : Type 0} (n : ℕ) (xs : List X) (i : ℕ) (x : X) → take n (set xs i x) ≡ set (take n xs) i x
take_set zero xs i x = refl
take_set (suc n) [] i x = refl
take_set (suc n) (y ∷ ys) zero x = refl
take_set (suc n) (y ∷ ys) (suc i) x = ap (λ l. y ∷ l) (take_set n ys i x)

pub take_alike : {X : Type 0} (n m : ℕ) (x : X) → take n (replicate m x) ≡ replicate (min n m) x
take_alike zero m x = let none : 0 ≡ min 0 m = omega arith in ap (λ k. replicate k x) none
take_alike (suc n) zero x = let none : 0 ≡ min (suc n) 0 = omega arith in ap (λ k. replicate k x) none
take_alike (suc n) (suc m) x =
    let one_more : suc (min n m) ≡ min (suc n) (suc m) = omega arith in
    ap (λ l. x ∷ l) (take_alike n m x) ∙ ap (λ k. replicate k x) one_more

pub map_alike : {X Y : Type 0} (f : X → Y) (n : ℕ) (x : X) → map f (replicate n x) ≡ replicate n (f x)
map_alike f zero x = refl
map_alike f (suc n) x = ap (λ l. f x ∷ l) (map_alike f n x)
