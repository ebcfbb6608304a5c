-- Lists as the rules use them. (No definition makes the same recursive call twice, so that all of them compute fast.)
use Rattle.std.specs.Prelude.{◌≡◌, Bool, true, false, ◌⊎◌, List, [], ◌∷◌, Some, None, Option}
use Rattle.std.specs.List.{AllByRecursion}

-- nothing stands in the list
abbrev pub is_nil : {A : Type 0} → List A → Bool
is_nil [] = true
is_nil (x ∷ xs) = false

-- x stands in the list
abbrev pub In : {A : Type 0} → A → List A → Type 0
In x [] = ⊥
In x (y ∷ ys) = (y ≡ x) ⊎ In x ys

-- R between each and each later one
abbrev pub Pairs : {A : Type 0} → (A → A → Type 0) → List A → Type 0
Pairs R [] = Unit {0}
Pairs R (x ∷ xs) = AllByRecursion (R x) xs × Pairs R xs

-- x stands in the list, and y behind it
abbrev pub Behind : {A : Type 0} → A → A → List A → Type 0
Behind x y [] = ⊥
Behind x y (z ∷ zs) = ((z ≡ x) × In y zs) ⊎ Behind x y zs

-- the first refusal whose test passes
abbrev pub first : {A : Type 0} → List (Bool × A) → Option A
first [] = None
first (t ∷ ts) = elim t.0 [ true ↦ Some t.1 | false ↦ first ts ]
