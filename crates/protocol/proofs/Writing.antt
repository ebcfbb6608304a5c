-- What a commit writes: the value of the job's versions at each object it has turned, and nothing elsewhere.
-- Words: `made_value`, `written` of specs/Ending.
use Rattle.std.proofs.Common.{◌≡◌, ℕ, ◌<◌, true, ◌⊎◌, List, [], ◌∷◌, length, get_or, set, refl, inl, inr, arith, length-set, get_or-set_other, get_or-set_same}
use Rattle.protocol.specs.declared.holdings.Holding.{Holding}
use Rattle.protocol.specs.declared.assumptions.Version.{Version}
use Rattle.protocol.specs.Ending.{made_value, written}
use Rattle.protocol.specs.Holdings.{turned}
use Rattle.protocol.specs.Lists.{In}

-- where p's versions of o all have the value x, and there is one, x is written
pub made_is : (p o x : ℕ) (vs : List Version) (v : Version) (d : ℕ) → In v vs → v.maker ≡ p → v.object ≡ o → ((u : Version) → In u vs → u.maker ≡ p → u.object ≡ o → u.value ≡ x) → made_value p o vs d ≡ x
made_is p o x [] v d i e f same = absurd i
made_is p o x (u ∷ vs) v d i e f same =
    let rest : In v vs → made_value p o vs d ≡ x = λ j. made_is p o x vs v d j e f (λ w l. same w (inr l)) in
    grind (arith, i, e, f, same u (inl refl), rest)

-- an object that p has not turned keeps its value
pub written_other : (p o : ℕ) (vs : List Version) (hs : List Holding) (xs : List ℕ) → ((h : Holding) → In h hs → h.job ≡ p → h.object ≡ o → turned h.state ≡ true → ⊥) → get_or (written p vs hs xs) o 0 ≡ get_or xs o 0
unfolding written
written_other p o vs [] xs n = refl
written_other p o vs (h ∷ hs) xs n =
    let rest : (ys : List ℕ) → get_or (written p vs hs ys) o 0 ≡ get_or ys o 0 = λ ys. written_other p o vs hs ys (λ g i. n g (inr i)) in
    grind (arith, n h (inl refl), get_or-set_other, rest)

-- an object that p has turned gets the value x of p's versions of it
pub written_same : (p o x : ℕ) (vs : List Version) → ((d : ℕ) → made_value p o vs d ≡ x) → (hs : List Holding) (xs : List ℕ) → o < length xs
    → ((h : Holding) × In h hs × (h.job ≡ p) × (h.object ≡ o) × (turned h.state ≡ true)) ⊎ (get_or xs o 0 ≡ x) → get_or (written p vs hs xs) o 0 ≡ x
unfolding written
written_same p o x vs is [] xs l (inl i) = absurd i.1
written_same p o x vs is [] xs l (inr e) = e
written_same p o x vs is (h ∷ hs) xs l w =
    let new : List ℕ = set xs h.object (made_value p h.object vs (get_or xs h.object 0)) in
    grind (arith, l, w, is (get_or xs o 0), length-set xs, get_or-set_other xs h.object o, get_or-set_same xs o, written_same p o x vs is hs xs, written_same p o x vs is hs new)

-- a commit leaves as many values as there were
pub length_written : (p : ℕ) (vs : List Version) (hs : List Holding) (xs : List ℕ) → length (written p vs hs xs) ≡ length xs
unfolding written
length_written p vs [] xs = refl
length_written p vs (h ∷ hs) xs = grind (arith, length-set, length_written p vs hs)
