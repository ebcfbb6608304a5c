-- The parts of a text, taken one after another.
use Rattle.std.proofs.Common.{◌≡◌, ℕ, ◌+◌, ◌≤◌, Bool, true, false, cond, eqb, List, [], ◌∷◌, ◌++◌, map, length, Some, None, Option, Bor, sym, refl, ap, ◌∙◌, append-nil, arith}
use Rattle.std.specs.Iterator.{AlwaysYields}
use Rattle.std.specs.List.{onto_first}
use Rattle.std.proofs.lemmas.Iterator.{YieldsList}
use Rattle.std.proofs.lemmas.List.{map_push, append_assoc}
use Rattle.fields.specs.Cut.{pieces}
use Rattle.fields.specs.Places.{Word, end_of, placed, words}

-- one item more, under a map
pub pushed_map : {X Y : Type 0} (f : X → Y) (out more : List X) (x : X) (rest : List Y) → more ≡ out ++ x ∷ [] → map f more ++ rest ≡ map f out ++ (f x ∷ rest)
pushed_map f out more x rest e = ap (λ l. map f l ++ rest) e ∙ ap (λ l. l ++ rest) (map_push f out x) ∙ append_assoc (map f out) (f x ∷ []) rest

-- how many bytes the parts take, with a mark after each
abbrev pub taken : List (List ℕ) → ℕ
taken [] = 0
taken (w ∷ ws) = length w + 1 + taken ws

taken_pieces : (m : ℕ) (xs : List ℕ) → taken (pieces m xs) ≡ length xs + 1
taken_pieces m [] = refl
taken_pieces m (x ∷ xs) = by (eqb x m) (pieces m xs) (taken_pieces m xs)
  where
    by : (b : Bool) (ws : List (List ℕ)) → taken ws ≡ length xs + 1 → taken (cond b ([] ∷ ws) (onto_first x ws)) ≡ length (x ∷ xs) + 1
    by true ws e = omega arith
    by false [] e = absurd (omega arith)
    by false (w ∷ ws) e = omega arith

-- where cutting the text w stands: the parts that are done, and the place of those that s has left
pub record Cutting {S : Type 0} (steps : S → Option (Bor (List ℕ)) → S → Type 0) (m : ℕ) (w : Word) (done : List Word) (n : ℕ) (s : S) : Type 0 where
  pub parts : List (List ℕ)
  pub yields : YieldsList steps (λ x. x.now) s parts
  pub whole : done ++ placed n parts ≡ words m w
  pub ends : n + taken parts ≡ end_of w + 1

module _ {S : Type 0} {steps : S → Option (Bor (List ℕ)) → S → Type 0} (m : ℕ) (w : Word) where
  pub starts : (done : List Word) (s : S) → done ≡ [] → YieldsList steps (λ x. x.now) s (pieces m w.text) → Cutting steps m w done w.at s
  starts done s none y = record { parts = pieces m w.text; yields = y; whole = ap (λ l. l ++ words m w) none; ends = let t = taken_pieces m w.text in omega arith }

  pub room : (done : List Word) (n : ℕ) (s t : S) (x : Bor (List ℕ)) → Cutting steps m w done n s → steps s (Some x) t → n + (length x.now + 1) ≤ end_of w + 1
  room done n s t x c k = by c.parts c.yields.runs c.ends
    where
      by : (ps : List (List ℕ)) → AlwaysYields steps (λ x. x.now) s ps → n + taken ps ≡ end_of w + 1 → n + (length x.now + 1) ≤ end_of w + 1
      by [] y e = absurd (y x t k)
      by (p ∷ ps) y e = let same = ap length (y.1 x t k).0 in omega arith

  pub goes_on : (done more : List Word) (n : ℕ) (s t : S) (x : Bor (List ℕ)) → Cutting steps m w done n s → steps s (Some x) t → more ≡ done ++ record { text = x.now; at = n } ∷ [] → Cutting steps m w more (n + (length x.now + 1)) t
  goes_on done more n s t x c k grown = by c.parts c.yields.runs c.whole c.ends
    where
      by : (ps : List (List ℕ)) → AlwaysYields steps (λ x. x.now) s ps → done ++ placed n ps ≡ words m w → n + taken ps ≡ end_of w + 1 → Cutting steps m w more (n + (length x.now + 1)) t
      by [] y e l = absurd (y x t k)
      by (p ∷ ps) y e l =
          let one = y.1 x t k in
          let rest = placed (n + (length x.now + 1)) ps in record {
            parts = ps;
            yields = record { runs = one.1 };
            whole = ap (λ l. l ++ rest) grown ∙ append_assoc done (record { text = x.now; at = n } ∷ []) rest ∙ (λ i. done ++ placed n (one.0 i ∷ ps)) ∙ e;
            ends = let same = ap length one.0 in omega arith;
          }

  pub all_done : (done : List Word) (n : ℕ) (s t : S) → Cutting steps m w done n s → steps s None t → done ≡ words m w
  all_done done n s t c k = by c.parts c.yields.runs c.whole
    where
      by : (ps : List (List ℕ)) → AlwaysYields steps (λ x. x.now) s ps → done ++ placed n ps ≡ words m w → done ≡ words m w
      by [] y e = sym (append-nil done) ∙ e
      by (p ∷ ps) y e = absurd (y.0 t k)
