-- A loop that writes a line for each item of a list.
use Rattle.std.proofs.Common.{◌≡◌, ℕ, ◌+◌, ◌<◌, ◌≤◌, Bool, true, false, cond, ltb, List, ◌++◌, length, get_or, drop, Some, None, Option, sym, ap, ◌∙◌, arith}
use Rattle.std.proofs.lemmas.Bool.{lt-ltb}
use Rattle.terms.specs.Objects.{value_at}
use Rattle.std.proofs.lemmas.List.{append-nil, append_assoc, at_drop_more, at_drop_all}
use Rattle.script.specs.Outputs.{object_bytes}
use Rattle.replays.specs.Output.{lines_from}

module _ {A : Type 0} (line : ℕ → A → List ℕ) (n : ℕ) (xs : List A) (i : ℕ) (now whole : List ℕ) (inv : now ++ lines_from line n (drop i xs) ≡ whole) where
  -- one line more
  pub line_more : (d : A) (after : List ℕ) → i < length xs → after ≡ now ++ line n (get_or xs i d) → after ++ lines_from line (n + 1) (drop (i + 1) xs) ≡ whole
  unfolding lines_from
  line_more d after l e =
      ap (λ k. k ++ lines_from line (n + 1) (drop (i + 1) xs)) e ∙ append_assoc now (line n (get_or xs i d)) (lines_from line (n + 1) (drop (i + 1) xs))
      ∙ ap (λ k. now ++ k) (sym (at_drop_more (lines_from line n) xs i d l)) ∙ inv

  -- no item is left
  pub lines_done : length xs ≤ i → now ≡ whole
  unfolding lines_from
  lines_done l = sym (append-nil now) ∙ ap (λ k. now ++ k) (sym (at_drop_all (lines_from line n) xs i l)) ∙ inv

-- what a store reads at an object that is there
pub value_there : (values : List ℕ) (object value : ℕ) (read : Option ℕ) → object < length values → read ≡ value_at values object → read ≡ Some value → value ≡ get_or values object 0
value_there values object value read l e is = go (ltb object (length values)) (lt-ltb object (length values) l) e
  where
    go : (b : Bool) → b ≡ true → read ≡ cond b (Some (get_or values object 0)) None → value ≡ get_or values object 0
    go true t e = cc
    go false t e = let z : ◌≡◌ {A = ℕ} 0 1 = cc in absurd (omega arith)

-- the line of an object
pub object_line_is : (k o v w : ℕ) → k ≡ o → v ≡ w → object_bytes k v ≡ object_bytes o w
object_line_is k o v w e f = cc
