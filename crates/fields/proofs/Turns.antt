-- Cutting each line of a script into its fields.
use Rattle.std.proofs.Common.{◌≡◌, ℕ, ◌<◌, ◌≤◌, List, [], ◌∷◌, ◌++◌, map, length, get_or, vec_items, vec_len, vec_capacity, ◌+◌, None, Ok, IfOk, Result, Vec, Bor, Iter, sym, ap, ◌∙◌, subst, append-nil, arith}
use denote.Param.Members.{Mut}
use Rattle.std.specs.Fn.{Called}
use Rattle.std.specs.Iterator.{Yields, TryCollects}
use Rattle.std.specs.Iterator.Adapters.{map_source}
use Rattle.std.specs.Slice.Iter.{iter_rest}
use Rattle.std.specs.declared.iter.Map.{Map}
use Rattle.std.proofs.iter.Yields.{fronts}
use Rattle.std.proofs.lemmas.Iterator.{maps}
use Rattle.std.specs.List.{AllByRecursion, FoldsTo}
use Rattle.std.specs.declared.alloc.AllocError.{AllocError}
use Rattle.std.specs.declared.alloc.Global.{Global}
use Rattle.std.proofs.ByRecursion.{All-get_or}
use Rattle.std.proofs.lemmas.List.{get_or-map, length-map, nil_from_length}
use Rattle.std.proofs.lemmas.Result.{IfOk-weaker}
use Rattle.fields.specs.Places.{word_of, row_of, end_of, words, lines_of, rows_of}
use Rattle.fields.specs.declared.parts.Field.{Field}
use Rattle.fields.proofs.Steps.{pushed_map}
use Rattle.fields.proofs.Within.{Within, ends_within, lines_within}

-- each line ends in its script
pub line_inside : (s : List ℕ) (lines : List Field) → map word_of lines ≡ lines_of s → (line : Field) (i : ℕ) → i < length lines → line ≡ get_or lines i line → end_of (word_of line) ≤ length s
line_inside s lines all line i h is =
    let within : AllByRecursion (Within s) (map word_of lines) = subst (AllByRecursion (Within s)) (sym all) (lines_within s) in
    let long = length-map lines word_of in
    let one = All-get_or (Within s) (map word_of lines) i (word_of line) (omega arith) within in
    ends_within s (word_of line) (subst (Within s) (get_or-map word_of lines i line (word_of line) h ∙ ap word_of (sym is)) one)

abbrev Row : Type 0
Row = Vec Field Global

abbrev Rows : Type 0
Rows = Vec Row Global

abbrev Cut : Type 0
Cut = Result Row AllocError

-- how `try_collect` makes a list of rows: it starts with none, and takes the row of each item that is one
abbrev Settles : Cut → Cut → Type 0
Settles x r = r ≡ x

abbrev Starts : List Row → Rows → Type 0
Starts xs v = (vec_items v ≡ xs) × (vec_len v ≡ length xs)

abbrev Extends : Rows → List Row → Rows → Type 0
Extends v xs w = (vec_items w ≡ vec_items v ++ xs) × (vec_len w ≡ vec_len v + length xs) × (vec_capacity v ≤ vec_capacity w)

-- the lines that are left to cut
abbrev left : {F : Type 0} → Map (Iter Field) F → List Field
left m = iter_rest (map_source m)

-- a closure g that cuts a line
module _ {F : Type 0} (g : Mut F (Bor Field × Unit {0}) Cut) (cuts : (f : F) (l : Bor Field) (r : Cut) (q : F) → Called g f (l, tt) r q → IfOk r (λ v. row_of v ≡ words 44 (word_of l.now))) where
  folded : (xs : List Cut) (m t u : Map (Iter Field) F) (b v : Rows) → Yields (maps fronts g) m xs t → maps fronts g t None u → FoldsTo (λ p x q. (y : Row) × Settles x (Ok y) × Extends p (y ∷ []) q) b xs v → map row_of (vec_items v) ≡ map row_of (vec_items b) ++ map (words 44) (map word_of (left m))
  folded [] m t u b v y d f =
      let none = nil_from_length (left m) (subst (λ n. length (left n) ≡ 0) (sym y) d.0.0) in
      ap (λ w. map row_of (vec_items w)) (sym f) ∙ sym (append-nil (map row_of (vec_items b))) ∙ ap (λ l. map row_of (vec_items b) ++ map (words 44) (map word_of l)) (sym none)
  folded (x ∷ xs) m t u b v (n, (line, next, call), y) d (c, (row, is, one), f) =
      let told : row_of row ≡ words 44 (word_of line.now) = subst (λ r. IfOk r (λ v. row_of v ≡ words 44 (word_of line.now))) (sym is) (cuts _ line x _ call) in
      folded xs n t u c v y d f
      ∙ pushed_map row_of (vec_items b) (vec_items c) row (map (words 44) (map word_of (left n))) one.0
      ∙ ap (λ w. map row_of (vec_items b) ++ (w ∷ map (words 44) (map word_of (left n)))) told
      ∙ ap (λ l. map row_of (vec_items b) ++ map (words 44) (map word_of l)) (sym next)

  collected : (m : Map (Iter Field) F) (v : Rows) → TryCollects (maps fronts g) Settles Starts Extends m v → map row_of (vec_items v) ≡ map (words 44) (map word_of (left m))
  collected m v (xs, b, (u, (t, y, d)), e, f) =
      folded xs m t u b v y d f ∙ ap (λ l. map row_of l ++ map (words 44) (map word_of (left m))) e.0

-- the rows that are collected are those of the script
pub rows_collected : {F E : Type 0} (g : Mut F (Bor Field × Unit {0}) Cut) (s : List ℕ) (m : Map (Iter Field) F) (r : Result Rows E) → IfOk r (TryCollects (maps fronts g) Settles Starts Extends m)
    → ((f : F) (l : Bor Field) (r : Cut) (q : F) → Called g f (l, tt) r q → IfOk r (λ v. row_of v ≡ words 44 (word_of l.now)))
    → map word_of (left m) ≡ lines_of s → IfOk r (λ v. map row_of (vec_items v) ≡ rows_of s)
rows_collected g s m r ran cuts all =
    IfOk-weaker r (TryCollects (maps fronts g) Settles Starts Extends m) (λ v. map row_of (vec_items v) ≡ rows_of s)
    (λ v h. collected g cuts m v h ∙ ap (map (words 44)) all) ran
