-- The calls among the lines of a script, and the answer to each line.
use Rattle.std.proofs.Common.{◌≡◌, ℕ, ◌+◌, ◌<◌, ◌≤◌, List, [], ◌∷◌, ◌++◌, length, get_or, drop, Some, None, Ok, Err, Option, Result, sym, refl, ap, ◌∙◌, arith}
use Rattle.std.proofs.lemmas.List.{append-nil, append_assoc, at_drop_more, at_drop_all}
use Rattle.std.proofs.Common.{Bor, Iter}
use Rattle.std.specs.Option.{option_copied}
use Rattle.std.specs.Prelude.{unwrap_or}
use Rattle.std.specs.Result.{result_err}
use Rattle.std.specs.Slice.Iter.{iter_steps}
use Rattle.terms.specs.declared.calls.Call.{Call}
use Rattle.terms.specs.Rule.{Rule}
use Rattle.protocol.specs.declared.refusals.Refusal.{Refusal}
use Rattle.protocol.specs.Cases.{answer_number}
use Rattle.protocol.specs.Model.{Model}
use Rattle.protocol.specs.Past.{past}
use Rattle.protocol.specs.Step.{answer, step}
use Rattle.book.specs.Told.{answers_of}
use Rattle.book.proofs.Told.{told_by}
use Rattle.script.specs.Faults.{number_of}
use Rattle.script.specs.Outputs.{answer_bytes}
use Rattle.script.specs.declared.faults.Fault.{Fault}
use Rattle.replays.specs.Output.{LineRead, calls_in, line_answers, lines_from}
use Rattle.replays.specs.Merged.{merged}

-- what a loop has and what is left make the whole, one item further
further : {A : Type 0} (now after rest more whole : List A) (x : A) → now ++ rest ≡ whole → rest ≡ x ∷ more → after ≡ now ++ x ∷ [] → after ++ more ≡ whole
further now after rest more whole x inv is e =
    ap (λ l. l ++ more) e ∙ append_assoc now (x ∷ []) more ∙ ap (λ l. now ++ l) (sym is) ∙ inv

none_first : (xs : List (Result (Unit {0}) Refusal)) → length xs ≡ 0 → Ok tt ≡ get_or xs 0 (Ok tt)
none_first [] e = refl
none_first (x ∷ xs) e = absurd (omega arith)

none_left : (xs : List (Result (Unit {0}) Refusal)) → length xs ≡ 0 → xs ≡ drop 1 xs
none_left [] e = refl
none_left (x ∷ xs) e = absurd (omega arith)

-- the answer that an iterator gives, and those that are left to it
pub next_answer : (s t : Iter (Result (Unit {0}) Refusal)) (r : Option (Bor (Result (Unit {0}) Refusal))) → iter_steps s r t → (unwrap_or (option_copied r) (Ok tt) ≡ get_or s.rest.now 0 (Ok tt)) × (t.rest.now ≡ drop 1 s.rest.now)
next_answer s t None (none, same) = (none_first s.rest.now none, ap (λ (k : Iter (Result (Unit {0}) Refusal)). k.rest.now) same ∙ none_left s.rest.now none)
next_answer s t (Some x) is = (sym (ap (λ k. get_or k 0 (Ok tt)) is), sym (ap (drop 1) is))

module _ (rs : List LineRead) (i : ℕ) (d : LineRead) (l : i < length rs) (told : List (Result (Unit {0}) Refusal)) (now whole : List ℕ) where
  -- what is written and what is still to come, from the i-th line on
  abbrev Written : Type 0
  Written = now ++ lines_from answer_bytes (i + 2) (merged (drop i rs) told) ≡ whole

  module _ (inv : Written) (after : List ℕ) where
    next_line : (x : ℕ) (more : List ℕ) → merged (get_or rs i d ∷ drop (i + 1) rs) told ≡ x ∷ more → after ≡ now ++ answer_bytes (i + 2) x → after ++ lines_from answer_bytes (i + 1 + 2) more ≡ whole
    unfolding lines_from
    next_line x more is e =
        let same : i + 1 + 2 ≡ i + 2 + 1 = omega arith in
        ap (λ n. after ++ lines_from answer_bytes n more) same ∙ ap (λ k. k ++ lines_from answer_bytes (i + 2 + 1) more) e ∙ append_assoc now (answer_bytes (i + 2) x) (lines_from answer_bytes (i + 2 + 1) more)
        ∙ ap (λ k. now ++ k) (sym (ap (lines_from answer_bytes (i + 2)) (at_drop_more (λ k. merged k told) rs i d l ∙ is))) ∙ inv

    -- the line's call takes an answer
    pub line_of_call : (c : Call) (a : Result (Unit {0}) Refusal) (left : List (Result (Unit {0}) Refusal)) → get_or rs i d ≡ Ok c → (a ≡ get_or told 0 (Ok tt)) × (left ≡ drop 1 told) → after ≡ now ++ answer_bytes (i + 2) (answer_number (result_err a))
        → after ++ lines_from answer_bytes (i + 1 + 2) (merged (drop (i + 1) rs) left) ≡ whole
    unfolding merged
    line_of_call c a left is (taken, goes) e =
        let more = drop (i + 1) rs in
        next_line (answer_number (result_err a)) (merged more left)
        (ap (λ y. merged (y ∷ more) told) is ∙ ap (λ k. answer_number (result_err k) ∷ merged more (drop 1 told)) (sym taken) ∙ ap (λ k. answer_number (result_err a) ∷ merged more k) (sym goes)) e

    -- the line is at fault
    pub line_of_fault : (f : Fault) → get_or rs i d ≡ Err f → after ≡ now ++ answer_bytes (i + 2) (number_of f) → after ++ lines_from answer_bytes (i + 1 + 2) (merged (drop (i + 1) rs) told) ≡ whole
    unfolding merged
    line_of_fault f is e = next_line (number_of f) (merged (drop (i + 1) rs) told) (ap (λ y. merged (y ∷ drop (i + 1) rs) told) is) e

-- no line is left
pub lines_told : (rs : List LineRead) (i : ℕ) (told : List (Result (Unit {0}) Refusal)) (now whole : List ℕ) → length rs ≤ i → now ++ lines_from answer_bytes (i + 2) (merged (drop i rs) told) ≡ whole → now ≡ whole
unfolding merged lines_from
lines_told rs i told now whole past inv = sym (append-nil now) ∙ ap (λ k. now ++ k) (sym (at_drop_all (λ k. lines_from answer_bytes (i + 2) (merged k told)) rs i past)) ∙ inv

-- with the answers that the rules give the calls
pub merged_is : (r : Rule) (m : Model) (rs : List LineRead) → merged rs (answers_of r m (calls_in rs)) ≡ line_answers r m rs
unfolding merged line_answers answers_of past
merged_is r m [] = refl
merged_is r m (Ok c ∷ rs) = ap (λ a. answer_number a ∷ merged rs (answers_of r (step r m c) (calls_in rs))) (told_by (answer r m c)) ∙ ap (λ l. answer_number (answer r m c) ∷ l) (merged_is r (step r m c) rs)
merged_is r m (Err f ∷ rs) = ap (λ l. number_of f ∷ l) (merged_is r m rs)
