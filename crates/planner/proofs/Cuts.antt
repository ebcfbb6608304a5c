-- A text, cut at its first line feed.
use Rattle.std.proofs.Common.{◌≡◌, ℕ, suc, ◌+◌, ◌-◌, ◌<◌, ◌≤◌, Bool, true, false, cond, not, eqb, List, [], ◌∷◌, Some, None, length, take, drop, length-drop, sym, refl, ap, ap₂, ◌∙◌, arith}
use Rattle.std.specs.List.{position, position_or_len, onto_first}
use Rattle.std.proofs.lemmas.List.{take_all, take_rest, drop_all}
use Rattle.std.proofs.lemmas.Bool.Decides.{nat_tests}
use Rattle.planner.specs.Packs.{before_feed, after_feed, lines_of}

-- where the first line feed stands
abbrev feed_at : List ℕ → ℕ
feed_at text = position_or_len (λ byte. eqb byte 10) text

pub before_cons : (x : ℕ) (xs : List ℕ) → before_feed (x ∷ xs) ≡ cond (eqb x 10) [] (x ∷ before_feed xs)
before_cons x xs =
    let P : Bool → Type 0 = λ b. take (cond (not b) (1 + feed_at xs) 0) (x ∷ xs) ≡ cond b [] (x ∷ before_feed xs) in
    let more : 1 + feed_at xs ≡ suc (feed_at xs) = omega arith in
    elim (eqb x 10) as P [ true ↦ refl | false ↦ ap (λ n. take n (x ∷ xs)) more ]

pub after_cons : (x : ℕ) (xs : List ℕ) → after_feed (x ∷ xs) ≡ cond (eqb x 10) xs (after_feed xs)
after_cons x xs =
    let P : Bool → Type 0 = λ b. drop (cond (not b) (1 + feed_at xs) 0 + 1) (x ∷ xs) ≡ cond b xs (after_feed xs) in
    let more : 1 + feed_at xs + 1 ≡ suc (feed_at xs + 1) = omega arith in
    elim (eqb x 10) as P [ true ↦ refl | false ↦ ap (λ n. drop n (x ∷ xs)) more ]

end_found : (text : List ℕ) (end : ℕ) → Some end ≡ position (λ byte. eqb byte 10) text → end ≡ feed_at text
end_found text end e = grind (arith, nat_tests)

none_found : (text : List ℕ) → None ≡ position (λ byte. eqb byte 10) text → length text ≤ feed_at text
none_found text e = grind (arith, nat_tests)

pub cut_there : (text : List ℕ) (end : ℕ) → Some end ≡ position (λ byte. eqb byte 10) text
    → (take end text ≡ before_feed text) × (take (length text - (end + 1)) (drop (end + 1) text) ≡ after_feed text)
cut_there text end e =
    let at = end_found text end e in
    (ap (λ n. take n text) at, take_rest text (end + 1) ∙ ap (λ n. drop (n + 1) text) at)

pub cut_nowhere : (text : List ℕ) → None ≡ position (λ byte. eqb byte 10) text → (text ≡ before_feed text) × ([] ≡ after_feed text)
cut_nowhere text e =
    let past = none_found text e in
    (sym (take_all (feed_at text) text past), sym (drop_all (feed_at text + 1) text (omega arith)))

pub after_shorter : (xs : List ℕ) → 0 < length xs → length (after_feed xs) < length xs
after_shorter xs some = omega (arith, length-drop (feed_at xs + 1) xs)

pub first_line : (xs : List ℕ) → 0 < length xs → lines_of xs ≡ before_feed xs ∷ lines_of (after_feed xs)
unfolding lines_of
first_line [] = λ h. absurd (omega arith)
first_line (x ∷ []) = λ h.
    let P : Bool → Type 0 = λ b. cond b ([] ∷ []) ((x ∷ []) ∷ []) ≡ cond b [] (x ∷ []) ∷ lines_of (cond b [] []) in
    (elim (eqb x 10) as P [ true ↦ refl | false ↦ refl ]) ∙ ap₂ (λ f r. f ∷ lines_of r) (sym (before_cons x [])) (sym (after_cons x []))
first_line (x ∷ y ∷ ys) = λ h.
    let ih = first_line (y ∷ ys) (omega arith) in
    let P : Bool → Type 0 = λ b. cond b ([] ∷ lines_of (y ∷ ys)) (onto_first x (lines_of (y ∷ ys))) ≡ cond b [] (x ∷ before_feed (y ∷ ys)) ∷ lines_of (cond b (y ∷ ys) (after_feed (y ∷ ys))) in
    (elim (eqb x 10) as P [ true ↦ refl | false ↦ ap (onto_first x) ih ]) ∙ ap₂ (λ f r. f ∷ lines_of r) (sym (before_cons x (y ∷ ys))) (sym (after_cons x (y ∷ ys)))
