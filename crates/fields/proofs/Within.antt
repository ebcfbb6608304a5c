-- Where the lines and fields stand in their script.
use Rattle.std.proofs.Common.{◌≡◌, ℕ, ◌+◌, ◌-◌, ◌<◌, ◌≤◌, Bool, true, false, cond, eqb, ltb, List, [], ◌∷◌, ◌++◌, map, length, get_or, take, drop, sym, refl, ap, ◌∙◌, arith, length-append}
use Rattle.std.specs.List.{join_with_byte, AllByRecursion}
use Rattle.std.specs.Str.Iter.{LacksByte}
use Rattle.std.proofs.lemmas.List.{append_assoc, append-nil, take_at, drop_at, take_more, take_all}
use Rattle.std.proofs.lemmas.Simd.{map-map}
use Rattle.std.proofs.lemmas.Bool.{and_parts, ltb-true, eqb-true}
use Rattle.fields.specs.Cut.{pieces}
use Rattle.fields.specs.Laws.{texts, last_mark, LinesJoinToTheScript, FieldsJoinToTheirLines, Stands, FieldsStandInTheScript}
use Rattle.fields.specs.Places.{Word, end_of, placed, words, fed, body, lines_of}
use Rattle.fields.proofs.Joins.{whole, lacks, lacks_pieces}

-- s is some bytes as long as the place of w, then w, then the others
pub record Within (s : List ℕ) (w : Word) : Type 0 where
  pub front : List ℕ
  pub back : List ℕ
  pub parts : s ≡ front ++ (w.text ++ back)
  pub long : length front ≡ w.at

pub ends_within : (s : List ℕ) (w : Word) → Within s w → end_of w ≤ length s
ends_within s w h =
    let e = simp (length-append, length-append) at (ap length h.parts) in
    let l = h.long in
    omega arith

pub at_place : (s : List ℕ) (w : Word) → Within s w → take (length w.text) (drop w.at s) ≡ w.text
at_place s w h =
    ap (λ l. take (length w.text) (drop w.at l)) h.parts
    ∙ ap (take (length w.text)) (drop_at h.front (w.text ++ h.back) w.at h.long)
    ∙ take_at w.text h.back (length w.text) refl

-- pieces that stand in a row stand each at its place
row_within : (s : List ℕ) (m : ℕ) (ws : List (List ℕ)) (n : ℕ) (front back : List ℕ) → length front ≡ n → s ≡ front ++ (join_with_byte m ws ++ back) → AllByRecursion (Within s) (placed n ws)
row_within s m [] n front back l e = tt
row_within s m (w ∷ []) n front back l e = (record { front = front; back = back; parts = e; long = l }, tt)
row_within s m (w ∷ v ∷ ws) n front back l e =
    let rest = join_with_byte m (v ∷ ws) in
    let shift : s ≡ (front ++ (w ++ (m ∷ []))) ++ (rest ++ back) = e ∙ simp append_assoc in
    let longer : length (front ++ (w ++ (m ∷ []))) ≡ n + (length w + 1) = simp (length-append, length-append) (omega arith) in (
      record { front = front; back = m ∷ (rest ++ back); parts = e ∙ simp append_assoc; long = l },
      row_within s m (v ∷ ws) (n + (length w + 1)) (front ++ (w ++ (m ∷ []))) back longer shift,
    )

-- the parts of a part of s
pub words_within : (s : List ℕ) (m : ℕ) (w : Word) → Within s w → AllByRecursion (Within s) (words m w)
words_within s m w h =
    row_within s m (pieces m w.text) w.at h.front h.back h.long
    (h.parts ∙ ap (λ t. h.front ++ (t ++ h.back)) (sym (whole m w.text)))

fed_parts : (s : List ℕ) (b : Bool) → fed s ≡ b → cond b (take (length s - 1) s) s ++ cond b (10 ∷ []) [] ≡ s
fed_parts s true e =
    let p = and_parts (ltb 0 (length s)) (eqb (get_or s (length s - 1) 0) 10) e in
    let some : 0 < length s = ltb-true 0 (length s) p.0 in
    let feed : get_or s (length s - 1) 0 ≡ 10 = eqb-true (get_or s (length s - 1) 0) 10 p.1 in
    ap (λ x. take (length s - 1) s ++ (x ∷ [])) (sym feed) ∙ sym (take_more s (length s - 1) 0 (omega arith)) ∙ take_all (length s - 1 + 1) s (omega arith)
fed_parts s false e = append-nil s

body_parts : (s : List ℕ) → body s ++ last_mark 10 s ≡ s
body_parts s = fed_parts s (fed s) refl

pub lines_within : (s : List ℕ) → AllByRecursion (Within s) (lines_of s)
lines_within s = words_within s 10 (record { text = body s; at = 0 }) (record { front = []; back = last_mark 10 s; parts = sym (body_parts s); long = refl })

pub texts_placed : (n : ℕ) (ws : List (List ℕ)) → texts (placed n ws) ≡ ws
texts_placed n [] = refl
texts_placed n (w ∷ ws) = ap (λ l. w ∷ l) (texts_placed (n + (length w + 1)) ws)

pub lines_join : LinesJoinToTheScript 10
lines_join s = ap (λ ws. join_with_byte 10 ws ++ last_mark 10 s) (texts_placed 0 (pieces 10 (body s))) ∙ ap (λ t. t ++ last_mark 10 s) (whole 10 (body s)) ∙ body_parts s

pub fields_join_to_their_lines : FieldsJoinToTheirLines 44
fields_join_to_their_lines s =
    map-map (λ row. join_with_byte 44 (texts row)) (words 44) (lines_of s)
    ∙ (λ i. map (λ l. (ap (join_with_byte 44) (texts_placed l.at (pieces 44 l.text)) ∙ whole 44 l.text) i) (lines_of s))

all_placed : (P : List ℕ → Type 0) (n : ℕ) (ws : List (List ℕ)) → AllByRecursion P ws → AllByRecursion (λ (w : Word). P w.text) (placed n ws)
all_placed P n [] h = tt
all_placed P n (w ∷ ws) (h, hs) = (h, all_placed P (n + (length w + 1)) ws hs)

-- what three lists of facts say of each item
stand : (s : List ℕ) (ws : List Word) → AllByRecursion (Within s) ws → AllByRecursion (λ w. LacksByte 44 w.text) ws → AllByRecursion (λ w. LacksByte 10 w.text) ws → AllByRecursion (Stands 44 10 s) ws
stand s [] a b c = tt
stand s (w ∷ ws) (a, as') (b, bs) (c, cs) = ((at_place s w a, b, c), stand s ws as' bs cs)

fields_stand : (s : List ℕ) (ls : List Word) → AllByRecursion (Within s) ls → AllByRecursion (λ w. LacksByte 10 w.text) ls → AllByRecursion (AllByRecursion (Stands 44 10 s)) (map (words 44) ls)
fields_stand s [] a b = tt
fields_stand s (l ∷ ls) (a, as') (b, bs) = (
  stand s (words 44 l) (words_within s 44 l a) (all_placed (LacksByte 44) l.at (pieces 44 l.text) (lacks 44 l.text))
      (all_placed (LacksByte 10) l.at (pieces 44 l.text) (lacks_pieces 10 44 l.text b)),
  fields_stand s ls as' bs,
)

pub fields_stand_in_the_script : FieldsStandInTheScript 44 10
fields_stand_in_the_script s =
    fields_stand s (lines_of s) (lines_within s) (all_placed (LacksByte 10) 0 (pieces 10 (body s)) (lacks 10 (body s)))
