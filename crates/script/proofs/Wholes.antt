-- From the lines of a script, cut into fields, to what the script says.
use Rattle.std.proofs.Common.{◌≡◌, ℕ, ◌-◌, ◌<◌, ◌≤◌, ltb, List, [], ◌∷◌, map, length, get_or, take, drop, Ok, Err, vec_items, Result, Vec, sym, refl, ap, ◌∙◌}
use Rattle.std.specs.declared.alloc.Global.{Global}
use Rattle.std.proofs.lemmas.List.{drop_more, take_rest}
use Rattle.std.proofs.lemmas.Simd.{map-map}
use Rattle.std.proofs.lemmas.Bool.{cond-false, le-ltb}
use Rattle.fields.specs.Cut.{pieces}
use Rattle.fields.specs.Laws.{texts as bytes_of}
use Rattle.fields.specs.Places.{Word, word_of, row_of, words, body, lines_of, rows_of}
use Rattle.fields.specs.declared.parts.Field.{Field}
use Rattle.fields.proofs.Within.{texts_placed}
use Rattle.terms.specs.declared.calls.Call.{Call}
use Rattle.script.specs.Calls.{call_of}
use Rattle.script.specs.Faults.{then}
use Rattle.script.specs.Lines.{texts}
use Rattle.script.specs.Scripts.{Reading, lines_read, script_in, row_asked}
use Rattle.script.specs.Setups.{setup_of, setup_in}
use Rattle.script.specs.declared.faults.Fault.{Fault}
use Rattle.script.specs.declared.faults.Fault.TheVariants.{Length, Letter}
use Rattle.script.specs.declared.setups.Setup.{Setup}

abbrev Row : Type 0
Row = Vec Field Global

-- what lines say that are cut already
abbrev cut_read : List (List (List ℕ)) → Result Reading Fault
cut_read [] = Err Letter
cut_read (first ∷ others) = then (setup_of first) (λ setup. Ok (setup, map call_of others))

abbrev pub rows_read : List Row → Result Reading Fault
rows_read [] = Err Letter
rows_read (first ∷ others) = then (setup_of (texts (vec_items first))) (λ setup. Ok (setup, map row_asked others))

lines_cut : (ls : List (List ℕ)) → lines_read ls ≡ cut_read (map (pieces 44) ls)
lines_cut [] = refl
lines_cut (l ∷ ls) = ap (λ r. then (setup_in l) (λ setup. Ok (setup, r))) (sym (map-map call_of (pieces 44) ls))

rows_cut : (vs : List Row) → rows_read vs ≡ cut_read (map (λ v. texts (vec_items v)) vs)
rows_cut [] = refl
rows_cut (v ∷ vs) = ap (λ r. then (setup_of (texts (vec_items v))) (λ setup. Ok (setup, r))) (sym (map-map call_of (λ v. texts (vec_items v)) vs))

texts_rows : (vs : List Row) → map (λ v. texts (vec_items v)) vs ≡ map bytes_of (map row_of vs)
texts_rows vs = (λ i. map (λ v. sym (map-map (λ w. w.text) word_of (vec_items v)) i) vs) ∙ sym (map-map bytes_of row_of vs)

texts_lines : (ls : List Word) → map bytes_of (map (words 44) ls) ≡ map (pieces 44) (bytes_of ls)
texts_lines ls =
    map-map bytes_of (words 44) ls ∙ (λ i. map (λ l. texts_placed l.at (pieces 44 l.text) i) ls) ∙ sym (map-map (pieces 44) (λ w. w.text) ls)

-- the rows of a script say what its lines say
pub script_rows : (s : List ℕ) (vs : List Row) → map row_of vs ≡ rows_of s → lines_read (pieces 10 (body s)) ≡ rows_read vs
script_rows s vs e =
    lines_cut (pieces 10 (body s))
    ∙ ap cut_read (sym (texts_rows vs ∙ ap (map bytes_of) e ∙ texts_lines (lines_of s) ∙ ap (map (pieces 44)) (texts_placed 0 (pieces 10 (body s)))))
    ∙ sym (rows_cut vs)

-- a script that is not too long, by its rows
module _ (s : List ℕ) (short : length s ≤ 32768) (vs items : List Row) (same : vs ≡ items) (are : map row_of items ≡ rows_of s) where
  said : script_in s ≡ rows_read vs
  said = cond-false (ltb 32768 (length s)) (Err Length) (lines_read (pieces 10 (body s))) (le-ltb 32768 (length s) short) ∙ script_rows s vs (ap (map row_of) same ∙ are)

  -- the first row apart
  module _ (some : 0 < length vs) (first : Row) (is : first ≡ get_or vs 0 first) (fields : List Field) (its : fields ≡ vec_items first) where
    opened : script_in s ≡ then (setup_of (texts fields)) (λ setup. Ok (setup, map row_asked (drop 1 vs)))
    opened =
        said ∙ ap rows_read (drop_more vs 0 first some)
        ∙ ap (λ v. then (setup_of (texts (vec_items v))) (λ setup. Ok (setup, map row_asked (drop 1 vs)))) (sym is)
        ∙ ap (λ l. then (setup_of (texts l)) (λ setup. Ok (setup, map row_asked (drop 1 vs)))) (sym its)

    pub refused : (e : Fault) → Err e ≡ setup_of (texts fields) → script_in s ≡ Err e
    refused e h = opened ∙ ap (λ r. then r (λ setup. Ok (setup, map row_asked (drop 1 vs)))) (sym h)

    pub accepted : (setup : Setup) (readings : List (Result Call Fault)) (n : ℕ) → n ≡ length vs - 1 → Ok setup ≡ setup_of (texts fields) → readings ≡ map row_asked (take n (drop 1 vs)) → script_in s ≡ Ok (setup, readings)
    accepted setup readings n long h r =
        opened ∙ ap (λ r. then r (λ setup. Ok (setup, map row_asked (drop 1 vs)))) (sym h)
        ∙ ap (λ l. Ok (setup, l)) (sym (r ∙ ap (λ k. map row_asked (take k (drop 1 vs))) long ∙ ap (map row_asked) (take_rest vs 1)))
