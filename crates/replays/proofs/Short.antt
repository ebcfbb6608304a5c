-- A script that is read has at most 32,769 lines.
use Rattle.std.proofs.Common.{◌≡◌, ℕ, ◌+◌, ◌-◌, ◌≤◌, Bool, true, false, cond, ◌==◌, ltb, List, [], ◌∷◌, map, length, take, Ok, Err, Result, refl, ap, arith, length-take}
use Rattle.std.proofs.lemmas.List.{length-map}
use Rattle.std.proofs.lemmas.Bool.{ltb-false}
use Rattle.std.proofs.lemmas.List.Splits.{length-slice_split}
use Rattle.std.proofs.lemmas.List.Sums.{count_by-le-length}
use Rattle.fields.specs.Cut.{pieces}
use Rattle.fields.specs.Places.{body, fed}
use Rattle.script.specs.Calls.{call_in}
use Rattle.script.specs.Faults.{then}
use Rattle.script.specs.Scripts.{Reading, lines_read, script_in}
use Rattle.script.specs.Setups.{setup_in}
use Rattle.script.specs.declared.faults.Fault.{Fault}
use Rattle.script.specs.declared.faults.Fault.TheVariants.{Length}
use Rattle.script.specs.declared.setups.Setup.{Setup}
use Rattle.replays.specs.Output.{LineRead}

-- one line more than there are line feeds
pieces_few : (m : ℕ) (xs : List ℕ) → length (pieces m xs) ≤ length xs + 1
pieces_few m xs = omega (arith, length-slice_split (λ x. x == m) xs, count_by-le-length (λ x. x == m) xs)

body_short : (s : List ℕ) → length (body s) ≤ length s
body_short s = go (fed s)
  where
    go : (b : Bool) → length (cond b (take (length s - 1) s) s) ≤ length s
    go true = omega (arith, length-take (length s - 1) s)
    go false = omega arith

read_few : (ls : List (List ℕ)) (setup : Setup) (lines : List LineRead) → lines_read ls ≡ Ok (setup, lines) → length lines + 1 ≤ length ls
read_few [] setup lines e = let z : ◌≡◌ {A = ℕ} 0 1 = cc in absurd (omega arith)
read_few (first ∷ others) setup lines e = go (setup_in first) e
  where
    go : (r : Result Setup Fault) → then {Y = Reading} r (λ setup. Ok (setup, map call_in others)) ≡ Ok (setup, lines) → length lines + 1 ≤ length (first ∷ others)
    go (Ok s) e = let same : map call_in others ≡ lines = ap (λ (r : Result Reading Fault). elim r [ Ok p ↦ p.1 | Err f ↦ [] ]) e in omega (arith, ap length same, length-map others call_in)
    go (Err f) e = let z : ◌≡◌ {A = ℕ} 0 1 = cc in absurd (omega arith)

pub few_lines : (s : List ℕ) (setup : Setup) (lines : List LineRead) → script_in s ≡ Ok (setup, lines) → length lines ≤ 32768
few_lines s setup lines e = go (ltb 32768 (length s)) refl e
  where
    go : (b : Bool) → ltb 32768 (length s) ≡ b → cond b (Err Length) (lines_read (pieces 10 (body s))) ≡ Ok (setup, lines) → length lines ≤ 32768
    go true long e = let z : ◌≡◌ {A = ℕ} 0 1 = cc in absurd (omega arith)
    go false short e = omega (arith, ltb-false 32768 (length s) short, body_short s, pieces_few 10 (body s), read_few (pieces 10 (body s)) setup lines e)
