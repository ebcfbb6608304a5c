-- Packs that are written as text are read back.
use Rattle.std.proofs.Common.{◌≡◌, ℕ, ◌+◌, ◌^◌, ◌<◌, ◌≤◌, true, ◌&&◌, eqb, leb, List, [], ◌∷◌, ◌++◌, length, Some, Ok, decimal, sym, refl, ap, ◌∙◌, append_assoc, append-nil, arith, length-append}
use Rattle.std.proofs.lemmas.Fmt.{digits_decimal, digits_value-decimal, decimal_nonempty}
use Rattle.std.proofs.lemmas.Bool.{and_parts, leb-true, ne_eqb, cond-false}
use Rattle.std.specs.List.{AllByRecursion}
use Rattle.planner.specs.Numbers.{digits, number_of}
use Rattle.planner.specs.Packs.{before_feed, after_feed, lines_of, packs_after}
use Rattle.planner.specs.PackLaws.{written, ReadsBack}
use Rattle.planner.proofs.Digits.{own, number_told}
use Rattle.planner.proofs.Cuts.{before_cons, after_cons}
use Rattle.planner.proofs.Turns.{pack_read, text_ends}

number_decimal : (n : ℕ) → n < 2 ^ 64 → Some n ≡ number_of (decimal n)
number_decimal n h =
    let value = digits_value-decimal own n h in
    ap Some (sym value) ∙ number_told (decimal n) (digits_decimal own n h, decimal_nonempty n h, omega arith)

-- digits are no line feeds
cut_digits : (ds rest : List ℕ) → digits ds ≡ true → (before_feed (ds ++ (10 ∷ rest)) ≡ ds) × (after_feed (ds ++ (10 ∷ rest)) ≡ rest)
cut_digits [] rest all = (refl, refl)
cut_digits (d ∷ ds) rest all =
    let parts = and_parts (leb 48 d && leb d 57) (digits ds) all in
    let low = leb-true 48 d (and_parts (leb 48 d) (leb d 57) parts.0).0 in
    let ih = cut_digits ds rest parts.1 in
    let off = ne_eqb d 10 (λ e. omega arith) in (
      before_cons d (ds ++ (10 ∷ rest)) ∙ cond-false (eqb d 10) [] (d ∷ before_feed (ds ++ (10 ∷ rest))) off ∙ ap (λ l. d ∷ l) ih.0,
      after_cons d (ds ++ (10 ∷ rest)) ∙ cond-false (eqb d 10) (ds ++ (10 ∷ rest)) (after_feed (ds ++ (10 ∷ rest))) off ∙ ih.1,
    )

back : (read packs : List ℕ) → AllByRecursion (λ pack. pack < 2 ^ 64) packs → length read + length packs ≤ 65536 → packs_after read (lines_of (written packs)) ≡ Ok (read ++ packs)
back read [] small room = text_ends read [] refl ∙ ap Ok (sym (append-nil read))
back read (pack ∷ rest) small room =
    let text : List ℕ = decimal pack ++ (10 ∷ written rest) in
    let cut = cut_digits (decimal pack) (written rest) (digits_decimal own pack small.0) in
    let some : 0 < length text = omega (arith, length-append (decimal pack) (10 ∷ written rest)) in
    let more : length (read ++ pack ∷ []) + length rest ≤ 65536 = omega (arith, length-append read (pack ∷ [])) in
    ap (λ l. packs_after read (lines_of l)) (append_assoc (decimal pack) (10 ∷ []) (written rest))
    ∙ pack_read read text some pack (omega arith) (number_decimal pack small.0 ∙ ap number_of (sym cut.0))
    ∙ ap (λ l. packs_after (read ++ pack ∷ []) (lines_of l)) cut.1
    ∙ back (read ++ pack ∷ []) rest small.1 more
    ∙ ap Ok (append_assoc read (pack ∷ []) rest)

pub reads_back : ReadsBack 65536
reads_back packs small room = back [] packs small (omega arith)
