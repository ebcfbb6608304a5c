-- One line more of the packs.
use Rattle.std.proofs.Common.{◌≡◌, ℕ, ◌+◌, ◌<◌, ◌≤◌, ltb, List, [], ◌∷◌, ◌++◌, length, Some, None, Ok, Err, sym, refl, ap, ◌∙◌, arith}
use Rattle.std.proofs.lemmas.Bool.{lt-ltb, le-ltb, cond-true, cond-false}
use Rattle.planner.specs.declared.faults.Fault.TheVariants.{NoNumber, TooMany}
use Rattle.planner.specs.Numbers.{number_of}
use Rattle.planner.specs.Packs.{by_number, before_feed, after_feed, lines_of, packs_after}
use Rattle.planner.proofs.Cuts.{first_line}

module _ (read text : List ℕ) (some : 0 < length text) where
  turn : packs_after read (lines_of text) ≡ packs_after read (before_feed text ∷ lines_of (after_feed text))
  turn = ap (packs_after read) (first_line text some)

  pub pack_read : (pack : ℕ) → length read < 65536 → Some pack ≡ number_of (before_feed text) → packs_after read (lines_of text) ≡ packs_after (read ++ pack ∷ []) (lines_of (after_feed text))
  unfolding packs_after
  pack_read pack room e =
      turn ∙ cond-true (ltb (length read) 65536) _ _ (lt-ltb (length read) 65536 room)
      ∙ ap (λ o. by_number o (Err (NoNumber (length read + 1))) (λ pack. packs_after (read ++ pack ∷ []) (lines_of (after_feed text)))) (sym e)

  pub no_pack : length read < 65536 → None ≡ number_of (before_feed text) → packs_after read (lines_of text) ≡ Err (NoNumber (length read + 1))
  unfolding packs_after
  no_pack room e =
      turn ∙ cond-true (ltb (length read) 65536) _ _ (lt-ltb (length read) 65536 room)
      ∙ ap (λ o. by_number o (Err (NoNumber (length read + 1))) (λ pack. packs_after (read ++ pack ∷ []) (lines_of (after_feed text)))) (sym e)

  pub one_too_many : 65536 ≤ length read → packs_after read (lines_of text) ≡ Err (TooMany (length read + 1))
  unfolding packs_after
  one_too_many full = turn ∙ cond-false (ltb (length read) 65536) _ _ (le-ltb (length read) 65536 full)

pub text_ends : (read text : List ℕ) → length text ≡ 0 → packs_after read (lines_of text) ≡ Ok read
unfolding packs_after lines_of
text_ends read [] e = refl
text_ends read (x ∷ xs) e = absurd (omega arith)
