-- What writes leave of a table of N records, of which the first `count` are in use and the rest are empty.
use Rattle.std.proofs.Common.{◌≡◌, ℕ, ◌+◌, ◌-◌, ◌≤◌, List, ◌++◌, length, drop, replicate, sym, ap, ◌∙◌, ap₂, arith}
use Rattle.std.proofs.lemmas.List.{append_assoc, drop_at, drop-drop, drop-replicate, length-append, length-replicate, length-take-le, replicate-append-replicate}
use Rattle.tables.specs.declared.table.Table.{Table}
use Rattle.tables.specs.Ended.{Compacted}
use Rattle.tables.specs.Items.{items}

-- ys is the array of a table of N with r in use
pub record Holds {T : Type 0} (N : ℕ) (e : T) (ys : List T) (r : ℕ) : Type 0 where
  pub within : r ≤ N
  pub long : length ys ≡ N
  pub rest : drop r ys ≡ replicate (N - r) e

module _ {T : Type 0} {N : ℕ} (t : Table T N) where
  pub rest_from : (n : ℕ) → t.count ≤ n → drop n t.records ≡ replicate (N - n) t.empty
  rest_from n l =
      let on : t.count + (n - t.count) ≡ n = omega arith in
      let less : N - t.count - (n - t.count) ≡ N - n = omega arith in
      sym (drop-drop (n - t.count) t.count t.records ∙ ap (λ k. drop k t.records) on) ∙ ap (drop (n - t.count)) t.rest
      ∙ drop-replicate (n - t.count) (N - t.count) t.empty ∙ ap (λ k. replicate k t.empty) less

  -- those in use become r others, and the places behind them are emptied
  module _ {us zs : List T} {r : ℕ} (c : Compacted t.empty us (items t) r zs) (same : length zs ≡ length (items t)) where
    used : length (items t) ≡ t.count
    used = length-take-le t.count t.records (omega (arith, t.within, t.long))

    part : zs ≡ us ++ replicate (t.count - r) t.empty
    part = c.after ∙ ap₂ (λ a b. us ++ replicate (a - b) t.empty) used (sym c.left)

    fewer : r ≤ t.count
    fewer = omega (arith, same ∙ used, ap length part ∙ length-append us (replicate (t.count - r) t.empty), c.left)

    whole : zs ++ drop t.count t.records ≡ us ++ replicate (N - r) t.empty
    whole =
        let sum : t.count - r + (N - t.count) ≡ N - r = omega (arith, fewer, t.within) in
        ap₂ ◌++◌ part t.rest ∙ append_assoc us (replicate (t.count - r) t.empty) (replicate (N - t.count) t.empty)
        ∙ ap (λ l. us ++ l) (replicate-append-replicate (t.count - r) (N - t.count) t.empty ∙ ap (λ k. replicate k t.empty) sum)

    pub shrunk : Holds N t.empty (zs ++ drop t.count t.records) r
    shrunk = record {
      within = omega (arith, fewer, t.within);
      long = omega (arith, fewer, t.within, ap length whole ∙ length-append us (replicate (N - r) t.empty), length-replicate (N - r) t.empty, c.left);
      rest = ap (drop r) whole ∙ drop_at us (replicate (N - r) t.empty) r (sym c.left);
    }
