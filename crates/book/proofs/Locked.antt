-- A book after a lock: its tables keep to their room, and it is what the model leaves.
use Rattle.std.proofs.Common.{◌≡◌, ℕ, ◌+◌, ◌<◌, ◌≤◌, true, not, List, [], ◌∷◌, ◌++◌, length, Some, None, Option, Result, refl, ap, ◌∙◌, ap₂, arith}
use Rattle.std.specs.Prelude.{is_some, filter}
use Rattle.std.specs.Result.{IsOk}
use Rattle.std.proofs.lemmas.List.{length_push, length-append}
use Rattle.terms.specs.declared.calls.Call.TheVariants.{Lock}
use Rattle.protocol.specs.declared.assumptions.Execution.{Execution}
use Rattle.protocol.specs.declared.holdings.Holding.{Holding}
use Rattle.protocol.specs.declared.jobs.Job.{Job}
use Rattle.terms.specs.declared.modes.Mode.{Mode}
use Rattle.protocol.specs.Holdings.{locked}
use Rattle.protocol.specs.Model.{Model, names, holding_count, job_at}
use Rattle.protocol.specs.Pairing.{kept_pairs, pairing, offers}
use Rattle.protocol.specs.Ranks.{Ringless}
use Rattle.protocol.specs.Step.{answer, next}
use Rattle.tables.specs.Items.{Added as Put}
use Rattle.book.proofs.Adding.{with_room, room_ok}
use Rattle.book.proofs.Locking.{Taken, taken}
use Rattle.book.proofs.Ringless.{ringless_pushed}
use Rattle.terms.specs.Rule.{Rule}
use Rattle.tables.specs.Within.{Within, count, job_of_execution, job_of_holding}
use Rattle.tables.proofs.Counts.{count_one, count_others}
use Rattle.tables.proofs.Rooms.{within_few, within_filter, within_join}
use Rattle.book.proofs.Places.{within_placed, placed_in, pairs_named}

pub the_some : {A : Type 0} (o : Option A) → is_some o ≡ true → (x : A) × (o ≡ Some x)
the_some None e = let z : ◌≡◌ {A = ℕ} 0 1 = cc in absurd (omega arith)
the_some (Some x) e = (x, refl)

module _ (r : Rule) (m : Model) (p o : ℕ) (mode : Mode) (j : Job) (runs : job_at m p ≡ Some j) where
  pub holdings_fit : Within 8 job_of_holding m.jobs m.holdings → holding_count m p < 8 → Within 8 job_of_holding m.jobs (m.holdings ++ locked p o mode ∷ [])
  holdings_fit w free = within_join 8 job_of_holding m.jobs m.holdings w (locked p o mode ∷ []) p j runs (λ q ne. count_one job_of_holding q (locked p o mode) ne) (omega arith)

  paired_named : (q : ℕ) → (q ≡ p → ⊥) → count job_of_execution q (kept_pairs r m p o mode) ≤ 0
  unfolding kept_pairs
  paired_named q ne = pairs_named m.robustness (pairing r m p o mode) (λ e x. refl) p q ne (offers m o) m.executions

  pub executions_fit : Within 16 job_of_execution m.jobs m.executions → length (kept_pairs r m p o mode) ≤ 16
      → Within 16 job_of_execution m.jobs (filter (λ e. not (names p e)) m.executions ++ kept_pairs r m p o mode)
  executions_fit w few =
      within_join 16 job_of_execution m.jobs (filter (λ e. not (names p e)) m.executions)
      (within_filter 16 job_of_execution m.jobs m.executions w (λ e. not (names p e))) (kept_pairs r m p o mode) p j runs paired_named
      (omega (arith, count_others job_of_execution p m.executions))

  module _ (long : length m.jobs ≡ 16) where
    pub holdings_few : Within 8 job_of_holding m.jobs m.holdings → holding_count m p < 8 → length m.holdings < 128
    holdings_few w free = omega (arith, within_few 8 job_of_holding m.jobs (m.holdings ++ locked p o mode ∷ []) (holdings_fit w free) long, length_push m.holdings (locked p o mode))

    pub executions_few : Within 16 job_of_execution m.jobs m.executions → length (kept_pairs r m p o mode) ≤ 16
        → length (filter (λ e. not (names p e)) m.executions) + length (kept_pairs r m p o mode) ≤ 256
    executions_few w few =
        let es = filter (λ e. not (names p e)) m.executions in
        omega (arith, within_few 16 job_of_execution m.jobs (es ++ kept_pairs r m p o mode) (executions_fit w few) long, length-append es (kept_pairs r m p o mode))

pub locked_is : (r : Rule) (m : Model) (p o : ℕ) (mode : Mode) (hs : List Holding) (es : List Execution)
    → hs ≡ m.holdings ++ locked p o mode ∷ [] → es ≡ filter (λ e. not (names p e)) m.executions ++ kept_pairs r m p o mode
    → ◌≡◌ {A = Model} (record { robustness = m.robustness; limit = m.limit; values = m.values; jobs = m.jobs; holdings = hs; executions = es; versions = m.versions }) (next r m (Lock p o mode))
unfolding next
locked_is r m p o mode hs es b c =
    ap₂ (λ hs es. record { robustness = m.robustness; limit = m.limit; values = m.values; jobs = m.jobs; holdings = hs; executions = es; versions = m.versions }) b c

-- the tables after an accepted lock
module _ (r : Rule) (m : Model) (p o : ℕ) (mode : Mode) (long : length m.jobs ≡ 16) (limited : m.limit ≤ 16)
    (hw : Within 8 job_of_holding m.jobs m.holdings) (ew : Within 16 job_of_execution m.jobs m.executions) (ok : answer r m (Lock p o mode) ≡ None) where
  t : Taken r m p o mode
  t = taken r m p o mode ok

  j : Job
  j = (the_some (job_at m p) t.runs).0

  runs : job_at m p ≡ Some j
  unfolding j
  runs = (the_some (job_at m p) t.runs).1

  few : length (kept_pairs r m p o mode) ≤ 16
  few = omega (arith, t.few, limited)

  pub lock_holdings : {V E : Type 0} (new : Holding) (after : List Holding) (result : Result V E) → new ≡ locked p o mode → Put 128 m.holdings (new ∷ []) after result → after ≡ m.holdings ++ locked p o mode ∷ []
  lock_holdings new after result is put =
      with_room 128 m.holdings (new ∷ []) after result put (omega (arith, holdings_few r m p o mode j runs long hw t.free)) ∙ ap (λ h. m.holdings ++ h ∷ []) is

  pub lock_holds : {V E : Type 0} (new : Holding) (after : List Holding) (result : Result V E) → Put 128 m.holdings (new ∷ []) after result → IsOk result
  lock_holds new after result put = room_ok 128 m.holdings (new ∷ []) after result put (omega (arith, holdings_few r m p o mode j runs long hw t.free))

  pub lock_adds : {V E : Type 0} (left found after : List Execution) (result : Result V E) → left ≡ filter (λ e. not (names p e)) m.executions → found ≡ kept_pairs r m p o mode → Put 256 left found after result → IsOk result
  lock_adds left found after result a b put = room_ok 256 left found after result put (omega (arith, ap length a, ap length b, executions_few r m p o mode j runs long ew few))

  pub lock_executions : {V E : Type 0} (left found after : List Execution) (result : Result V E) → left ≡ filter (λ e. not (names p e)) m.executions → found ≡ kept_pairs r m p o mode
      → Put 256 left found after result → after ≡ filter (λ e. not (names p e)) m.executions ++ kept_pairs r m p o mode
  lock_executions left found after result a b put =
      with_room 256 left found after result put (omega (arith, ap length a, ap length b, executions_few r m p o mode j runs long ew few)) ∙ ap₂ ◌++◌ a b

  pub lock_holdings_fit : Within 8 job_of_holding m.jobs (m.holdings ++ locked p o mode ∷ [])
  lock_holdings_fit = holdings_fit r m p o mode j runs hw t.free

  pub lock_executions_fit : Within 16 job_of_execution m.jobs (filter (λ e. not (names p e)) m.executions ++ kept_pairs r m p o mode)
  lock_executions_fit = executions_fit r m p o mode j runs ew few

  pub lock_ringless : (gs : List Holding) → gs ≡ m.holdings ++ locked p o mode ∷ [] → Ringless m.holdings → Ringless gs
  lock_ringless gs is old = ringless_pushed m.holdings (locked p o mode) gs is (placed_in m.holdings (within_placed m.jobs m.holdings long hw)) t.ring old
