-- Where a job runs, one that runs waits for none.
use Rattle.std.proofs.Common.{◌≡◌, ℕ, suc, ◌<◌, ◌≤◌, true, false, eqb, List, [], ◌∷◌, length, get_or, Some, None, Option, sym, refl, ap, ◌∙◌, subst, inl, inr, arith}
use Rattle.std.specs.Prelude.{is_some, MatchOption}
use Rattle.std.proofs.lemmas.List.{get_or_past}
use Rattle.std.proofs.lemmas.Bool.{cases_lt, cases_Bool, eqb-true, eq-eqb, both_ways, false≢true, and_parts, and_from}
use Rattle.protocol.specs.declared.holdings.Holding.{Holding}
use Rattle.protocol.specs.declared.jobs.Job.{Job}
use Rattle.protocol.specs.Holdings.{waits}
use Rattle.protocol.specs.Lists.{In}
use Rattle.protocol.specs.Model.{Model, job_at}
use Rattle.protocol.specs.Places.{has}
use Rattle.protocol.specs.Ranks.{Acyclic, Ringless}
use Rattle.protocol.proofs.Ranks.{free}
use Rattle.protocol.proofs.Membership.{none_in}
use Rattle.protocol.proofs.Waiting.{why_waits}
use Rattle.tables.specs.Within.{Within, count, room, job_of_holding}
use Rattle.tables.proofs.Counts.{count_named, count_cons}
use Rattle.book.specs.Ready.{is_free, Ready}
use Rattle.book.proofs.Places.{within_placed, placed_in}

-- a holding is counted at its job
counted : (hs : List Holding) (h : Holding) → In h hs → 1 ≤ count job_of_holding h.job hs
counted [] h i = absurd i
counted (g ∷ hs) h (inl e) = subst (λ (x : Holding). 1 ≤ count job_of_holding x.job (g ∷ hs)) e (omega (arith, count_named job_of_holding g hs))
counted (g ∷ hs) h (inr i) = omega (arith, counted hs h i, count_cons job_of_holding h.job g hs)

room_some : (j : Option Job) → 1 ≤ room 8 j → is_some j ≡ true
room_some None l = absurd (omega arith)
room_some (Some j) l = refl

-- so its job runs
holder_runs : (jobs : List (Option Job)) (hs : List Holding) → Within 8 job_of_holding jobs hs → (h : Holding) → In h hs → is_some (get_or jobs h.job None) ≡ true
holder_runs jobs hs w h i = room_some (get_or jobs h.job None) (omega (arith, w h.job, counted hs h i))

module _ (m : Model) (long : length m.jobs ≡ 16) (w : Within 8 job_of_holding m.jobs m.holdings) (ringless : Ringless m.holdings) where
  ready_here : (p : ℕ) → is_free m p ≡ true → Ready m (Some p)
  ready_here p e =
      let b = and_parts (is_some (job_at m p)) (eqb (waits m.holdings p) 0) e in
      (b.0, λ k v. none_in k (subst (λ n. has n k ≡ true) (eqb-true (waits m.holdings p) 0 b.1) (why_waits m.holdings p k v)))

  none_runs : ((q : ℕ) → q < 16 → is_free m q ≡ false) → (p : ℕ) → is_some (job_at m p) ≡ true → ⊥
  none_runs f p run = ringless (λ c. go c)
    where
      small : (q : ℕ) → is_some (job_at m q) ≡ true → q < 16
      small q r = elim (cases_lt q 16) [ inl l ↦ l | inr l ↦ absurd (false≢true (sym (ap is_some (get_or_past m.jobs q None (omega (arith, long, l)))) ∙ r)) ]

      stuck : (q : ℕ) → is_some (job_at m q) ≡ true → waits m.holdings q ≡ 0 → ⊥
      stuck q r z = both_ways (is_free m q) (f q (small q r)) (and_from (is_some (job_at m q)) (eqb (waits m.holdings q) 0) r (eq-eqb (waits m.holdings q) 0 z))

      go : Acyclic m.holdings → ⊥
      go c =
          let x = free m.holdings (placed_in m.holdings (within_placed m.jobs m.holdings long w)) c (suc (c.rank p)) p (omega arith) in
          elim x.2 [
            | inl e ↦ stuck x.0 (ap (λ q. is_some (job_at m q)) e ∙ run) x.1
            | inr h ↦ stuck x.0 (ap (λ q. is_some (job_at m q)) (sym h.2) ∙ holder_runs m.jobs m.holdings w h.0 h.1) x.1
          ]

  ready_none : ((q : ℕ) → q < 16 → is_free m q ≡ false) → Ready m None
  ready_none f = λ p. elim (cases_Bool (is_some (job_at m p))) [ inl r ↦ absurd (none_runs f p r) | inr r ↦ r ]

  -- what a search of the places found
  pub ready_is : (r : Option ℕ) → MatchOption r ((q : ℕ) → 0 ≤ q → q < 16 → is_free m q ≡ false) (λ p. (0 ≤ p) × (p < 16) × (is_free m p ≡ true) × ((q : ℕ) → 0 ≤ q → q < p → is_free m q ≡ false)) → Ready m r
  ready_is None f = ready_none (λ q l. f q (omega arith) l)
  ready_is (Some p) f = ready_here p f.2
