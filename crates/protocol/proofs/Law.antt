-- The law of the book, from the invariant beside the plain run and the history.
use Rattle.std.proofs.Common.{◌≡◌, ℕ, true, false, cond, eqb, List, [], ◌∷◌, ◌++◌, map, get_or, set, Some, None, Option, sym, refl, ap, ◌∙◌, inl, inr, arith}
use Rattle.std.specs.Prelude.{is_some, filter}
use Rattle.std.proofs.lemmas.Bool.{false≢true, true≢false}
use Rattle.protocol.specs.declared.holdings.Holding.{Holding}
use Rattle.terms.specs.declared.calls.Call.{Call}
use Rattle.terms.specs.declared.calls.Call.TheVariants.{Begin, Lock, Image, Commit, Abort}
use Rattle.protocol.specs.declared.refusals.Refusal.{Refusal}
use Rattle.protocol.specs.History.{History, history_one, history, blank, has_ended, aborts}
use Rattle.protocol.specs.Holdings.{begins, waits}
use Rattle.protocol.specs.Law.{Stands}
use Rattle.protocol.specs.Model.{job_at, Model, new}
use Rattle.protocol.specs.Past.{past}
use Rattle.protocol.specs.PlainRun.{Plain, plain_one, plain}
use Rattle.protocol.specs.Settling.{settle}
use Rattle.protocol.specs.Step.{next, answer, step, run}
use Rattle.terms.specs.Rule.{Rule}
use Rattle.protocol.specs.declared.jobs.Ending.TheVariants.{Committed, Aborted}
use Rattle.protocol.specs.Waiting.{WaitsFor}
use Rattle.protocol.proofs.Running.{Runs, nobody_at, nobody_runs, set_runs}
use Rattle.protocol.proofs.Consistent.{assumes_none}
use Rattle.protocol.proofs.Membership.{none_in}
use Rattle.protocol.proofs.WellFormed.{WellFormed, runs_small}
use Rattle.protocol.proofs.Waiting.{why_waits}
use Rattle.protocol.proofs.Accepted.{begin_accepted, lock_accepted, commit_accepted, abort_accepted}
use Rattle.protocol.proofs.Covered.{Covered, covered_new, covered_begin, covered_image, one_execution, reset}
use Rattle.protocol.proofs.CoveredLock.{covered_lock}
use Rattle.protocol.proofs.CoveredEnd.{covered_settle}
use Rattle.protocol.proofs.HistoryByPlace.{ByPlace, all_ended, by_place_begin, by_place_lock, by_place_end}
use Rattle.protocol.proofs.Invariant.{Invariant, invariant_new, invariant_next, free_job}

-- the book m, the plain run s and the history h of the same past
pub record LawInvariant (r : Rule) (m : Model) (s : Plain) (h : History) : Type 0 where
  pub invariant : Invariant r m s
  -- the history has the book's holdings
  pub holdings : h.holdings ≡ m.holdings
  -- and its running jobs
  pub running : (p : ℕ) → h.runs p ≡ is_some (job_at m p)
  -- the running jobs on which each relies
  pub rel : ℕ → ℕ
  -- and how many on which it relied have aborted
  pub gone : ℕ → ℕ
  pub covered : Covered m rel gone
  pub by_place : ByPlace m.jobs h rel gone

pub law_new : (r : Rule) (x l : ℕ) (first : List ℕ) → LawInvariant r (new x l first) (record { values = first; pending = [] }) blank
unfolding new has_ended
law_new r x l first = record {
  invariant = invariant_new r x l first;
  holdings = refl;
  running = λ p. sym (nobody_at 16 p);
  rel = λ q. 0;
  gone = λ q. 0;
  covered = covered_new x l first (nobody_runs 16);
  by_place = record { known = λ p k run. absurd (nobody_runs 16 p run); alive = λ p run. refl; apart = λ p q run. absurd (nobody_runs 16 p run); older = λ p run. absurd (nobody_runs 16 p run); past = λ x e. absurd (false≢true e); count = λ p run. omega arith };
}

ended_running : (m : Model) (h : History) (k : ℕ) → Runs m k → WellFormed m → ((q : ℕ) → h.runs q ≡ is_some (job_at m q)) → (q : ℕ) → cond (eqb q k) false (h.runs q) ≡ is_some (get_or (set m.jobs k None) q None)
ended_running m h k run sh f q = ap (cond (eqb q k) false) (f q) ∙ sym (set_runs m.jobs k q None (omega (arith, runs_small m sh k run, sh.places)))

-- an accepted call keeps it
law_next : (r : Rule) (m : Model) (s : Plain) (h : History) (c : Call) → answer r m c ≡ None → LawInvariant r m s h → LawInvariant r (next r m c) (plain_one r s c) (history_one h c)
unfolding next settle aborts
law_next r m s h (Begin p k a) e i =
    let b = begin_accepted r m p k a e in
    record {
      invariant = invariant_next r m s (Begin p k a) e i.invariant;
      holdings = i.holdings;
      running = λ q. ap (cond (eqb q p) true) (i.running q) ∙ sym (set_runs m.jobs p q (Some (record { kind = k; argument = a })) (omega (arith, b.small, i.invariant.well_formed.places)));
      rel = reset p i.rel;
      gone = reset p i.gone;
      covered = covered_begin r m p k a i.rel i.gone b i.invariant.well_formed i.covered;
      by_place = by_place_begin m h i.rel i.gone p (record { kind = k; argument = a }) k a b.idle i.covered i.by_place;
    }
law_next r m s h (Lock p o mode) e i =
    let j = invariant_next r m s (Lock p o mode) e i.invariant in
    let b = lock_accepted r m p o mode e in
    record {
      invariant = j;
      holdings = ap (λ hs. hs ++ record { job = p; object = o; state = begins mode } ∷ []) i.holdings;
      running = i.running;
      rel = _;
      gone = i.gone;
      covered = covered_lock r m s p o mode i.rel i.gone b i.invariant.well_formed i.invariant.consistent i.invariant.faithful i.covered j.acyclic;
      by_place = by_place_lock m h i.rel i.gone p o mode b.runs i.invariant.well_formed i.holdings i.covered i.by_place;
    }
law_next r m s h (Image p o) e i = record {
  invariant = invariant_next r m s (Image p o) e i.invariant;
  holdings = ap (map _) i.holdings;
  running = i.running;
  rel = i.rel;
  gone = i.gone;
  covered = covered_image r m p o i.rel i.gone i.covered;
  by_place = record { known = i.by_place.known; alive = i.by_place.alive; apart = i.by_place.apart; older = i.by_place.older; past = i.by_place.past; count = i.by_place.count };
}
law_next r m s h (Commit p) e i =
    let b = commit_accepted r m p e in
    record {
      invariant = invariant_next r m s (Commit p) e i.invariant;
      holdings = ap (filter _) i.holdings;
      running = ended_running m h p b.runs i.invariant.well_formed i.running;
      rel = _;
      gone = _;
      covered = covered_settle Committed p _ m i.rel i.gone i.invariant.well_formed b.runs i.covered (λ ab _. (
        b.some.0,
        b.some.1,
        b.some.2,
        let none = assumes_none m i.invariant.consistent p b.free b.some.0 b.some.1 b.some.2 in
            record { on_commits = λ k c. absurd (none k (inl c)); on_aborts = λ k c. absurd (none k (inr c)) },
      ));
      by_place = by_place_end m h i.rel i.gone Committed p b.runs i.invariant.well_formed i.by_place;
    }
law_next r m s h (Abort p) e i =
    let b = abort_accepted r m p e in
    record {
      invariant = invariant_next r m s (Abort p) e i.invariant;
      holdings = ap (filter _) i.holdings;
      running = ended_running m h p b i.invariant.well_formed i.running;
      rel = _;
      gone = _;
      covered = covered_settle Aborted p _ m i.rel i.gone i.invariant.well_formed b i.covered (λ ab z. absurd (true≢false z));
      by_place = by_place_end m h i.rel i.gone Aborted p b i.invariant.well_formed i.by_place;
    }

-- and so does every list of calls
pub law_run : (r : Rule) (m : Model) (s : Plain) (h : History) (cs : List Call) → LawInvariant r m s h → LawInvariant r (run r m cs) (plain r s (past r m cs)) (history h (past r m cs))
unfolding run past plain history step
law_run r m s h [] i = i
law_run r m s h (c ∷ cs) i = go (answer r m c) refl (λ m s h. law_run r m s h cs)
  where
    go : (a : Option Refusal) → answer r m c ≡ a → ((m : Model) (s : Plain) (h : History) → LawInvariant r m s h → LawInvariant r (run r m cs) (plain r s (past r m cs)) (history h (past r m cs)))
        → LawInvariant r (run r (elim a [ None ↦ next r m c | Some x ↦ m ]) cs)
        (elim a as (λ _. Plain) [ None ↦ plain r (plain_one r s c) (past r (elim a [ None ↦ next r m c | Some x ↦ m ]) cs) | Some x ↦ plain r s (past r (elim a [ None ↦ next r m c | Some x ↦ m ]) cs) ])
        (elim a as (λ _. History) [ None ↦ history (history_one h c) (past r (elim a [ None ↦ next r m c | Some x ↦ m ]) cs) | Some x ↦ history h (past r (elim a [ None ↦ next r m c | Some x ↦ m ]) cs) ])
    go None e rec = rec (next r m c) (plain_one r s c) (history_one h c) (law_next r m s h c e i)
    go (Some x) e rec = rec m s h i

-- no call changes the robustness
same_robustness : (r : Rule) (m : Model) (cs : List Call) → (run r m cs).robustness ≡ m.robustness
unfolding run step next settle
same_robustness r m [] = refl
same_robustness r m (c ∷ cs) = same_robustness r (step r m c) cs ∙ go (answer r m c) c
  where
    go : (a : Option Refusal) (c : Call) → (elim a as (λ _. Model) [ None ↦ next r m c | Some x ↦ m ]).robustness ≡ m.robustness
    go None (Begin p k a) = refl
    go None (Lock p o mode) = refl
    go None (Image p o) = refl
    go None (Commit p) = refl
    go None (Abort p) = refl
    go (Some x) c = refl

none_waits : (hs gs : List Holding) (q : ℕ) → hs ≡ gs → waits gs q ≡ 0 → (k : ℕ) → WaitsFor hs q k → ⊥
none_waits hs gs q e z k w = none_in k (grind (arith, e, z, why_waits hs q k w))

pub law : Stands
unfolding new
law r x l first cs =
    let i = law_run r (new x l first) (record { values = first; pending = [] }) blank cs (law_new r x l first) in
    let m = run r (new x l first) cs in
    let h = history blank (past r (new x l first) cs) in
    record {
      same = i.invariant.faithful.values;
      one = λ j run all few.
          let runs : Runs m j = sym (i.running j) ∙ run in
          one_execution m i.rel i.gone i.invariant.consistent i.covered j runs (all_ended m h i.rel i.gone i.by_place i.covered j runs all) (omega (arith, few, i.by_place.count j runs, same_robustness r (new x l first) cs));
      free = λ j run.
          let f = free_job r m _ i.invariant j (sym (i.running j) ∙ run) in
          (f.0, i.running f.0 ∙ f.1, none_waits h.holdings m.holdings f.0 i.holdings f.2);
    }
