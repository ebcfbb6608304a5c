-- The history names jobs by the number of their begin, the book by place: both say the same of the running jobs.
-- Words: `History` of specs/History; `rel`, `gone` as `relied`, `gone` in Covered.
use Rattle.std.proofs.Common.{◌≡◌, ℕ, ◌+◌, ◌<◌, ◌≤◌, Bool, true, false, cond, not, ◌&&◌, eqb, ◌⊎◌, List, [], ◌∷◌, ◌++◌, length, set, Some, None, Option, sym, refl, ap, ◌∙◌, subst, inl, inr, arith}
use Rattle.std.specs.Prelude.{flat_map, filter}
use Rattle.std.proofs.lemmas.List.Folds.{list_any-append}
use Rattle.std.proofs.lemmas.Grind.{common_steps}
use Rattle.std.proofs.lemmas.List.Elements.{filter-append}
use Rattle.std.proofs.lemmas.Bool.{or_left}
use Rattle.std.proofs.lemmas.Grind.{common_steps}
use Rattle.std.proofs.lemmas.List.Elements.{filter-append}
use Rattle.std.proofs.lemmas.Bool.{both_ways, cases_eq, eqb-true, eq-eqb, ne_eqb, and_parts, and_from, cond-true, cond-false}
use Rattle.terms.specs.declared.modes.Mode.{Mode}
use Rattle.protocol.specs.declared.holdings.Holding.{Holding}
use Rattle.protocol.specs.declared.jobs.Job.{Job}
use Rattle.terms.specs.declared.calls.Call.TheVariants.{Begin, Lock}
use Rattle.protocol.specs.History.{Rely, Ended, History, is_aborted, relies_on, has_ended, aborts, gains, ends, history_one}
use Rattle.protocol.specs.Holdings.{makes, makers, spread}
use Rattle.protocol.specs.Lists.{In}
use Rattle.protocol.specs.Model.{Model}
use Rattle.protocol.specs.Places.{has, single, join, without}
use Rattle.protocol.specs.declared.jobs.Ending.{Ending}
use Rattle.protocol.proofs.Running.{Runs, RunsIn, ended_runs, ran_before}
use Rattle.protocol.proofs.Filters.{filter_more}
use Rattle.protocol.proofs.Membership.{join_cases, in_without_one, none_in}
use Rattle.protocol.proofs.Lists.{filter_in, any_in, in_any, append_right, map_in, each_in}
use Rattle.protocol.proofs.Reach.{spread_why}
use Rattle.protocol.proofs.Makers.{makers_why}
use Rattle.protocol.proofs.WellFormed.{WellFormed, runs_small}
use Rattle.protocol.proofs.Covered.{Covered, reset}

pub record ByPlace (js : List (Option Job)) (h : History) (rel gone : ℕ → ℕ) : Type 0 where
  -- whom a running job relies on by place, it relies on in the history
  pub known : (p k : ℕ) → RunsIn js p → has (rel p) k ≡ true → relies_on h.relied (h.ids p) (h.ids k) ≡ true
  -- a running job has not ended
  pub alive : (p : ℕ) → RunsIn js p → has_ended h.ended (h.ids p) ≡ false
  -- two running jobs have two numbers
  pub apart : (p q : ℕ) → RunsIn js p → RunsIn js q → h.ids p ≡ h.ids q → p ≡ q
  -- a running job has begun
  pub older : (p : ℕ) → RunsIn js p → h.ids p < h.begun
  -- and so has an ended one
  pub past : (x : ℕ) → has_ended h.ended x ≡ true → x < h.begun
  -- no more relied-on jobs are counted as aborted than the history has
  pub count : (p : ℕ) → RunsIn js p → gone p ≤ aborts h (h.ids p)

-- where all on which a job ever relied have ended, it relies on no running job
pub all_ended : (m : Model) (h : History) (rel gone : ℕ → ℕ) → ByPlace m.jobs h rel gone → Covered m rel gone → (p : ℕ) → Runs m p
    → ((x : ℕ) → relies_on h.relied (h.ids p) x ≡ true → has_ended h.ended x ≡ true) → (k : ℕ) → has (rel p) k ≡ true → ⊥
all_ended m h rel gone t y p run f k i = both_ways _ (t.alive k (y.running p run k i).0) (f (h.ids k) (t.known p k run i))

-- ---- relying in the history
more_relied : (rs qs : List Rely) (i x : ℕ) → relies_on rs i x ≡ true → relies_on (rs ++ qs) i x ≡ true
unfolding relies_on
more_relied rs qs i x e = list_any-append (λ (r : Rely). eqb r.job i && eqb r.on x) rs qs ∙ or_left _ _ e

relied_in : (rs : List Rely) (r : Rely) → In r rs → relies_on rs r.job r.on ≡ true
unfolding relies_on
relied_in rs r i = in_any _ rs r i (and_from _ _ (eq-eqb r.job r.job refl) (eq-eqb r.on r.on refl))

-- ---- a begin
pub by_place_begin : (m : Model) (h : History) (rel gone : ℕ → ℕ) (p : ℕ) (j : Job) (k a : ℕ) → (Runs m p → ⊥) → Covered m rel gone → ByPlace m.jobs h rel gone
    → ByPlace (set m.jobs p (Some j)) (history_one h (Begin p k a)) (reset p rel) (reset p gone)
unfolding aborts
by_place_begin m h rel gone p j k a idle y t = record {
  known = λ q x run i. elim (cases_eq q p) [
    | inl e ↦ none_in x (grind (arith, e, i))
    | inr n ↦
        let old : has (rel q) x ≡ true = grind (arith, n, i) in
        let other : x ≡ p → ⊥ = λ e. idle (subst (Runs m) e (y.running q (runs_old q n run) x old).0) in
        grind (arith, n, other, t.known q x (runs_old q n run) old)
  ];
  alive = λ q run. elim (cases_eq q p) [ inl e ↦ grind (arith, e, t.past h.begun) | inr n ↦ grind (arith, n, t.alive q (runs_old q n run)) ];
  apart = λ q x run run' e. grind (arith, e, t.older q, t.older x, t.apart q x, λ (n : q ≡ p → ⊥). runs_old q n run, λ (n : x ≡ p → ⊥). runs_old x n run');
  older = λ q run. elim (cases_eq q p) [ inl e ↦ grind (arith, e) | inr n ↦ grind (arith, n, t.older q (runs_old q n run)) ];
  past = λ x e. omega (arith, t.past x e);
  count = λ q run. elim (cases_eq q p) [ inl e ↦ grind (arith, e) | inr n ↦ grind (arith, n, t.count q (runs_old q n run)) ];
}
  where
    runs_old : (q : ℕ) → (q ≡ p → ⊥) → RunsIn (set m.jobs p (Some j)) q → Runs m q
    runs_old q n run = ran_before m.jobs p q (Some j) n run

-- ---- a lock
module _ (m : Model) (h : History) (rel gone : ℕ → ℕ) (p o : ℕ) (mode : Mode) (run_p : Runs m p) (sh : WellFormed m) (same : h.holdings ≡ m.holdings) (y : Covered m rel gone) (t : ByPlace m.jobs h rel gone) where
  abbrev grown : ℕ → ℕ
  grown q = cond (eqb q p) (without (join (rel p) (spread rel 16 (makers o m.holdings))) (single p)) (rel q)

  abbrev i : ℕ
  i = h.ids p

  abbrev relied' : List Rely
  relied' = h.relied ++ flat_map (gains h i) (filter (makes o) h.holdings)

  gained : (g : Holding) → In g m.holdings → makes o g ≡ true → (r : Rely) → In r (gains h i g) → relies_on relied' r.job r.on ≡ true
  gained g j e r k = relied_in relied' r (append_right h.relied _ r (each_in (gains h i) (filter (makes o) h.holdings) g (filter_in (makes o) h.holdings g (subst (λ hs. In g hs) (sym same) j) e) r k))

  known_own : (x : ℕ) → has (without (join (rel p) (spread rel 16 (makers o m.holdings))) (single p)) x ≡ true → relies_on relied' i (h.ids x) ≡ true
  unfolding relies_on
  known_own x e =
      let l = in_without_one _ p x e in
      elim (join_cases _ _ x l.0) [
        | inl d ↦ more_relied h.relied _ i (h.ids x) (t.known p x run_p d)
        | inr d ↦ elim (spread_why rel 16 (makers o m.holdings) x d) [
          | inl u ↦ let mk = makers_why m.holdings o x u in
              ap (λ z. relies_on relied' i (h.ids z)) (sym mk.job) ∙ gained mk.holding mk.there (and_from _ _ (eq-eqb _ _ mk.object) mk.turns) (record { job = i; on = h.ids mk.holding.job }) (inl refl)
          | inr u ↦
              let k = u.0 in
              let mk = makers_why m.holdings o k u.2 in
              let run_k : Runs m k = subst (Runs m) mk.job (sh.held_by mk.holding mk.there).0 in
              let run_x : Runs m x = (y.running k run_k x u.3).0 in
              let a = any_in (λ r. eqb r.job (h.ids k) && eqb r.on (h.ids x)) h.relied (t.known k x run_k u.3) in
              let b = and_parts _ _ a.2 in
              let on : a.0.on ≡ h.ids x = eqb-true _ _ b.1 in
              let alive : has_ended h.ended a.0.on ≡ false = ap (has_ended h.ended) on ∙ t.alive x run_x in
              let other : eqb a.0.on i ≡ false = ne_eqb _ _ (λ z. l.1 (t.apart x p run_x run_p (sym on ∙ z))) in
              ap (λ z. relies_on relied' i z) (sym on) ∙ gained mk.holding mk.there (and_from _ _ (eq-eqb _ _ mk.object) mk.turns) (record { job = i; on = a.0.on })
              (inr (map_in (λ r. record { job = i; on = r.on }) _ a.0 (filter_in _ h.relied a.0 a.1
              (and_from _ _ (ap (λ z. eqb z (h.ids mk.holding.job)) (eqb-true _ _ b.0) ∙ eq-eqb _ _ (ap h.ids (sym mk.job))) (and_from _ _ (ap not alive) (ap not other))))))
        ]
      ]

  pub by_place_lock : ByPlace m.jobs (history_one h (Lock p o mode)) grown gone
  unfolding aborts
  by_place_lock = record {
    known = λ q x run e. elim (cases_eq q p) [
      | inl d ↦ ap (λ z. relies_on relied' (h.ids z) (h.ids x)) d ∙ known_own x (subst (λ n. has n x ≡ true) (cond-true _ _ (rel q) (eq-eqb q p d)) e)
      | inr n ↦ more_relied h.relied _ (h.ids q) (h.ids x) (t.known q x run (subst (λ z. has z x ≡ true) (cond-false _ _ (rel q) (ne_eqb q p n)) e))
    ];
    alive = t.alive;
    apart = t.apart;
    older = t.older;
    past = t.past;
    count = λ q run. omega (
      arith,
      t.count q run,
      filter_more (λ e. is_aborted e.how && relies_on h.relied (h.ids q) e.job) (λ e. is_aborted e.how && relies_on relied' (h.ids q) e.job) h.ended
          (λ e u. let b = and_parts _ _ u in and_from _ _ b.0 (more_relied h.relied _ (h.ids q) e.job b.1)),
    );
  }

-- ---- an end
module _ (m : Model) (h : History) (rel gone : ℕ → ℕ) (w : Ending) (k : ℕ) (run_k : Runs m k) (sh : WellFormed m) (t : ByPlace m.jobs h rel gone) where
  abbrev ended' : List Ended
  ended' = h.ended ++ record { job = h.ids k; how = w } ∷ []

  ended_cases : (x : ℕ) → has_ended ended' x ≡ true → (has_ended h.ended x ≡ true) ⊎ (h.ids k ≡ x)
  unfolding has_ended
  ended_cases x e = grind (arith, e, list_any-append (λ (y : Ended). eqb y.job x) h.ended (record { job = h.ids k; how = w } ∷ []))

  inside : k < length m.jobs
  inside = omega (arith, sh.places, runs_small m sh k run_k)

  pub by_place_end : ByPlace (set m.jobs k None) (ends w k h) (λ q. without (rel q) (single k)) (λ q. gone q + cond (has (rel q) k && is_aborted w) 1 0)
  unfolding aborts
  by_place_end = record {
    known = λ p x run e. t.known p x (old p run).0 (in_without_one _ k x e).0;
    alive = λ p run. let o = old p run in grind (arith, ended_cases (h.ids p), t.alive p o.0, o.1, t.apart k p run_k o.0);
    apart = λ p q run run'. t.apart p q (old p run).0 (old q run').0;
    older = λ p run. t.older p (old p run).0;
    past = λ x e. grind (arith, ended_cases x e, t.past x, t.older k run_k);
    count = λ p run. counts p (old p run).0;
  }
    where
      old : (p : ℕ) → RunsIn (set m.jobs k None) p → Runs m p × (p ≡ k → ⊥)
      old p run = ended_runs m.jobs k p inside run

      counts : (p : ℕ) → Runs m p → gone p + cond (has (rel p) k && is_aborted w) 1 0 ≤ length (filter (λ e. is_aborted e.how && relies_on h.relied (h.ids p) e.job) ended')
      counts p run =
          let T : Ended → Bool = λ e. is_aborted e.how && relies_on h.relied (h.ids p) e.job in
          let counted : gone p ≤ length (filter T h.ended) = t.count p run in
          grind (arith, common_steps, counted, t.known p k run, filter-append T h.ended (record { job = h.ids k; how = w } ∷ []))
