-- A lock keeps an execution for each way in which the relied-on jobs may end: it pairs one that goes with that way with the version of the last maker that commits in it.
use Rattle.std.proofs.Common.{◌≡◌, ℕ, ◌+◌, ◌≤◌, true, false, cond, not, eqb, ◌⊎◌, List, [], ◌∷◌, ◌++◌, map, sym, refl, ap, ◌∙◌, subst, inl, inr, arith}
use Rattle.std.specs.Prelude.{filter}
use Rattle.std.proofs.lemmas.Bool.{both_ways, cases_eq, cases_Bool, eqb-true, eq-eqb, ne_eqb, and_parts, and_from, le-leb, cond-true, cond-false}
use Rattle.terms.specs.declared.modes.Mode.{Mode}
use Rattle.protocol.specs.Assumptions.{commits_of, aborts_of}
use Rattle.protocol.specs.declared.holdings.Holding.{Holding}
use Rattle.protocol.specs.declared.assumptions.Execution.{Execution}
use Rattle.terms.specs.declared.calls.Call.TheVariants.{Lock}
use Rattle.protocol.specs.Holdings.{begins, makes, jobs_of, makers, later_makers, spread}
use Rattle.protocol.specs.Lists.{In, Behind}
use Rattle.protocol.specs.Model.{Model, executions_of, names}
use Rattle.protocol.specs.Pairing.{offer, stored_offer, offers, is_kept, pairing, kept_pairs}
use Rattle.protocol.specs.PairingLaws.{Makes}
use Rattle.protocol.specs.Places.{has, single, join, without, size}
use Rattle.protocol.specs.PlainRun.{Plain}
use Rattle.protocol.specs.Step.{next}
use Rattle.terms.specs.Rule.{Rule}
use Rattle.protocol.specs.declared.assumptions.Offer.{Offer}
use Rattle.protocol.specs.Ranks.{Acyclic}
use Rattle.protocol.proofs.Running.{Runs}
use Rattle.protocol.proofs.SetDigits.{meet, new_in, apart_disjoint}
use Rattle.protocol.proofs.Membership.{none_in, join_left, join_right, join_cases, in_without_one, without_one_in, meet_in, in_meet}
use Rattle.protocol.proofs.SetSizes.{size_join, size_mono}
use Rattle.protocol.proofs.Lists.{filter_in, append_left, append_right, map_in, each_in, behind_in}
use Rattle.protocol.proofs.Reach.{spread_more, spread_next, spread_why}
use Rattle.protocol.proofs.Chains.{AssumedIn, never_assumes_itself}
use Rattle.protocol.proofs.Accepted.{Locks}
use Rattle.protocol.proofs.Makers.{makers_why, why_makers, later_makes, later_why, why_later}
use Rattle.protocol.proofs.WellFormed.{WellFormed, maker_of, runs_small, over_offers, over_locked}
use Rattle.protocol.proofs.Consistent.{Consistent, pair_chain}
use Rattle.protocol.proofs.Faithful.{Faithful}
use Rattle.protocol.proofs.Covered.{GoesWith, ProvidedFor, Covered}

-- ---- the last maker that commits
-- in the way ab every maker of o aborts, or there is a last one that commits
abbrev Last : List Holding → ℕ → ℕ → Type 0
Last hs o ab = ((q : ℕ) → has (makers o hs) q ≡ true → has ab q ≡ true) ⊎ ((q : ℕ) × Makes hs o q × (has ab q ≡ false) × ((k : ℕ) → has (later_makers o q hs) k ≡ true → has ab k ≡ true))

last_maker : (o ab : ℕ) (hs : List Holding) → ((g h : Holding) → Behind g h hs → g.job ≡ h.job → g.object ≡ h.object → ⊥) → Last hs o ab
unfolding makers later_makers jobs_of
last_maker o ab [] once = inl (λ q e. none_in q e)
last_maker o ab (h ∷ hs) once = go (last_maker o ab hs (λ g k i. once g k (inr i)))
  where
    all : ((q : ℕ) → has (makers o hs) q ≡ true → has ab q ≡ true) → (makes o h ≡ true → has ab h.job ≡ true) → Last (h ∷ hs) o ab
    all f g = inl (λ q e. let w = makers_why (h ∷ hs) o q e in elim w.there [
      | inl z ↦ grind (arith, z, w, g)
      | inr i ↦ f q (why_makers hs o q (record { holding = w.holding; there = i; job = w.job; object = w.object; turns = w.turns }))
    ])

    go : Last hs o ab → Last (h ∷ hs) o ab
    go (inr w) = inr (
      w.0,
      record { holding = w.1.holding; there = inr w.1.there; job = w.1.job; object = w.1.object; turns = w.1.turns },
      w.2,
      λ k e.
          let y = later_why (h ∷ hs) o w.0 k e in
          elim y.order [
            | inl i ↦ absurd (once h w.1.holding (inl (refl, w.1.there)) (ap (λ g. g.job) i.0 ∙ y.of ∙ sym w.1.job) (ap (λ g. g.object) i.0 ∙ y.object ∙ sym w.1.object))
            | inr i ↦ w.3 k (why_later hs o w.0 k (record { earlier = y.earlier; later = y.later; order = i; of = y.of; object = y.object; by = y.by; same = y.same; turns = y.turns }))
          ],
    )
    go (inl f) = elim (cases_Bool (makes o h)) [
      | inr e ↦ all f (λ d. absurd (both_ways _ e d))
      | inl e ↦ elim (cases_Bool (has ab h.job)) [
        | inl d ↦ all f (λ _. d)
        | inr d ↦
            let z = and_parts _ _ e in
            inr (
              h.job,
              record { holding = h; there = inl refl; job = refl; object = eqb-true _ _ z.0; turns = z.1 },
              d,
              λ k i.
                  let y = later_why (h ∷ hs) o h.job k i in
                  let there : In y.later hs = elim y.order [ inl j ↦ j.1 | inr j ↦ (behind_in hs _ _ j).1 ] in
                  f k (why_makers hs o k (record { holding = y.later; there = there; job = y.by; object = y.same; turns = y.turns })),
            )
      ]
    ]

module _ (r : Rule) (m : Model) (s : Plain) (p o : ℕ) (mode : Mode) (relied gone : ℕ → ℕ) (b : Locks m p o mode) (sh : WellFormed m) (x : Consistent m) (f : Faithful r m s) (y : Covered m relied gone)
    (c' : Acyclic (m.holdings ++ record { job = p; object = o; state = begins mode } ∷ [])) where
  abbrev mk : ℕ
  mk = makers o m.holdings

  -- what each job relies on once p has locked o
  abbrev pub grown : ℕ → ℕ
  grown q = cond (eqb q p) (without (join (relied p) (spread relied 16 mk)) (single p)) (relied q)

  grown_own : (q : ℕ) → q ≡ p → grown q ≡ without (join (relied p) (spread relied 16 mk)) (single p)
  grown_own q e = cond-true _ _ (relied q) (eq-eqb q p e)

  grown_other : (q : ℕ) → (q ≡ p → ⊥) → grown q ≡ relied q
  grown_other q n = cond-false _ _ (relied q) (ne_eqb q p n)

  maker_runs : (q : ℕ) → has mk q ≡ true → Runs m q × (q ≡ p → ⊥)
  maker_runs q i =
      let k = makers_why m.holdings o q i in
      (subst (Runs m) k.job (sh.held_by k.holding k.there).0, λ e. b.new k.holding k.there (k.job ∙ e) k.object)

  -- what p relies on now has what it relied on, the makers, and what these rely on
  from_old : (q k : ℕ) → Runs m q → has (relied q) k ≡ true → has (grown q) k ≡ true
  from_old q k h i = elim (cases_eq q p) [
    | inl e ↦ grind (arith, e, i, (y.running q h k i).1, without_one_in (join (relied p) (spread relied 16 mk)) p k, join_left (relied p) (spread relied 16 mk) k)
    | inr n ↦ grind (arith, n, i)
  ]

  from_maker : (k : ℕ) → has mk k ≡ true → has (grown p) k ≡ true
  from_maker k i = subst (λ n. has n k ≡ true) (sym (grown_own p refl)) (without_one_in _ p k (join_right _ _ k (spread_more relied 16 mk k i)) (maker_runs k i).1)

  from_beyond : (q k : ℕ) → has mk q ≡ true → has (relied q) k ≡ true → (k ≡ p → ⊥) → has (grown p) k ≡ true
  from_beyond q k i j n = subst (λ z. has z k ≡ true) (sym (grown_own p refl)) (without_one_in _ p k (join_right _ _ k (spread_next relied 16 mk q k (runs_small m sh q (maker_runs q i).0) i j)) n)

  -- what an offer assumes about is relied on from now on
  offer_relied : (z : Offer) → In z (offers m o) → (k : ℕ) → (k ≡ p → ⊥) → (has (commits_of z.assumes) k ≡ true) ⊎ (has (aborts_of z.assumes) k ≡ true) → has (grown p) k ≡ true
  offer_relied = over_offers _ m o
      (λ k n. elim [ inl e ↦ none_in k e | inr e ↦ from_maker k e ])
      (λ v i d k n.
      let mv = why_makers m.holdings o v.maker (maker_of m sh o v i d) in
      let by_version : AssumedIn v.assumes k → has (grown p) k ≡ true =
      λ t. elim (y.version_relied v i k t) [ inl e ↦ subst (λ q. has (grown p) q ≡ true) (sym e) (from_maker v.maker mv) | inr e ↦ from_beyond v.maker k mv e n ] in
      elim [ inl e ↦ by_version (inl e) | inr e ↦ elim (join_cases _ _ k e) [ inl g ↦ by_version (inr g) | inr g ↦ from_maker k (later_makes m.holdings o v.maker k g) ] ])

  -- a job that is able now was able before
  able_old : (k ab : ℕ) → ProvidedFor (next r m (Lock p o mode)).executions k ab → ProvidedFor m.executions k ab
  unfolding next
  able_old k ab a = over_locked (λ e. e.job ≡ k → GoesWith e.assumes ab → ProvidedFor m.executions k ab) r m p o mode (λ e i t j g. (e, i, j, g)) (λ e i j z l t d g. (e, i, d, record { on_commits = λ q c. g.on_commits q (join_left _ _ q c); on_aborts = λ q c. g.on_aborts q (join_left _ _ q c) }))
      a.0 a.1 a.2 a.3

  in_paired : (e : Execution) → In e m.executions → e.job ≡ p → (z : Offer) → In z (offers m o) → is_kept m.robustness (pairing r m p o mode e z) ≡ true → In (pairing r m p o mode e z) (kept_pairs r m p o mode)
  unfolding kept_pairs
  in_paired e i j z l t =
      each_in (λ e. filter (is_kept m.robustness) (map (pairing r m p o mode e) (offers m o))) (executions_of p m) e (filter_in (names p) m.executions e i (eq-eqb _ _ j)) (pairing r m p o mode e z)
      (filter_in (is_kept m.robustness) (map (pairing r m p o mode e) (offers m o)) (pairing r m p o mode e z) (map_in (pairing r m p o mode e) (offers m o) z l) t)

  -- an offer that goes with ab, where each maker that commits in it is able
  good_offer : (ab : ℕ) → ((q : ℕ) → has mk q ≡ true → has ab q ≡ false → ProvidedFor m.executions q ab) → (z : Offer) × In z (offers m o) × GoesWith z.assumes ab
  unfolding offers
  good_offer ab able = elim (last_maker o ab m.holdings sh.once) [
    | inl all ↦ (stored_offer m o, inl refl, record { on_commits = λ k c. none_in k c; on_aborts = all })
    | inr w ↦
        let a = able w.0 (why_makers m.holdings o w.0 w.1) w.2 in
        let g = f.made a.0 a.1 o (w.1.holding, w.1.there, w.1.job ∙ sym a.2, w.1.object, w.1.turns) in
        let same : g.version.maker ≡ w.0 = g.maker ∙ a.2 in (
          offer m.holdings o g.version,
          inr (map_in (offer m.holdings o) _ g.version (filter_in _ m.versions g.version g.there (eq-eqb _ _ g.object))),
          record {
            on_commits = λ k c. elim (g.on_commits k c) [ inl d ↦ a.3.on_commits k d | inr d ↦ subst (λ q. has ab q ≡ false) (sym (d ∙ a.2)) w.2 ];
            on_aborts = λ k c. elim (join_cases _ _ k c) [ inl d ↦ a.3.on_aborts k (g.on_aborts k d) | inr d ↦ w.3 k (subst (λ q. has (later_makers o q m.holdings) k ≡ true) same d) ];
          },
        )
  ]

  module _ (e : Execution) (i : In e m.executions) (j : e.job ≡ p) (z : Offer) (l : In z (offers m o)) where
    abbrev e' : Execution
    e' = pairing r m p o mode e z

    -- p assumes nothing of itself
    not_p : (k : ℕ) → AssumedIn e'.assumes k → k ≡ p → ⊥
    not_p k t q = never_assumes_itself _ c'.rank c'.falls p e'.assumes (pair_chain r m p o mode b sh x e i j z l) (subst (AssumedIn e'.assumes) q t)

    by_old : (k : ℕ) → AssumedIn e.assumes k → has (grown p) k ≡ true
    by_old k t = from_old p k b.runs (subst (λ q. has (relied q) k ≡ true) j (y.execution_relied e i k t))

    pair_relied : (k : ℕ) → AssumedIn e'.assumes k → has (grown p) k ≡ true
    pair_relied k t = grind (
      arith,
      t,
      not_p k t,
      by_old k,
      offer_relied z l k,
      join_cases (commits_of e.assumes) (commits_of z.assumes) k,
      join_cases (aborts_of e.assumes) (aborts_of z.assumes) k,
    )

    pair_counted : e'.tally ≤ gone e.job + size (aborts_of e'.assumes)
    pair_counted = omega (arith, y.counted e i, size_join (aborts_of e.assumes) (aborts_of z.assumes), ap size (new_in (aborts_of e.assumes) (aborts_of z.assumes)))

    pair_able : (ab : ℕ) → GoesWith e.assumes ab → GoesWith z.assumes ab → gone p + size (meet (grown p) ab) ≤ m.robustness → (is_kept m.robustness e' ≡ true) × GoesWith e'.assumes ab
    pair_able ab g h few =
        let goes : GoesWith e'.assumes ab = record {
          on_commits = λ k c. grind (arith, join_cases _ _ k c, g.on_commits k, h.on_commits k);
          on_aborts = λ k c. grind (arith, join_cases _ _ k c, g.on_aborts k, h.on_aborts k);
        } in
        let most : size (aborts_of e'.assumes) ≤ size (meet (grown p) ab) = size_mono _ _ (λ k c. meet_in (grown p) ab k (pair_relied k (inr c)) (goes.on_aborts k c)) in
        (and_from _ _ (apart_disjoint _ _ (λ k c d. both_ways _ (goes.on_commits k c) (goes.on_aborts k d))) (le-leb _ _ (omega (arith, pair_counted, ap gone j))), goes)

  complete_own : (ab : ℕ) → ((k : ℕ) → has (grown p) k ≡ true → has ab k ≡ false → ProvidedFor (next r m (Lock p o mode)).executions k ab) → gone p + size (meet (grown p) ab) ≤ m.robustness
      → ProvidedFor (next r m (Lock p o mode)).executions p ab
  unfolding next
  complete_own ab able few =
      let fewer : size (meet (relied p) ab) ≤ size (meet (grown p) ab) = size_mono _ _ (λ k h. let w = in_meet (relied p) ab k h in meet_in (grown p) ab k (from_old p k b.runs w.0) w.1) in
      let a = y.complete p b.runs ab (λ k i u. able_old k ab (able k (from_old p k b.runs i) u)) (omega arith) in
      let z = good_offer ab (λ q i u. able_old q ab (able q (from_maker q i) u)) in
      let g = pair_able a.0 a.1 a.2 z.0 z.1 ab a.3 z.2 few in
      (pairing r m p o mode a.0 z.0, append_right (filter (λ e. not (names p e)) m.executions) _ _ (in_paired a.0 a.1 a.2 z.0 z.1 g.0), a.2, g.1)

  pub covered_lock : Covered (next r m (Lock p o mode)) grown gone
  unfolding next
  covered_lock = record {
    running = λ q h k i. elim (cases_eq q p) [
      | inl e ↦
          let w = in_without_one _ p k (subst (λ n. has n k ≡ true) (grown_own q e) i) in (
            elim (join_cases _ _ k w.0) [
              | inl d ↦ (y.running p b.runs k d).0
              | inr d ↦ elim (spread_why relied 16 mk k d) [ inl u ↦ (maker_runs k u).0 | inr u ↦ (y.running u.0 (maker_runs u.0 u.2).0 k u.3).0 ]
            ],
            λ z. w.1 (z ∙ e),
          )
      | inr n ↦ y.running q h k (subst (λ z. has z k ≡ true) (grown_other q n) i)
    ];
    execution_relied = over_locked (λ e. (k : ℕ) → AssumedIn e.assumes k → has (grown e.job) k ≡ true) r m p o mode (λ e i t k c. from_old e.job k (sh.worked_by e i).0 (y.execution_relied e i k c)) (λ e i j z l t k c. subst (λ q. has (grown q) k ≡ true) (sym j) (pair_relied e i j z l k c));
    version_relied = λ v i k c. let h = sh.made_by v i in
        elim (y.version_relied v i k c) [ inl e ↦ inl e | inr e ↦ inr (from_old v.maker k (subst (Runs m) h.2 (sh.held_by h.0 h.1).0) e) ];
    counted = over_locked (λ e. e.tally ≤ gone e.job + size (aborts_of e.assumes)) r m p o mode (λ e i t. y.counted e i) (λ e i j z l t. pair_counted e i j z l);
    complete = λ q h ab able few. elim (cases_eq q p) [
      | inl e ↦ subst (λ x. ProvidedFor (next r m (Lock p o mode)).executions x ab) (sym e) (complete_own ab (λ k i u. able k (subst (λ x. has (grown x) k ≡ true) (sym e) i) u) (subst (λ x. gone x + size (meet (grown x) ab) ≤ m.robustness) e few))
      | inr n ↦
          let a = y.complete q h ab (λ k i u. able_old k ab (able k (from_old q k h i) u)) (omega (arith, few, ap (λ x. size (meet x ab)) (grown_other q n))) in
          (a.0, append_left (filter (λ e. not (names p e)) m.executions) _ _ (filter_in _ m.executions a.0 a.1 (ap not (ne_eqb _ _ (λ z. n (sym a.2 ∙ z))))), a.2, a.3)
    ];
  }
