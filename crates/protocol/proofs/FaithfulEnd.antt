-- The end of a job keeps the book with the plain run: survivors met what is still there, and a commit writes what the plain run of the job writes.
use Rattle.std.proofs.Common.{◌≡◌, ℕ, ◌<◌, Bool, true, false, not, ◌&&◌, eqb, ◌⊎◌, List, [], length, get_or, set, None, sym, refl, ap, ◌∙◌, subst, inl, inr, arith, get_or-set_other, ext_get_or}
use Rattle.std.specs.Prelude.{filter}
use Rattle.std.specs.List.{list_any}
use Rattle.std.proofs.lemmas.Bool.{both_ways, cases_eq, eqb-true, eqb-false, eq-eqb, ne_eqb, and_parts, and_from, not-true}
use Rattle.protocol.specs.declared.holdings.Holding.{Holding}
use Rattle.protocol.specs.declared.assumptions.Assumption.{Assumption}
use Rattle.protocol.specs.declared.assumptions.Execution.{Execution}
use Rattle.protocol.specs.declared.assumptions.Version.{Version}
use Rattle.terms.specs.declared.calls.Call.{Call}
use Rattle.terms.specs.declared.calls.Call.TheVariants.{Commit, Abort}
use Rattle.protocol.specs.Ending.{written}
use Rattle.protocol.specs.Holdings.{holds, turned, waits}
use Rattle.protocol.specs.Lists.{In}
use Rattle.protocol.specs.Model.{Model, kind_of, argument_of}
use Rattle.protocol.specs.Past.{is_at}
use Rattle.protocol.specs.Places.{has}
use Rattle.protocol.specs.PlainRun.{play, fresh, Plain, plain_one}
use Rattle.protocol.specs.Settling.{survives, settled_execution, settled_version, settle}
use Rattle.protocol.specs.Step.{next}
use Rattle.terms.specs.Rule.{Rule}
use Rattle.protocol.specs.declared.jobs.Ending.{Ending}
use Rattle.protocol.specs.declared.jobs.Ending.TheVariants.{Committed, Aborted}
use Rattle.protocol.proofs.Running.{Runs, runs_ended, ended_runs}
use Rattle.protocol.proofs.Membership.{none_in, in_without_one, without_one_in}
use Rattle.protocol.proofs.Lists.{in_filter, filter_in, over_filter, map_in, any_in, in_any, pairs_two, over_part}
use Rattle.protocol.proofs.Waiting.{rest}
use Rattle.protocol.proofs.Filters.{filter_twice, filter_none}
use Rattle.protocol.proofs.Positions.{position_rest}
use Rattle.protocol.proofs.Playing.{length_play}
use Rattle.protocol.proofs.Writing.{made_is, written_other, written_same, length_written}
use Rattle.protocol.proofs.Chains.{CommitIn, AbortIn, Conflict, within_settled, within_survives}
use Rattle.protocol.proofs.Accepted.{Commits}
use Rattle.protocol.proofs.Before.{Before, before_maker, before_either, before_rest, rest_before}
use Rattle.protocol.proofs.WellFormed.{WellFormed, runs_small}
use Rattle.protocol.proofs.Consistent.{Consistent, VersionsApart, assumes_none, aborts_none}
use Rattle.protocol.proofs.Faithful.{met_at, Agrees, MetStore, MetVersion, Made, HasTurned, calls_of, Faithful}

-- the calls of another job stay, those of the ended one are gone
calls_other : (cs : List Call) (k q : ℕ) → (q ≡ k → ⊥) → filter (is_at q) (filter (λ c. not (is_at k c)) cs) ≡ filter (is_at q) cs
calls_other cs k q n = filter_twice (is_at q) (λ c. not (is_at k c)) cs (λ c t. ap not (ne_eqb _ _ (λ e. n (sym (eqb-true _ _ t) ∙ e))))

calls_ended : (cs : List Call) (k : ℕ) → filter (is_at k) (filter (λ c. not (is_at k c)) cs) ≡ []
calls_ended cs k = filter_none (is_at k) _ (over_filter _ _ cs (λ c i t u. both_ways _ (not-true _ t) u))

module _ (r : Rule) (m : Model) (s : Plain) (w : Ending) (k : ℕ) (values' : List ℕ) (sh : WellFormed m) (x : Consistent m) (f : Faithful r m s)
    (runs_k : Runs m k) (long : length values' ≡ length m.values)
    -- what a survivor met is in the store or in a version that survives
    (met' : (e : Execution) → In e m.executions → (e.job ≡ k → ⊥) → survives w k e.assumes ≡ true → (h : Holding) → In h m.holdings → h.job ≡ e.job
    → MetStore (rest k m.holdings) values' (settled_execution k e) h.object ⊎ MetVersion (rest k m.holdings) (settle w k values' m).versions (settled_execution k e) h.object) where
  abbrev hs : List Holding
  hs = m.holdings

  abbrev hs' : List Holding
  hs' = rest k m.holdings

  abbrev pending' : List Call
  pending' = filter (λ c. not (is_at k c)) s.pending

  agrees_old : (e : Execution) → (e.job ≡ k → ⊥) → (ys : List ℕ) → Agrees hs' (length values') (settled_execution k e) ys → Agrees hs (length m.values) e ys
  agrees_old e d ys g = record { long = g.long ∙ long; meets = λ h i q. g.meets h (filter_in _ hs h i (ap not (ne_eqb _ _ (λ z. d (sym q ∙ z))))) q ∙ ap (λ n. get_or e.met n 0) (position_rest k e.job h.object hs d) }

  turns_old : (q o : ℕ) → HasTurned hs' q o → HasTurned hs q o
  turns_old q o t = (t.0, (in_filter _ hs t.0 t.1).0, t.2, t.3, t.4)

  turns_new : (q o : ℕ) → (q ≡ k → ⊥) → HasTurned hs q o → HasTurned hs' q o
  turns_new q o d t = (t.0, filter_in _ hs t.0 t.1 (ap not (ne_eqb _ _ (λ z. d (sym t.2 ∙ z)))), t.2, t.3, t.4)

  inside : k < length m.jobs
  inside = omega (arith, sh.places, runs_small m sh k runs_k)

  at_other : (q : ℕ) → (q ≡ k → ⊥) → get_or (set m.jobs k None) q None ≡ get_or m.jobs q None
  at_other q n = get_or-set_other m.jobs k q None None n

  -- a version that goes with a survivor survives
  version_survives : (a v : Assumption) (j : ℕ) → (j ≡ k → ⊥) → survives w k a ≡ true → ((q : ℕ) → CommitIn v q → CommitIn a q ⊎ (q ≡ j)) → ((q : ℕ) → AbortIn v q → AbortIn a q) → survives w k v ≡ true
  version_survives a v j d t on_commits on_aborts = go w t
    where
      go : (w : Ending) → survives w k a ≡ true → survives w k v ≡ true
      go Committed t = grind (arith, t, on_aborts k)
      go Aborted t = grind (arith, t, d, on_commits k)

  made_left : (e : Execution) → In e m.executions → (e.job ≡ k → ⊥) → survives w k e.assumes ≡ true → (o : ℕ) → HasTurned hs' e.job o
      → Made r (filter (is_at e.job) pending') hs' (settle w k values' m).versions (length values') (settled_execution k e) o
  unfolding settle
  made_left e i d t o u =
      let g = f.made e i o (turns_old _ o u) in
      record {
        version = settled_version k g.version;
        there = map_in (settled_version k) _ _ (filter_in _ m.versions g.version g.there
            (and_from _ _ (ap not (ne_eqb _ _ (λ z. d (sym g.maker ∙ z)))) (version_survives e.assumes g.version.assumes e.job d t g.on_commits g.on_aborts)));
        object = g.object;
        maker = g.maker;
        on_commits = λ q c. let l = in_without_one _ k q c in elim (g.on_commits q l.0) [ inl a ↦ inl (without_one_in _ k q a l.1) | inr a ↦ inr a ];
        on_aborts = λ q c. let l = in_without_one _ k q c in without_one_in _ k q (g.on_aborts q l.0) l.1;
        value = λ ys y. ap (λ cs. get_or (play r (fresh ys) cs).values o 0) (calls_other s.pending k e.job d) ∙ g.value ys (agrees_old e d ys y);
      }

  pub faithful_settle : Faithful r (settle w k values' m) (record { values = values'; pending = pending' })
  unfolding settle play
  faithful_settle = record {
    values = refl;
    runs = over_filter _ _ s.pending (λ c i t. runs_ended m.jobs k _ (eqb-false _ _ (not-true _ t)) (f.runs c i));
    kind = λ q h ys.
        let y = ended_runs m.jobs k q inside h in
        let g = f.kind q y.0 ys in
        let o = calls_other s.pending k q y.1 in
        (ap (λ cs. (play r (fresh ys) cs).kind) o ∙ g.0 ∙ sym (ap kind_of (at_other q y.1)), ap (λ cs. (play r (fresh ys) cs).argument) o ∙ g.1 ∙ sym (ap argument_of (at_other q y.1)));
    others = λ q o t ys. elim (cases_eq q k) [
      | inl e ↦ ap (λ cs. get_or (play r (fresh ys) cs).values o 0) (ap (λ z. filter (is_at z) pending') e ∙ calls_ended s.pending k)
      | inr d ↦ ap (λ cs. get_or (play r (fresh ys) cs).values o 0) (calls_other s.pending k q d) ∙ f.others q o (λ u. t (turns_new q o d u)) ys
    ];
    work = over_part (λ e. (ys : List ℕ) → Agrees hs' (length values') e ys → (play r (fresh ys) (filter (is_at e.job) pending')).work ≡ e.work) (settled_execution k) _ m.executions (λ e i t ys g.
        let d = left e t in ap (λ cs. (play r (fresh ys) cs).work) (calls_other s.pending k e.job d) ∙ f.work e i ys (agrees_old e d ys g));
    made = over_part (λ e. (o : ℕ) → HasTurned hs' e.job o → Made r (filter (is_at e.job) pending') hs' (settle w k values' m).versions (length values') e o) (settled_execution k) _ m.executions (λ e i t. made_left e i (left e t) (and_parts _ _ t).1);
    met = over_part (λ e. (h : Holding) → In h hs' → h.job ≡ e.job → MetStore hs' values' e h.object ⊎ MetVersion hs' (settle w k values' m).versions e h.object) (settled_execution k) _ m.executions (λ e i t h j q. met' e i (left e t) (and_parts _ _ t).1 h (in_filter _ hs h j).0 q);
  }
    where
      left : (e : Execution) → (not (eqb e.job k) && survives w k e.assumes) ≡ true → e.job ≡ k → ⊥
      left e t = eqb-false _ _ (not-true _ (and_parts _ _ t).0)

-- ---- what survivors met
module _ (m : Model) (w : Ending) (k : ℕ) (values' : List ℕ) (e : Execution) (o : ℕ) (d : e.job ≡ k → ⊥) (t : survives w k e.assumes ≡ true) where
  met_same : met_at (rest k m.holdings) (settled_execution k e) o ≡ met_at m.holdings e o
  met_same = ap (λ n. get_or e.met n 0) (position_rest k e.job o m.holdings d)

  version_stays : (g : MetVersion m.holdings m.versions e o) → (g.version.maker ≡ k → ⊥) → MetVersion (rest k m.holdings) (settle w k values' m).versions (settled_execution k e) o
  unfolding settle
  version_stays g n = record {
    version = settled_version k g.version;
    there = map_in (settled_version k) _ _ (filter_in _ m.versions g.version g.there (and_from _ _ (ap not (ne_eqb _ _ n)) (within_survives w k _ _ g.within t)));
    object = g.object;
    within = within_settled k _ _ g.within;
    value = met_same ∙ g.value;
    maker = rest_before k m.holdings o _ _ n d g.maker;
    between = λ q c l. let c' = before_rest k m.holdings o _ q c in let l' = before_rest k m.holdings o q _ l in without_one_in _ k q (g.between q c'.0 l'.0) l'.1;
  }

-- ---- an abort
pub faithful_abort : (r : Rule) (m : Model) (s : Plain) (k : ℕ) → Runs m k → WellFormed m → Consistent m → Faithful r m s → Faithful r (next r m (Abort k)) (plain_one r s (Abort k))
unfolding next
faithful_abort r m s k runs sh x f =
    subst (λ vs. Faithful r (settle Aborted k m.values m) (record { values = vs; pending = filter (λ c. not (is_at k c)) s.pending })) f.values
    (faithful_settle r m s Aborted k m.values sh x f runs refl (λ e i d t h ih jh. go e d t h.object (f.met e i h ih jh)))
  where
    go : (e : Execution) → (e.job ≡ k → ⊥) → survives Aborted k e.assumes ≡ true → (o : ℕ) → MetStore m.holdings m.values e o ⊎ MetVersion m.holdings m.versions e o
        → MetStore (rest k m.holdings) m.values (settled_execution k e) o ⊎ MetVersion (rest k m.holdings) (settle Aborted k m.values m).versions (settled_execution k e) o
    go e d t o (inl g) = inl (record {
      value = met_same m Aborted k m.values e o d t ∙ g.value;
      before = λ q c. let c' = before_rest k m.holdings o q _ c in without_one_in _ k q (g.before q c'.0) c'.1;
    })
    go e d t o (inr g) = inr (version_stays m Aborted k m.values e o d t g
        (λ z. both_ways _ (not-true _ t) (subst (CommitIn e.assumes) z (g.within.on_commits _ (x.maker_commits g.version g.there)))))

-- ---- a commit
module _ (r : Rule) (m : Model) (s : Plain) (k : ℕ) (b : Commits m k) (sh : WellFormed m) (x : Consistent m) (f : Faithful r m s) where
  abbrev new_values : List ℕ
  new_values = written k m.versions m.holdings m.values

  waits_none : {P : Type 0} (q : ℕ) → has (waits m.holdings k) q ≡ true → P
  waits_none q e = none_in q (ap (λ n. has n q) (sym b.free) ∙ e)

  -- k's versions of one object have one value
  one_value : (u v : Version) → In u m.versions → In v m.versions → u.maker ≡ k → v.maker ≡ k → u.object ≡ v.object → u.value ≡ v.value
  one_value u v i j mu mv o = elim (pairs_two VersionsApart m.versions x.versions_apart u v i j) [
    | inl e ↦ ap (λ z. z.value) e
    | inr l ↦ elim l [ inl a ↦ absurd (clash u v i j mu mv (a o (mu ∙ sym mv))) | inr a ↦ absurd (clash v u j i mv mu (a (sym o) (mv ∙ sym mu))) ]
  ]
    where
      clash : (u v : Version) → In u m.versions → In v m.versions → u.maker ≡ k → v.maker ≡ k → Conflict u.assumes v.assumes → ⊥
      clash u v i j mu mv c = elim c.1 [ inl y ↦ aborts_none m x k b.free v j mv _ y.1 | inr y ↦ aborts_none m x k b.free u i mu _ y.0 ]

  -- a turned object gets the value of any version of it by k
  written_is : (o : ℕ) (v : Version) → In v m.versions → v.maker ≡ k → v.object ≡ o → HasTurned m.holdings k o → o < length m.values → get_or new_values o 0 ≡ v.value
  written_is o v i mv ov t l =
      written_same k o v.value m.versions (λ d. made_is k o v.value m.versions v d i mv ov (λ u j mu ou. one_value u v j i mu mv (ou ∙ sym ov))) m.holdings m.values l (inl t)

  -- the execution of k met what is stored
  abbrev e : Execution
  e = b.some.0

  agrees : Agrees m.holdings (length m.values) e m.values
  agrees = record {
    long = refl;
    meets = λ h i j. elim (f.met e b.some.1 h i j) [
      | inl g ↦ sym g.value
      | inr g ↦ absurd (assumes_none m x k b.free e b.some.1 b.some.2 _ (inl (g.within.on_commits _ (x.maker_commits g.version g.there))))
    ];
  }

  Test : ℕ → Holding → Bool
  Test o h = holds k o h && turned h.state

  -- what is written is what the plain run of k's calls leaves
  same_values : new_values ≡ (play r (fresh m.values) (calls_of s k)).values
  unfolding Test
  same_values =
      ext_get_or 0 new_values (play r (fresh m.values) (calls_of s k)).values (length_written k m.versions m.holdings m.values ∙ sym (length_play r (fresh m.values) (calls_of s k)))
      (λ o l. go o (omega (arith, l, length_written k m.versions m.holdings m.values)) (list_any (Test o) m.holdings) refl)
    where
      go : (o : ℕ) → o < length m.values → (c : Bool) → list_any (Test o) m.holdings ≡ c → get_or new_values o 0 ≡ get_or (play r (fresh m.values) (calls_of s k)).values o 0
      go o l true a =
          let y = any_in (Test o) m.holdings a in
          let z = and_parts _ _ y.2 in
          let h = and_parts _ _ z.0 in
          let turns : HasTurned m.holdings k o = (y.0, y.1, eqb-true _ _ h.0, eqb-true _ _ h.1, z.1) in
          let g = f.made e b.some.1 o (subst (λ q. HasTurned m.holdings q o) (sym b.some.2) turns) in
          written_is o g.version g.there (g.maker ∙ b.some.2) g.object turns l
          ∙ sym (g.value m.values agrees) ∙ ap (λ q. get_or (play r (fresh m.values) (calls_of s q)).values o 0) b.some.2
      go o l false a =
          let none : HasTurned m.holdings k o → ⊥ = λ t. both_ways _ a (in_any (Test o) m.holdings t.0 t.1 (and_from _ _ (and_from _ _ (eq-eqb _ _ t.2) (eq-eqb _ _ t.3)) t.4)) in
          written_other k o m.versions m.holdings m.values (λ h i j q t. none (h, i, j, q, t)) ∙ sym (f.others k o none m.values)

  -- a survivor met the stored value or a version of k that is now stored, or a version that survives
  met_commit : (e : Execution) → (e.job ≡ k → ⊥) → survives Committed k e.assumes ≡ true → (h : Holding) → In h m.holdings → h.job ≡ e.job
      → MetStore m.holdings m.values e h.object ⊎ MetVersion m.holdings m.versions e h.object
      → MetStore (rest k m.holdings) new_values (settled_execution k e) h.object ⊎ MetVersion (rest k m.holdings) (settle Committed k new_values m).versions (settled_execution k e) h.object
  met_commit e d t h i j (inl g) = inl (record {
    value = met_same m Committed k new_values e h.object d t ∙ g.value ∙ sym (written_other k h.object m.versions m.holdings m.values (λ y a p q u.
        elim (before_either m.holdings h.object k e.job h (λ z. d (sym z)) (record { holding = y; there = a; job = p; object = q; turns = u }) i j refl) [
          | inl c ↦ both_ways _ (not-true _ t) (g.before k c)
          | inr c ↦ waits_none _ c
        ]));
    before = λ q c. let c' = before_rest k m.holdings h.object q _ c in without_one_in _ k q (g.before q c'.0) c'.1;
  })
  met_commit e d t h i j (inr g) = elim (cases_eq g.version.maker k) [
    | inr n ↦ inr (version_stays m Committed k new_values e h.object d t g n)
    | inl z ↦
        let mk = before_maker m.holdings h.object _ _ g.maker in
        inl (record {
          value = met_same m Committed k new_values e h.object d t ∙ g.value ∙ sym (written_is h.object g.version g.there z g.object
              (mk.holding, mk.there, mk.job ∙ z, mk.object, mk.turns) (sh.held_by h i).1);
          before = λ q c.
              let c' = before_rest k m.holdings h.object q _ c in
              let mq = before_maker m.holdings h.object q _ c'.0 in
              elim (before_either m.holdings h.object k q mq.holding (λ y. c'.1 (sym y)) (record { holding = mk.holding; there = mk.there; job = mk.job ∙ z; object = mk.object; turns = mk.turns }) mq.there mq.job mq.object) [
                | inl l ↦ without_one_in _ k q (g.between q (subst (λ y. Before m.holdings h.object y q) (sym z) l) c'.0) c'.1
                | inr l ↦ waits_none _ l
              ];
        })
  ]

  pub faithful_commit : Faithful r (next r m (Commit k)) (plain_one r s (Commit k))
  unfolding next
  faithful_commit =
      subst (λ vs. Faithful r (settle Committed k new_values m) (record { values = vs; pending = filter (λ c. not (is_at k c)) s.pending }))
      (same_values ∙ ap (λ vs. (play r (fresh vs) (calls_of s k)).values) f.values)
      (faithful_settle r m s Committed k new_values sh x f b.runs (length_written k m.versions m.holdings m.values) (λ e i d t h ih jh. met_commit e d t h ih jh (f.met e i h ih jh)))
