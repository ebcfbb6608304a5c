-- An image keeps the book with the plain run: each new version has the value that the job's calls now give.
use Rattle.std.proofs.Common.{◌≡◌, ℕ, ◌<◌, true, ◌⊎◌, List, [], ◌∷◌, ◌++◌, map, length, get_or, sym, refl, ap, ◌∙◌, subst₂, inl, inr, arith, get_or-set_other, get_or-set_same}
use Rattle.std.specs.Prelude.{filter}
use Rattle.std.proofs.lemmas.Bool.{cases_eq, eq-eqb, ne_eqb, and_from, and_left, and_right}
use Rattle.protocol.specs.declared.holdings.Holding.{Holding}
use Rattle.protocol.specs.declared.assumptions.Execution.{Execution}
use Rattle.protocol.specs.declared.assumptions.Version.{Version}
use Rattle.terms.specs.declared.calls.Call.{Call}
use Rattle.terms.specs.declared.calls.Call.TheVariants.{Image}
use Rattle.protocol.specs.Holdings.{holds, turned, turn, turn_state, position}
use Rattle.protocol.specs.Image.{version_by}
use Rattle.protocol.specs.Lists.{In}
use Rattle.protocol.specs.Model.{Model, executions_of, names, job_at, kind_of, argument_of}
use Rattle.protocol.specs.Past.{place_of, is_at}
use Rattle.protocol.specs.PlainRun.{play_one, play, fresh, Plain, plain_one}
use Rattle.protocol.specs.Step.{next}
use Rattle.terms.specs.Rule.{Rule}
use Rattle.protocol.proofs.Running.{Runs}
use Rattle.protocol.proofs.Membership.{join_cases, in_single}
use Rattle.protocol.proofs.HoldingStates.{same_state, turned_turn, open_turns}
use Rattle.protocol.proofs.Lists.{filter_in, over_push, append_left, append_right, in_map, map_in, over_map}
use Rattle.protocol.proofs.Positions.{position_turn}
use Rattle.protocol.proofs.Playing.{length_play}
use Rattle.protocol.proofs.Accepted.{Images}
use Rattle.protocol.proofs.Before.{Before, before_turn, turn_before}
use Rattle.protocol.proofs.WellFormed.{WellFormed, not_both}
use Rattle.protocol.proofs.Faithful.{Agrees, MetStore, MetVersion, Made, HasTurned, calls_of, Faithful, push_own, push_other, push_keeps}

module _ (r : Rule) (m : Model) (s : Plain) (p o : ℕ) (b : Images m p o) (sh : WellFormed m) (f : Faithful r m s) where
  abbrev hs : List Holding
  hs = m.holdings

  abbrev hs' : List Holding
  hs' = map (turn p o) m.holdings

  abbrev n : ℕ
  n = length m.values

  abbrev image : Call
  image = Image p o

  abbrev made_from : Execution → Version
  made_from e = version_by r (job_at m p) o (position p o hs) e

  abbrev vs' : List Version
  vs' = m.versions ++ map made_from (executions_of p m)

  not_yet : HasTurned hs p o → ⊥
  not_yet t = not_both m p o sh b t.0 t.1 t.2 t.3 t.4

  turns_new : (q x : ℕ) → HasTurned hs q x → HasTurned hs' q x
  turns_new q x t = (turn p o t.0, map_in (turn p o) hs t.0 t.1, t.2, t.3, turned_turn _ _ t.4)

  here : HasTurned hs' p o
  here = let h = b.opens in (turn p o h.0, map_in (turn p o) hs h.0 h.1, h.2, h.3, open_turns _ _ (and_from _ _ (eq-eqb _ _ h.2) (eq-eqb _ _ h.3)) h.4)

  turns_old : (q x : ℕ) → HasTurned hs' q x → HasTurned hs q x ⊎ ((q ≡ p) × (x ≡ o))
  turns_old q x t =
      let w = in_map (turn p o) hs t.0 t.1 in
      let job : w.0.job ≡ q = ap (λ h. h.job) w.2 ∙ t.2 in
      let object : w.0.object ≡ x = ap (λ h. h.object) w.2 ∙ t.3 in
      let now : turned (turn_state (holds p o w.0) w.0.state) ≡ true = ap (λ h. turned h.state) w.2 ∙ t.4 in
      elim (cases_eq q p) [
        | inl e ↦ elim (cases_eq x o) [
          | inl d ↦ inr (e, d)
          | inr d ↦ inl (w.0, w.1, job, object, same_state (holds p o w.0) _ (and_right _ _ (ne_eqb _ _ (λ z. d (sym object ∙ z)))) now)
        ]
        | inr d ↦ inl (w.0, w.1, job, object, same_state (holds p o w.0) _ (and_left _ _ (ne_eqb _ _ (λ z. d (sym job ∙ z)))) now)
      ]

  agrees_old : (e : Execution) (ys : List ℕ) → Agrees hs' n e ys → Agrees hs n e ys
  agrees_old e ys g = record { long = g.long; meets = λ h i q. g.meets (turn p o h) (map_in (turn p o) hs h i) q ∙ ap (λ x. get_or e.met x 0) (position_turn p o e.job h.object hs) }

  before_old : (x q j : ℕ) → Before hs' x q j → Before hs x q j
  before_old = before_turn p o hs sh.last

  -- ---- the new versions
  module _ (e : Execution) (ie : In e m.executions) (je : p ≡ e.job) where
    there_new : In (made_from e) vs'
    there_new = append_right m.versions _ _ (map_in made_from (executions_of p m) e (filter_in (names p) m.executions e ie (eq-eqb _ _ (sym je))))

    push : (ys : List ℕ) → play r (fresh ys) (filter (is_at e.job) (s.pending ++ image ∷ [])) ≡ play_one r (play r (fresh ys) (calls_of s e.job)) image
    push ys = push_own r s.pending image e.job je ys

    value_new : (ys : List ℕ) → Agrees hs' n e ys → get_or (play r (fresh ys) (filter (is_at e.job) (s.pending ++ image ∷ []))).values o 0 ≡ (made_from e).value
    value_new ys g =
        let k = f.kind e.job (sh.worked_by e ie).0 ys in
        let K : (play r (fresh ys) (calls_of s e.job)).kind ≡ kind_of (job_at m p) = k.0 ∙ ap (λ q. kind_of (job_at m q)) (sym je) in
        let A : (play r (fresh ys) (calls_of s e.job)).argument ≡ argument_of (job_at m p) = k.1 ∙ ap (λ q. argument_of (job_at m q)) (sym je) in
        let W = f.work e ie ys (agrees_old e ys g) in
        let h = b.opens in
        let M : get_or ys o 0 ≡ get_or e.met (position p o hs) 0 =
        ap (λ x. get_or ys x 0) (sym h.3) ∙ (agrees_old e ys g).meets h.0 h.1 (h.2 ∙ je) ∙ ap (λ x. get_or e.met (position e.job x hs) 0) h.3 ∙ ap (λ q. get_or e.met (position q o hs) 0) (sym je) in
        let V : get_or (play r (fresh ys) (calls_of s e.job)).values o 0 ≡ get_or e.met (position p o hs) 0 = f.others e.job o (λ t. not_yet (t.0, t.1, t.2 ∙ sym je, t.3, t.4)) ys ∙ M in
        let L : o < length (play r (fresh ys) (calls_of s e.job)).values = omega (arith, length_play r (fresh ys) (calls_of s e.job), g.long, b.object) in
        ap (λ t. get_or t.values o 0) (push ys) ∙ get_or-set_same (play r (fresh ys) (calls_of s e.job)).values o _ 0 L ∙ (λ i. r.give (K i) (A i) (W i) o (V i))

    made_own : (x : ℕ) → HasTurned hs' e.job x → Made r (filter (is_at e.job) (s.pending ++ image ∷ [])) hs' vs' n e x
    made_own x t = elim (cases_eq x o) [
      | inl d ↦ record {
        version = made_from e;
        there = there_new;
        object = sym d;
        maker = refl;
        on_commits = λ k c. elim (join_cases _ _ k c) [ inl i ↦ inl i | inr i ↦ inr (sym (in_single _ _ i)) ];
        on_aborts = λ k c. c;
        value = λ ys g. ap (λ z. get_or (play r (fresh ys) (filter (is_at e.job) (s.pending ++ image ∷ []))).values z 0) d ∙ value_new ys g;
      }
      | inr d ↦ elim (turns_old e.job x t) [
        | inr z ↦ absurd (d z.1)
        | inl u ↦ let w = f.made e ie x u in record {
          version = w.version;
          there = append_left m.versions _ _ w.there;
          object = w.object;
          maker = w.maker;
          on_commits = w.on_commits;
          on_aborts = w.on_aborts;
          value = λ ys g. ap (λ t. get_or t.values x 0) (push ys) ∙ get_or-set_other (play r (fresh ys) (calls_of s e.job)).values o x _ 0 d ∙ w.value ys (agrees_old e ys g);
        }
      ]
    ]

  made_other : (e : Execution) → In e m.executions → (p ≡ e.job → ⊥) → (x : ℕ) → HasTurned hs' e.job x → Made r (filter (is_at e.job) (s.pending ++ image ∷ [])) hs' vs' n e x
  made_other e ie d x t = elim (turns_old e.job x t) [
    | inr z ↦ absurd (d (sym z.0))
    | inl u ↦ let w = f.made e ie x u in record {
      version = w.version;
      there = append_left m.versions _ _ w.there;
      object = w.object;
      maker = w.maker;
      on_commits = w.on_commits;
      on_aborts = w.on_aborts;
      value = λ ys g. ap (λ cs. get_or (play r (fresh ys) cs).values x 0) (push_other r s.pending image e.job d) ∙ w.value ys (agrees_old e ys g);
    }
  ]

  met_turn : (e : Execution) (x : ℕ) → MetStore hs m.values e x ⊎ MetVersion hs m.versions e x → MetStore hs' m.values e x ⊎ MetVersion hs' vs' e x
  met_turn e x (inl w) = inl (record { value = ap (λ i. get_or e.met i 0) (position_turn p o e.job x hs) ∙ w.value; before = λ q c. w.before q (before_old x q _ c) })
  met_turn e x (inr w) = inr (record {
    version = w.version;
    there = append_left m.versions _ _ w.there;
    object = w.object;
    within = w.within;
    value = ap (λ i. get_or e.met i 0) (position_turn p o e.job x hs) ∙ w.value;
    maker = turn_before p o hs x _ _ w.maker;
    between = λ q c l. w.between q (before_old x _ q c) (before_old x q _ l);
  })

  pub faithful_image : Faithful r (next r m (Image p o)) (plain_one r s (Image p o))
  unfolding next
  faithful_image = record {
    values = f.values;
    runs = over_push (λ c. Runs m (place_of c)) s.pending image f.runs b.runs;
    kind = λ q h ys. let w = f.kind q h ys in (push_keeps r s.pending image q (λ t. t.kind) (λ t. refl) ys ∙ w.0, push_keeps r s.pending image q (λ t. t.argument) (λ t. refl) ys ∙ w.1);
    others = λ q x t ys. let w = f.others q x (λ u. t (turns_new q x u)) ys in elim (cases_eq p q) [
      | inl e ↦ ap (λ t. get_or t.values x 0) (push_own r s.pending image q e ys)
          ∙ get_or-set_other (play r (fresh ys) (calls_of s q)).values o x _ 0 (λ d. t (subst₂ (λ a z. HasTurned hs' a z) e (sym d) here)) ∙ w
      | inr d ↦ ap (λ cs. get_or (play r (fresh ys) cs).values x 0) (push_other r s.pending image q d) ∙ w
    ];
    work = λ e i ys g. push_keeps r s.pending image e.job (λ t. t.work) (λ t. refl) ys ∙ f.work e i ys (agrees_old e ys g);
    made = λ e i x t. elim (cases_eq p e.job) [ inl d ↦ made_own e i d x t | inr d ↦ made_other e i d x t ];
    met = λ e i. over_map (λ h. h.job ≡ e.job → MetStore hs' m.values e h.object ⊎ MetVersion hs' vs' e h.object) (turn p o) hs (λ h j d. met_turn e h.object (f.met e i h j d));
  }
