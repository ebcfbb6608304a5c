-- A lock keeps the book with the plain run: each pair met what it was offered, and its working value is one take further.
use Rattle.std.proofs.Common.{◌≡◌, ℕ, true, not, ◌⊎◌, List, [], ◌∷◌, ◌++◌, length, get_or, set, sym, refl, ap, ◌∙◌, subst, inl, inr, arith, get_or-set_other, get_or-set_same}
use Rattle.std.specs.Prelude.{filter}
use Rattle.std.proofs.lemmas.Bool.{eqb-false, not-true}
use Rattle.terms.specs.declared.modes.Mode.{Mode}
use Rattle.protocol.specs.Assumptions.{commits_of, aborts_of}
use Rattle.protocol.specs.declared.holdings.Holding.{Holding}
use Rattle.protocol.specs.declared.assumptions.Execution.{Execution}
use Rattle.terms.specs.declared.calls.Call.{Call}
use Rattle.terms.specs.declared.calls.Call.TheVariants.{Lock}
use Rattle.protocol.specs.Holdings.{held_by, begins, turned, position}
use Rattle.protocol.specs.Lists.{In}
use Rattle.protocol.specs.Model.{Model, holding_count, names, job_at, kind_of, argument_of}
use Rattle.protocol.specs.Pairing.{offers, pairing}
use Rattle.protocol.specs.Past.{place_of, is_at}
use Rattle.protocol.specs.PairingLaws.{Makes}
use Rattle.protocol.specs.Places.{has}
use Rattle.protocol.specs.PlainRun.{play_one, play, fresh, Plain, plain_one}
use Rattle.protocol.specs.Step.{next}
use Rattle.terms.specs.Rule.{Rule}
use Rattle.protocol.specs.declared.assumptions.Offer.{Offer}
use Rattle.protocol.proofs.Running.{Runs}
use Rattle.protocol.proofs.Membership.{join_left, join_right}
use Rattle.protocol.proofs.Lists.{over_push, append_left, append_right, append_cases}
use Rattle.protocol.proofs.Positions.{position_push, position_new, position_below}
use Rattle.protocol.proofs.Accepted.{Locks}
use Rattle.protocol.proofs.Makers.{why_makers}
use Rattle.protocol.proofs.Before.{Before, before_maker, before_push, before_more, before_new, before_later}
use Rattle.protocol.proofs.WellFormed.{WellFormed, maker_of, over_offers, over_locked}
use Rattle.protocol.proofs.Faithful.{met_at, Agrees, MetStore, MetVersion, Made, HasTurned, calls_of, Faithful, push_own, push_other, push_keeps}

not_turned : (mode : Mode) → turned (begins mode) ≡ true → ⊥
not_turned mode e = grind (arith, e)

module _ (r : Rule) (m : Model) (s : Plain) (p o : ℕ) (mode : Mode) (b : Locks m p o mode) (sh : WellFormed m) (f : Faithful r m s) where
  abbrev h' : Holding
  h' = record { job = p; object = o; state = begins mode }

  abbrev hs : List Holding
  hs = m.holdings

  abbrev hs' : List Holding
  hs' = m.holdings ++ h' ∷ []

  abbrev n : ℕ
  n = length m.values

  abbrev lock : Call
  lock = Lock p o mode

  -- the new holding is not turned
  turns_old : (q x : ℕ) → HasTurned hs' q x → HasTurned hs q x
  turns_old q x t = elim (append_cases hs (h' ∷ []) t.0 t.1) [
    | inl i ↦ (t.0, i, t.2, t.3, t.4)
    | inr i ↦ elim i [ inl e ↦ absurd (not_turned mode (ap (λ g. turned g.state) e ∙ t.4)) | inr z ↦ absurd z ]
  ]

  turns_new : (q x : ℕ) → HasTurned hs q x → HasTurned hs' q x
  turns_new q x t = (t.0, append_left hs (h' ∷ []) t.0 t.1, t.2, t.3, t.4)

  -- ---- executions of other jobs
  position_old : (q x : ℕ) (h : Holding) → In h hs → h.job ≡ q → h.object ≡ x → position q x hs' ≡ position q x hs
  position_old q x h i e g = position_push q x hs h' h i e g

  agrees_old : (e : Execution) (ys : List ℕ) → Agrees hs' n e ys → Agrees hs n e ys
  agrees_old e ys g = record { long = g.long; meets = λ h i q. g.meets h (append_left hs _ h i) q ∙ ap (λ x. get_or e.met x 0) (position_old e.job h.object h i q refl) }

  old_holding : (e : Execution) → (e.job ≡ p → ⊥) → (h : Holding) → In h hs' → h.job ≡ e.job → In h hs
  old_holding e d h i q = grind (arith, d, q, append_cases hs (h' ∷ []) h i)

  -- no maker has come before a job other than p
  before_old : (x q j : ℕ) → (j ≡ p → ⊥) → Before hs' x q j → Before hs x q j
  before_old x q j d c = grind (arith, d, before_push hs h' x q j c)

  met_old : (e : Execution) (h : Holding) → (e.job ≡ p → ⊥) → In h hs → h.job ≡ e.job → MetStore hs m.values e h.object ⊎ MetVersion hs m.versions e h.object
      → MetStore hs' m.values e h.object ⊎ MetVersion hs' m.versions e h.object
  met_old e h d i j (inl w) = inl (record {
    value = ap (λ x. get_or e.met x 0) (position_old e.job h.object h i j refl) ∙ w.value;
    before = λ q c. w.before q (before_old _ q _ d c);
  })
  met_old e h d i j (inr w) = inr (record {
    version = w.version;
    there = w.there;
    object = w.object;
    within = w.within;
    value = ap (λ x. get_or e.met x 0) (position_old e.job h.object h i j refl) ∙ w.value;
    maker = before_more hs h' _ _ _ w.maker;
    between = λ q c l. elim (before_push hs h' _ _ q c) [
      | inl c' ↦ w.between q c' (before_old _ q _ d l)
      | inr c' ↦ let mk = before_maker hs _ q _ (before_old _ q _ d l) in absurd (b.new mk.holding mk.there (mk.job ∙ sym c'.0) (mk.object ∙ sym c'.1))
    ];
  })

  -- ---- the new executions
  module _ (e : Execution) (ie : In e m.executions) (je : e.job ≡ p) (y : Offer) (iy : In y (offers m o)) where
    abbrev e' : Execution
    e' = pairing r m p o mode e y

    slot : position e.job o hs' ≡ holding_count m p
    slot = ap (λ q. position q o hs') je ∙ position_new p o hs h' b.new refl refl

    new_met : met_at hs' e' o ≡ y.value
    new_met = ap (λ x. get_or (set e.met (holding_count m p) y.value) x 0) slot ∙ get_or-set_same e.met (holding_count m p) y.value 0 (omega (arith, b.few, (sh.worked_by e ie).1))

    old_met : (h : Holding) → In h hs → h.job ≡ e.job → met_at hs' e' h.object ≡ met_at hs e h.object
    old_met h i j =
        let inside = position_below e.job h.object hs h i j refl in
        let same = ap (λ q. length (filter (held_by q) hs)) je in
        ap (λ x. get_or (set e.met (holding_count m p) y.value) x 0) (position_old e.job h.object h i j refl)
        ∙ get_or-set_other e.met (holding_count m p) (position e.job h.object hs) y.value 0 (λ q. omega arith)

    agrees_pair : (ys : List ℕ) → Agrees hs' n e' ys → Agrees hs n e ys
    agrees_pair ys g = record { long = g.long; meets = λ h i q. g.meets h (append_left hs _ h i) q ∙ old_met h i q }

    push : (ys : List ℕ) → play r (fresh ys) (filter (is_at e.job) (s.pending ++ lock ∷ [])) ≡ play_one r (play r (fresh ys) (calls_of s e.job)) lock
    push ys = push_own r s.pending lock e.job (sym je) ys

    -- p has not turned o
    not_yet : HasTurned hs e.job o → ⊥
    not_yet t = b.new t.0 t.1 (t.2 ∙ je) t.3

    work_new : (ys : List ℕ) → Agrees hs' n e' ys → (play r (fresh ys) (filter (is_at e.job) (s.pending ++ lock ∷ []))).work ≡ e'.work
    work_new ys g =
        let k = f.kind e.job (sh.worked_by e ie).0 ys in
        let K : (play r (fresh ys) (calls_of s e.job)).kind ≡ kind_of (job_at m p) = k.0 ∙ ap (λ q. kind_of (job_at m q)) je in
        let A : (play r (fresh ys) (calls_of s e.job)).argument ≡ argument_of (job_at m p) = k.1 ∙ ap (λ q. argument_of (job_at m q)) je in
        let W = f.work e ie ys (agrees_pair ys g) in
        let V : get_or (play r (fresh ys) (calls_of s e.job)).values o 0 ≡ y.value = f.others e.job o not_yet ys ∙ g.meets h' (append_right hs _ h' (inl refl)) (sym je) ∙ new_met in
        ap (λ t. t.work) (push ys) ∙ (λ i. r.take (K i) (A i) (W i) o mode (V i))

    made_new : (x : ℕ) → HasTurned hs' e.job x → Made r (filter (is_at e.job) (s.pending ++ lock ∷ [])) hs' m.versions n e' x
    made_new x t =
        let w = f.made e ie x (turns_old _ x t) in
        record {
          version = w.version;
          there = w.there;
          object = w.object;
          maker = w.maker;
          on_commits = λ k c. elim (w.on_commits k c) [ inl d ↦ inl (join_left _ _ k d) | inr d ↦ inr d ];
          on_aborts = λ k c. join_left _ _ k (w.on_aborts k c);
          value = λ ys g. ap (λ t. get_or t.values x 0) (push ys) ∙ w.value ys (agrees_pair ys g);
        }

    before_pair : (x q : ℕ) (h : Holding) → In h hs → h.job ≡ e.job → h.object ≡ x → Before hs' x q e.job → Before hs x q e.job
    before_pair x q h i j g c = grind (arith, before_push hs h' x q e.job c, b.new h i, j, je, g)

    -- what it met at the objects held before
    met_pair : (h : Holding) → In h hs → h.job ≡ e.job → MetStore hs m.values e h.object ⊎ MetVersion hs m.versions e h.object
        → MetStore hs' m.values e' h.object ⊎ MetVersion hs' m.versions e' h.object
    met_pair h i j (inl w) = inl (record { value = old_met h i j ∙ w.value; before = λ q c. join_left _ _ q (w.before q (before_pair _ q h i j refl c)) })
    met_pair h i j (inr w) = inr (record {
      version = w.version;
      there = w.there;
      object = w.object;
      within = record { on_commits = λ k c. join_left _ _ k (w.within.on_commits k c); on_aborts = λ k c. join_left _ _ k (w.within.on_aborts k c) };
      value = old_met h i j ∙ w.value;
      maker = before_more hs h' _ _ _ w.maker;
      between = λ q c l. elim (before_push hs h' _ _ q c) [
        | inl c' ↦ join_left _ _ q (w.between q c' (before_pair _ q h i j refl l))
        | inr c' ↦ absurd (b.new h i (j ∙ je) (sym c'.1))
      ];
    })

  -- what it met at o
  met_here : (e : Execution) (ie : In e m.executions) (je : e.job ≡ p) (y : Offer) (iy : In y (offers m o)) → MetStore hs' m.values (e' e ie je y iy) o ⊎ MetVersion hs' m.versions (e' e ie je y iy) o
  met_here e ie je y iy = over_offers (λ z. z ≡ y → MetStore hs' m.values (e' e ie je y iy) o ⊎ MetVersion hs' m.versions (e' e ie je y iy) o) m o
      (λ same. inl (record {
        value = new_met e ie je y iy ∙ sym (ap (λ z. z.value) same);
        before = λ q c. join_right _ _ q (subst (λ (z : Offer). has (aborts_of z.assumes) q ≡ true) same (why_makers hs o q (maker_before q c)));
      }))
      (λ v i d same. inr (record {
        version = v;
        there = i;
        object = d;
        within = record { on_commits = λ k c. join_right _ _ k (subst (λ (z : Offer). has (commits_of z.assumes) k ≡ true) same c); on_aborts = λ k c. join_right _ _ k (subst (λ (z : Offer). has (aborts_of z.assumes) k ≡ true) same (join_left _ _ k c)) };
        value = new_met e ie je y iy ∙ sym (ap (λ z. z.value) same);
        maker = subst (λ q. Before hs' o v.maker q) (sym je) (before_new hs h' o v.maker refl (maker_of m sh o v i d));
        between = λ q c l. join_right _ _ q (subst (λ (z : Offer). has (aborts_of z.assumes) q ≡ true) same (join_right _ _ q
            (elim (before_push hs h' o v.maker q c) [
              | inl c' ↦ before_later hs o v.maker q c' (maker_before q l) sh.once
              | inr c' ↦ let mk = maker_before q l in absurd (b.new mk.holding mk.there (mk.job ∙ sym c'.0) mk.object)
            ])));
      }))
      y iy refl
    where
      maker_before : (q : ℕ) → Before hs' o q e.job → Makes hs o q
      maker_before q c = elim (before_push hs h' o q e.job c) [ inl l ↦ before_maker hs o q _ l | inr l ↦ l.2 ]

  pub faithful_lock : Faithful r (next r m (Lock p o mode)) (plain_one r s (Lock p o mode))
  unfolding next
  faithful_lock = record {
    values = f.values;
    runs = over_push (λ c. Runs m (place_of c)) s.pending lock f.runs b.runs;
    kind = λ q h ys. let w = f.kind q h ys in (push_keeps r s.pending lock q (λ t. t.kind) (λ t. refl) ys ∙ w.0, push_keeps r s.pending lock q (λ t. t.argument) (λ t. refl) ys ∙ w.1);
    others = λ q x t ys. push_keeps r s.pending lock q (λ t. get_or t.values x 0) (λ t. refl) ys ∙ f.others q x (λ u. t (turns_new q x u)) ys;
    work = over_locked (λ e. (ys : List ℕ) → Agrees hs' n e ys → (play r (fresh ys) (filter (is_at e.job) (s.pending ++ lock ∷ []))).work ≡ e.work) r m p o mode (λ e i t ys g. ap (λ cs. (play r (fresh ys) cs).work) (push_other r s.pending lock e.job (λ d. other e t (sym d))) ∙ f.work e i ys (agrees_old e ys g)) (λ e i j y l t. work_new e i j y l);
    made = over_locked (λ e. (x : ℕ) → HasTurned hs' e.job x → Made r (filter (is_at e.job) (s.pending ++ lock ∷ [])) hs' m.versions n e x) r m p o mode (λ e i t x u.
        let w = f.made e i x (turns_old _ x u) in
        record {
          version = w.version;
          there = w.there;
          object = w.object;
          maker = w.maker;
          on_commits = w.on_commits;
          on_aborts = w.on_aborts;
          value = λ ys g. ap (λ cs. get_or (play r (fresh ys) cs).values x 0) (push_other r s.pending lock e.job (λ d. other e t (sym d))) ∙ w.value ys (agrees_old e ys g);
        }) (λ e i j y l t. made_new e i j y l);
    met = over_locked (λ e. (h : Holding) → In h hs' → h.job ≡ e.job → MetStore hs' m.values e h.object ⊎ MetVersion hs' m.versions e h.object) r m p o mode (λ e i t h k d. let old = old_holding e (other e t) h k d in met_old e h (other e t) old d (f.met e i h old d)) (λ e i j y l t h k d. over_push (λ h. h.job ≡ e.job → MetStore hs' m.values (e' e i j y l) h.object ⊎ MetVersion hs' m.versions (e' e i j y l) h.object) hs h'
        (λ h k d. met_pair e i j y l h k d (f.met e i h k d)) (λ d. met_here e i j y l) h k d);
  }
    where
      other : (e : Execution) → not (names p e) ≡ true → e.job ≡ p → ⊥
      other e t d = eqb-false _ _ (not-true _ t) d
