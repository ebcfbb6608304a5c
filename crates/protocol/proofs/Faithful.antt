-- The book follows the plain run: what each execution met, worked out and made is what the job's own calls give on the values met.
-- Here the statement, a new book and a begin. Words: `play` of specs/PlainRun, `Before`.
use Rattle.std.proofs.Common.{◌≡◌, ℕ, ◌<◌, true, ◌⊎◌, List, [], ◌∷◌, ◌++◌, length, get_or, set, Some, None, sym, refl, ap, ◌∙◌, subst, inl, inr, arith, get_or-set_other, get_or-set_same}
use Rattle.std.specs.Prelude.{is_some, filter}
use Rattle.std.proofs.lemmas.Bool.{cases_eq, eqb-true, eq-eqb, ne_eqb}
use Rattle.protocol.specs.declared.holdings.Holding.{Holding}
use Rattle.protocol.specs.declared.assumptions.Execution.{Execution}
use Rattle.protocol.specs.declared.assumptions.Version.{Version}
use Rattle.protocol.specs.declared.jobs.Job.{Job}
use Rattle.terms.specs.declared.calls.Call.{Call}
use Rattle.terms.specs.declared.calls.Call.TheVariants.{Begin}
use Rattle.protocol.specs.Holdings.{turned, position}
use Rattle.protocol.specs.Lists.{In}
use Rattle.protocol.specs.Model.{Model, new, job_at, kind_of, argument_of}
use Rattle.protocol.specs.Past.{place_of, is_at}
use Rattle.protocol.specs.PlainRun.{Playing, play_one, play, fresh, Plain, plain_one}
use Rattle.protocol.specs.Step.{next}
use Rattle.terms.specs.Rule.{Rule}
use Rattle.protocol.proofs.Running.{Runs, nobody_runs}
use Rattle.protocol.proofs.Lists.{over_push}
use Rattle.protocol.proofs.Filters.{filter_push_yes, filter_push_no, filter_none}
use Rattle.protocol.proofs.Playing.{play_push}
use Rattle.protocol.proofs.Chains.{CommitIn, AbortIn, Within}
use Rattle.protocol.proofs.Accepted.{Begins}
use Rattle.protocol.proofs.Before.{Before}
use Rattle.protocol.proofs.WellFormed.{WellFormed}

-- the value that e met at object o
abbrev pub met_at : List Holding → Execution → ℕ → ℕ
met_at hs e o = get_or e.met (position e.job o hs) 0

-- ys has n values and, at each object that e's job holds, the value that e met
pub record Agrees (hs : List Holding) (n : ℕ) (e : Execution) (ys : List ℕ) : Type 0 where
  pub long : length ys ≡ n
  pub meets : (h : Holding) → In h hs → h.job ≡ e.job → get_or ys h.object 0 ≡ met_at hs e h.object

-- e met the stored value of o, and takes each maker before it to abort
pub record MetStore (hs : List Holding) (values : List ℕ) (e : Execution) (o : ℕ) : Type 0 where
  pub value : met_at hs e o ≡ get_or values o 0
  pub before : (q : ℕ) → Before hs o q e.job → AbortIn e.assumes q

-- e met a version, assumes what it assumes, and takes each maker in between to abort
pub record MetVersion (hs : List Holding) (vs : List Version) (e : Execution) (o : ℕ) : Type 0 where
  pub version : Version
  pub there : In version vs
  pub object : version.object ≡ o
  pub within : Within version.assumes e.assumes
  pub value : met_at hs e o ≡ version.value
  pub maker : Before hs o version.maker e.job
  pub between : (q : ℕ) → Before hs o version.maker q → Before hs o q e.job → AbortIn e.assumes q

-- e's job turned o: a version that e goes with has the value that the plain run of the calls cs makes
pub record Made (r : Rule) (cs : List Call) (hs : List Holding) (vs : List Version) (n : ℕ) (e : Execution) (o : ℕ) : Type 0 where
  pub version : Version
  pub there : In version vs
  pub object : version.object ≡ o
  pub maker : version.maker ≡ e.job
  pub on_commits : (k : ℕ) → CommitIn version.assumes k → CommitIn e.assumes k ⊎ (k ≡ e.job)
  pub on_aborts : (k : ℕ) → AbortIn version.assumes k → AbortIn e.assumes k
  pub value : (ys : List ℕ) → Agrees hs n e ys → get_or (play r (fresh ys) cs).values o 0 ≡ version.value

-- job p has turned o
abbrev pub HasTurned : List Holding → ℕ → ℕ → Type 0
HasTurned hs p o = (h : Holding) × In h hs × (h.job ≡ p) × (h.object ≡ o) × (turned h.state ≡ true)

-- the accepted calls of the job at place p
abbrev pub calls_of : Plain → ℕ → List Call
calls_of s p = filter (is_at p) s.pending

pub record Faithful (r : Rule) (m : Model) (s : Plain) : Type 0 where
  -- plain: the stored values are those of the plain run
  pub values : m.values ≡ s.values
  -- pending calls are of jobs that run
  pub runs : (c : Call) → In c s.pending → Runs m (place_of c)
  -- a job's calls begin with its kind and argument
  pub kind : (p : ℕ) → Runs m p → (ys : List ℕ) → ((play r (fresh ys) (calls_of s p)).kind ≡ kind_of (job_at m p)) × ((play r (fresh ys) (calls_of s p)).argument ≡ argument_of (job_at m p))
  -- they leave alone what the job has not turned
  pub others : (p o : ℕ) → (HasTurned m.holdings p o → ⊥) → (ys : List ℕ) → get_or (play r (fresh ys) (calls_of s p)).values o 0 ≡ get_or ys o 0
  -- work: on the values that e met they give e's working value
  pub work : (e : Execution) → In e m.executions → (ys : List ℕ) → Agrees m.holdings (length m.values) e ys → (play r (fresh ys) (calls_of s e.job)).work ≡ e.work
  -- made: and, at each object that the job has turned, the value of a version that e goes with
  pub made : (e : Execution) → In e m.executions → (o : ℕ) → HasTurned m.holdings e.job o → Made r (calls_of s e.job) m.holdings m.versions (length m.values) e o
  -- met: at each object that the job holds, e met the stored value or a version, and takes each maker in between to abort
  pub met : (e : Execution) → In e m.executions → (h : Holding) → In h m.holdings → h.job ≡ e.job
      → MetStore m.holdings m.values e h.object ⊎ MetVersion m.holdings m.versions e h.object

-- ---- one more call among the pending ones
module _ (r : Rule) (cs : List Call) (c : Call) (q : ℕ) where
  pub push_own : place_of c ≡ q → (ys : List ℕ) → play r (fresh ys) (filter (is_at q) (cs ++ c ∷ [])) ≡ play_one r (play r (fresh ys) (filter (is_at q) cs)) c
  push_own e ys = ap (play r (fresh ys)) (filter_push_yes (is_at q) cs c (eq-eqb _ _ e)) ∙ play_push r (fresh ys) (filter (is_at q) cs) c

  pub push_other : (place_of c ≡ q → ⊥) → filter (is_at q) (cs ++ c ∷ []) ≡ filter (is_at q) cs
  push_other n = filter_push_no (is_at q) cs c (ne_eqb _ _ n)

  -- what the call leaves alone
  pub push_keeps : {X : Type 0} (g : Playing → X) → ((t : Playing) → g (play_one r t c) ≡ g t) → (ys : List ℕ) → g (play r (fresh ys) (filter (is_at q) (cs ++ c ∷ []))) ≡ g (play r (fresh ys) (filter (is_at q) cs))
  push_keeps g k ys = elim (cases_eq (place_of c) q) [
    | inl e ↦ ap g (push_own e ys) ∙ k (play r (fresh ys) (filter (is_at q) cs))
    | inr n ↦ ap (λ ds. g (play r (fresh ys) ds)) (push_other n)
  ]

-- ---- a new book
pub faithful_new : (r : Rule) (x l : ℕ) (values : List ℕ) → Faithful r (new x l values) (record { values = values; pending = [] })
unfolding new play
faithful_new r x l values = record {
  values = refl;
  runs = λ c i. absurd i;
  kind = λ p h ys. absurd (nobody_runs 16 p h);
  others = λ p o n ys. refl;
  work = λ e i. absurd i;
  made = λ e i. absurd i;
  met = λ e i. absurd i;
}

-- ---- a begin
module _ (r : Rule) (m : Model) (s : Plain) (p k a : ℕ) (b : Begins m p) (sh : WellFormed m) (f : Faithful r m s) where
  begin : Call
  begin = Begin p k a

  job : Job
  job = record { kind = k; argument = a }

  -- p has no pending call, no holding, no execution
  no_calls : calls_of s p ≡ []
  no_calls = filter_none (is_at p) s.pending (λ c i t. b.idle (subst (Runs m) (eqb-true _ _ t) (f.runs c i)))

  inside : p < length m.jobs
  inside = omega (arith, sh.places, b.small)

  other_job : (q : ℕ) → Runs m q → p ≡ q → ⊥
  other_job q h e = b.idle (subst (Runs m) (sym e) h)

  at_other : (q : ℕ) → (p ≡ q → ⊥) → get_or (set m.jobs p (Some job)) q None ≡ get_or m.jobs q None
  at_other q n = get_or-set_other m.jobs p q (Some job) None (λ e. n (sym e))

  own_play : (q : ℕ) → p ≡ q → (ys : List ℕ) → play r (fresh ys) (filter (is_at q) (s.pending ++ begin ∷ [])) ≡ play_one r (fresh ys) begin
  unfolding begin play
  own_play q e ys = push_own r s.pending begin q e ys ∙ ap (λ cs. play_one r (play r (fresh ys) cs) begin) (ap (λ x. calls_of s x) (sym e) ∙ no_calls)

  pub faithful_begin : Faithful r (next r m (Begin p k a)) (plain_one r s (Begin p k a))
  unfolding next begin job
  faithful_begin = record {
    values = f.values;
    runs = over_push (λ c. is_some (get_or (set m.jobs p (Some job)) (place_of c) None) ≡ true) s.pending begin
        (λ c i. ap is_some (at_other (place_of c) (other_job _ (f.runs c i))) ∙ f.runs c i) (ap is_some (get_or-set_same m.jobs p (Some job) None inside));
    kind = λ q h ys. elim (cases_eq p q) [
      | inl e ↦ let j : get_or (set m.jobs p (Some job)) q None ≡ Some job = subst (λ x. get_or (set m.jobs p (Some job)) x None ≡ Some job) e (get_or-set_same m.jobs p (Some job) None inside) in
          (ap (λ t. t.kind) (own_play q e ys) ∙ sym (ap kind_of j), ap (λ t. t.argument) (own_play q e ys) ∙ sym (ap argument_of j))
      | inr n ↦ let w = f.kind q (sym (ap is_some (at_other q n)) ∙ h) ys in let o = push_other r s.pending begin q n in
          (ap (λ cs. (play r (fresh ys) cs).kind) o ∙ w.0 ∙ sym (ap kind_of (at_other q n)), ap (λ cs. (play r (fresh ys) cs).argument) o ∙ w.1 ∙ sym (ap argument_of (at_other q n)))
    ];
    others = λ q o n ys. elim (cases_eq p q) [
      | inl e ↦ ap (λ t. get_or t.values o 0) (own_play q e ys)
      | inr d ↦ ap (λ cs. get_or (play r (fresh ys) cs).values o 0) (push_other r s.pending begin q d) ∙ f.others q o n ys
    ];
    work = over_push (λ e. (ys : List ℕ) → Agrees m.holdings (length m.values) e ys → (play r (fresh ys) (filter (is_at e.job) (s.pending ++ begin ∷ []))).work ≡ e.work) m.executions _
        (λ e i ys g. ap (λ cs. (play r (fresh ys) cs).work) (push_other r s.pending begin e.job (other_job _ (sh.worked_by e i).0)) ∙ f.work e i ys g)
        (λ ys g. ap (λ t. t.work) (own_play p refl ys));
    made = over_push (λ e. (o : ℕ) → HasTurned m.holdings e.job o → Made r (filter (is_at e.job) (s.pending ++ begin ∷ [])) m.holdings m.versions (length m.values) e o) m.executions _
        (λ e i o t. subst (λ cs. Made r cs m.holdings m.versions (length m.values) e o) (sym (push_other r s.pending begin e.job (other_job _ (sh.worked_by e i).0))) (f.made e i o t))
        (λ o t. absurd (b.idle (subst (Runs m) t.2 (sh.held_by t.0 t.1).0)));
    met = over_push (λ e. (h : Holding) → In h m.holdings → h.job ≡ e.job → MetStore m.holdings m.values e h.object ⊎ MetVersion m.holdings m.versions e h.object) m.executions _
        f.met
        (λ h i e. absurd (b.idle (subst (Runs m) e (sh.held_by h i).0)));
  }
