-- A job has an execution for each way in which the jobs on which it relies may end, as long as few enough of them abort; and one execution once all have ended.
-- Here the statement, a new book, a begin and an image. Words: `GoesWith`, `ProvidedFor`.
use Rattle.std.proofs.Common.{◌≡◌, ℕ, ◌+◌, ◌<◌, ◌≤◌, true, false, cond, eqb, ◌⊎◌, List, [], ◌∷◌, length, set, replicate, Some, sym, refl, ap, ◌∙◌, subst, inl, inr, arith}
use Rattle.std.proofs.lemmas.Bool.{cases_eq, eqb-true, eq-eqb}
use Rattle.protocol.specs.Assumptions.{aborts_of, assume}
use Rattle.protocol.specs.declared.assumptions.Assumption.{Assumption}
use Rattle.protocol.specs.declared.assumptions.Execution.{Execution}
use Rattle.protocol.specs.declared.assumptions.Version.{Version}
use Rattle.terms.specs.declared.calls.Call.TheVariants.{Begin, Image}
use Rattle.protocol.specs.Holdings.{position}
use Rattle.protocol.specs.Image.{version_by}
use Rattle.protocol.specs.Lists.{In}
use Rattle.protocol.specs.Model.{Model, new, executions_of, names, job_at}
use Rattle.protocol.specs.Places.{has, size}
use Rattle.protocol.specs.Step.{next}
use Rattle.terms.specs.Rule.{Rule}
use Rattle.protocol.proofs.Running.{Runs, RunsIn, ran_before, runs_begun}
use Rattle.protocol.proofs.SetSizes.{size_mono, size_zero}
use Rattle.protocol.proofs.Membership.{none_in, join_cases, in_single, in_meet}
use Rattle.protocol.proofs.SetDigits.{meet}
use Rattle.protocol.proofs.Lists.{in_filter, filter_in, over_append, over_push, append_left, append_right, append_cases, pairs_filter, lone, over_part}
use Rattle.protocol.proofs.Chains.{CommitIn, AbortIn, AssumedIn}
use Rattle.protocol.proofs.Accepted.{Begins}
use Rattle.protocol.proofs.WellFormed.{WellFormed}
use Rattle.protocol.proofs.Consistent.{Consistent, ExecutionsApart}

-- a way in which the running jobs may end is the set ab of those that abort; a goes with it if nothing that a takes is against it
pub record GoesWith (a : Assumption) (ab : ℕ) : Type 0 where
  pub on_commits : (k : ℕ) → CommitIn a k → has ab k ≡ false
  pub on_aborts : (k : ℕ) → AbortIn a k → has ab k ≡ true

-- job p has an execution that goes with ab
abbrev pub ProvidedFor : List Execution → ℕ → ℕ → Type 0
ProvidedFor es p ab = (e : Execution) × In e es × (e.job ≡ p) × GoesWith e.assumes ab

-- relied p: the running jobs on which p relies; gone p: how many on which it relied have aborted
pub record Covered (m : Model) (relied gone : ℕ → ℕ) : Type 0 where
  -- who is relied on runs, and no job relies on itself
  pub running : (p : ℕ) → Runs m p → (k : ℕ) → has (relied p) k ≡ true → Runs m k × (k ≡ p → ⊥)
  -- relied: an execution assumes only about jobs on which its job relies
  pub execution_relied : (e : Execution) → In e m.executions → (k : ℕ) → AssumedIn e.assumes k → has (relied e.job) k ≡ true
  -- and a version only about its maker and those on which the maker relies
  pub version_relied : (v : Version) → In v m.versions → (k : ℕ) → AssumedIn v.assumes k → (k ≡ v.maker) ⊎ (has (relied v.maker) k ≡ true)
  -- counted: a tally is at most the relied-on jobs that aborted and those now taken to abort
  pub counted : (e : Execution) → In e m.executions → e.tally ≤ gone e.job + size (aborts_of e.assumes)
  -- complete: where each relied-on job that commits in ab has an execution for it, and few enough abort, p has one too
  pub complete : (p : ℕ) → Runs m p → (ab : ℕ) → ((k : ℕ) → has (relied p) k ≡ true → has ab k ≡ false → ProvidedFor m.executions k ab)
      → gone p + size (meet (relied p) ab) ≤ m.robustness → ProvidedFor m.executions p ab

-- ---- all relied-on jobs have ended: one execution
pub one_execution : (m : Model) (relied gone : ℕ → ℕ) → Consistent m → Covered m relied gone → (p : ℕ) → Runs m p → ((k : ℕ) → has (relied p) k ≡ true → ⊥) → gone p ≤ m.robustness → length (executions_of p m) ≡ 1
one_execution m relied gone x y p runs none few =
    let a = y.complete p runs 0 (λ k i e. absurd (none k i)) (omega (arith, few, no_count)) in
    ap length (lone ExecutionsApart (executions_of p m) a.0 (pairs_filter ExecutionsApart (names p) m.executions x.executions_apart) (λ e f i j c.
    let ie = in_filter (names p) m.executions e i in
    let pe = eqb-true e.job p ie.1 in
    let k = c (pe ∙ sym (eqb-true f.job p (in_filter (names p) m.executions f j).1)) in
    elim k.1 [ inl z ↦ empty e ie.0 pe _ (inl z.0) | inr z ↦ empty e ie.0 pe _ (inr z.0) ])
    (filter_in (names p) m.executions a.0 a.1 (eq-eqb _ _ a.2)))
  where
    no_count : size (meet (relied p) 0) ≤ 0
    no_count = omega (arith, size_mono (meet (relied p) 0) 0 (λ k h. (in_meet (relied p) 0 k h).1), size_zero)

    empty : (e : Execution) → In e m.executions → e.job ≡ p → (k : ℕ) → AssumedIn e.assumes k → ⊥
    empty e i j k s = none k (subst (λ q. has (relied q) k ≡ true) j (y.execution_relied e i k s))

-- ---- a new book, a begin, an image
pub covered_new : (r l : ℕ) (values : List ℕ) → ((p : ℕ) → Runs (new r l values) p → ⊥) → Covered (new r l values) (λ q. 0) (λ q. 0)
unfolding new
covered_new r l values idle = record { running = λ p h. absurd (idle p h); execution_relied = λ e i. absurd i; version_relied = λ v i. absurd i; counted = λ e i. absurd i; complete = λ p h. absurd (idle p h) }

-- nothing, for the job that begins at p
abbrev pub reset : ℕ → (ℕ → ℕ) → ℕ → ℕ
reset p f q = cond (eqb q p) 0 (f q)

pub covered_begin : (r : Rule) (m : Model) (p k a : ℕ) (relied gone : ℕ → ℕ) → Begins m p → WellFormed m → Covered m relied gone → Covered (next r m (Begin p k a)) (reset p relied) (reset p gone)
unfolding next
covered_begin r m p k a relied gone b sh y = record {
  running = λ q h j i. elim (cases_eq q p) [
    | inl e ↦ none_in j (grind (arith, e, i))
    | inr n ↦ let w = y.running q (old_run q n h) j (grind (arith, n, i)) in (runs_begun m.jobs p j (record { kind = k; argument = a }) inside w.0, w.1)
  ];
  execution_relied = over_push (λ e. (k : ℕ) → AssumedIn e.assumes k → has (reset p relied e.job) k ≡ true) m.executions _
      (λ e i k s. grind (arith, not_p _ (sh.worked_by e i).0, y.execution_relied e i k s))
      (λ k. elim [ inl c ↦ none_in k c | inr c ↦ none_in k c ]);
  version_relied = λ v i k s. let h = sh.made_by v i in grind (arith, y.version_relied v i k s, not_p _ (subst (Runs m) h.2 (sh.held_by h.0 h.1).0));
  counted = over_push (λ e. e.tally ≤ reset p gone e.job + size (aborts_of e.assumes)) m.executions _
      (λ e i. grind (arith, y.counted e i, not_p _ (sh.worked_by e i).0)) (omega arith);
  complete = λ q h ab f l. elim (cases_eq q p) [
    | inl e ↦ (begun, append_right m.executions _ _ (inl refl), sym e, record { on_commits = λ k c. none_in k c; on_aborts = λ k c. none_in k c })
    | inr n ↦
        let w = y.complete q (old_run q n h) ab (λ j i u.
        let g = f j (grind (arith, n, i)) u in
        let run_j = (y.running q (old_run q n h) j i).0 in
        elim (append_cases m.executions _ g.0 g.1) [
          | inl o ↦ (g.0, o, g.2, g.3)
          | inr o ↦ elim o [ inl e ↦ absurd (b.idle (subst (Runs m) (sym (ap (λ z. z.job) e ∙ g.2)) run_j)) | inr z ↦ absurd z ]
        ])
        (grind (arith, l, n)) in
        (w.0, append_left m.executions (begun ∷ []) w.0 w.1, w.2, w.3)
  ];
}
  where
    begun : Execution
    begun = record { job = p; assumes = assume 0 0; work = r.start k a; tally = 0; met = replicate 8 0 }

    inside : p < length m.jobs
    inside = omega (arith, sh.places, b.small)

    not_p : (q : ℕ) → Runs m q → q ≡ p → ⊥
    not_p q h e = b.idle (subst (Runs m) e h)

    old_run : (q : ℕ) → (q ≡ p → ⊥) → RunsIn (set m.jobs p (Some (record { kind = k; argument = a }))) q → Runs m q
    old_run q n h = ran_before m.jobs p q (Some (record { kind = k; argument = a })) n h

pub covered_image : (r : Rule) (m : Model) (p o : ℕ) (relied gone : ℕ → ℕ) → Covered m relied gone → Covered (next r m (Image p o)) relied gone
unfolding next
covered_image r m p o relied gone y = record {
  running = y.running;
  execution_relied = y.execution_relied;
  version_relied = over_append _ m.versions _ y.version_relied (over_part _ (version_by r (job_at m p) o (position p o m.holdings)) _ m.executions (λ e i t k.
      elim [ inl c ↦ elim (join_cases _ _ k c) [ inl d ↦ inr (y.execution_relied e i k (inl d)) | inr d ↦ inl (sym (in_single _ _ d)) ] | inr c ↦ inr (y.execution_relied e i k (inr c)) ]));
  counted = y.counted;
  complete = y.complete;
}
