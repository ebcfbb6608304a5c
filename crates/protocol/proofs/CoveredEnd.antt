-- The end of a job keeps an execution for each way in which the others may end: the way is made whole by the real ending.
use Rattle.std.proofs.Common.{◌≡◌, ℕ, ◌+◌, ◌<◌, ◌≤◌, true, false, cond, not, ◌&&◌, ◌⊎◌, List, length, sym, ap, ◌∙◌, subst, inl, inr, arith}
use Rattle.std.proofs.lemmas.Bool.{both_ways, cases_eq, ne_eqb, and_parts, and_from}
use Rattle.protocol.specs.Assumptions.{aborts_of}
use Rattle.protocol.specs.declared.assumptions.Assumption.{Assumption}
use Rattle.protocol.specs.declared.assumptions.Execution.{Execution}
use Rattle.protocol.specs.History.{is_aborted}
use Rattle.protocol.specs.Lists.{In}
use Rattle.protocol.specs.Model.{Model}
use Rattle.protocol.specs.Places.{has, single, join, without, size}
use Rattle.protocol.specs.Settling.{survives, settled, settled_execution, settled_version, settle}
use Rattle.protocol.specs.declared.jobs.Ending.{Ending}
use Rattle.protocol.specs.declared.jobs.Ending.TheVariants.{Committed, Aborted}
use Rattle.protocol.proofs.Running.{Runs, runs_ended, ended_runs}
use Rattle.protocol.proofs.SetDigits.{meet, has_join, has_without, has_single}
use Rattle.protocol.proofs.Membership.{in_without_one, without_one_in, meet_in, in_meet}
use Rattle.protocol.proofs.SetSizes.{size_mono, size_less}
use Rattle.protocol.proofs.Lists.{filter_in, map_in, over_part}
use Rattle.protocol.proofs.Chains.{CommitIn, AbortIn, AssumedIn}
use Rattle.protocol.proofs.WellFormed.{WellFormed, runs_small}
use Rattle.protocol.proofs.Covered.{GoesWith, ProvidedFor, Covered}

-- the way ab, with the real ending of k
ended : Ending → ℕ → ℕ → ℕ
ended Committed k ab = without ab (single k)
ended Aborted k ab = join ab (single k)

ended_other : (w : Ending) (k ab c : ℕ) → (c ≡ k → ⊥) → has (ended w k ab) c ≡ has ab c
unfolding ended
ended_other Committed k ab c n = grind (arith, n, has_without ab (single k) c, has_single k c)
ended_other Aborted k ab c n = grind (arith, n, has_join ab (single k) c, has_single k c)

ended_own : (w : Ending) (k ab : ℕ) → has (ended w k ab) k ≡ is_aborted w
unfolding ended
ended_own Committed k ab = grind (arith, has_without ab (single k) k, has_single k k)
ended_own Aborted k ab = grind (arith, has_join ab (single k) k, has_single k k)

module _ (w : Ending) (k : ℕ) (values' : List ℕ) (m : Model) (relied gone : ℕ → ℕ) (sh : WellFormed m) (runs_k : Runs m k) (y : Covered m relied gone)
    -- where k commits it has an execution that goes with every way
    (able_k : (ab : ℕ) → is_aborted w ≡ false → ProvidedFor m.executions k ab) where
  -- k is no longer among the running jobs that are relied on
  abbrev relied' : ℕ → ℕ
  relied' q = without (relied q) (single k)

  -- and counts where it was relied on and aborted
  abbrev gone' : ℕ → ℕ
  gone' q = gone q + cond (has (relied q) k && is_aborted w) 1 0

  survivor_not : (a : Assumption) → survives w k a ≡ true → (CommitIn a k → is_aborted w ≡ false) × (AbortIn a k → is_aborted w ≡ true)
  survivor_not a t = go w t
    where
      go : (w : Ending) → survives w k a ≡ true → (CommitIn a k → is_aborted w ≡ false) × (AbortIn a k → is_aborted w ≡ true)
      go Committed t = grind (arith, t)
      go Aborted t = grind (arith, t)

  goes_before : (a : Assumption) (ab : ℕ) → survives w k a ≡ true → GoesWith (settled k a) ab → GoesWith a (ended w k ab)
  goes_before a ab t g = record {
    on_commits = λ c i. elim (cases_eq c k) [ inl e ↦ grind (arith, e, i, ended_own w k ab, (survivor_not a t).0) | inr n ↦ ended_other w k ab c n ∙ g.on_commits c (without_one_in _ k c i n) ];
    on_aborts = λ c i. elim (cases_eq c k) [ inl e ↦ grind (arith, e, i, ended_own w k ab, (survivor_not a t).1) | inr n ↦ ended_other w k ab c n ∙ g.on_aborts c (without_one_in _ k c i n) ];
  }

  goes_after : (a : Assumption) (ab : ℕ) → GoesWith a (ended w k ab) → GoesWith (settled k a) ab
  goes_after a ab g = record {
    on_commits = λ c i. let l = in_without_one _ k c i in sym (ended_other w k ab c l.1) ∙ g.on_commits c l.0;
    on_aborts = λ c i. let l = in_without_one _ k c i in sym (ended_other w k ab c l.1) ∙ g.on_aborts c l.0;
  }

  goes_survives : (a : Assumption) (ab : ℕ) → GoesWith a (ended w k ab) → survives w k a ≡ true
  goes_survives a ab g = go w (ended_own w k ab) (g.on_commits k) (g.on_aborts k)
    where
      go : (v : Ending) → has (ended w k ab) k ≡ is_aborted v → (CommitIn a k → has (ended w k ab) k ≡ false) → (AbortIn a k → has (ended w k ab) k ≡ true) → survives v k a ≡ true
      go Committed q c d = grind (arith, q, d)
      go Aborted q c d = grind (arith, q, c)

  able_before : (j ab : ℕ) → ProvidedFor (settle w k values' m).executions j ab → ProvidedFor m.executions j (ended w k ab)
  unfolding settle
  able_before j ab a = over_part (λ e. e.job ≡ j → GoesWith e.assumes ab → ProvidedFor m.executions j (ended w k ab)) (settled_execution k) _ m.executions (λ e i t q g. (e, i, q, goes_before e.assumes ab (and_parts _ _ t).1 g)) a.0 a.1 a.2 a.3

  -- the count of those that abort does not grow
  fewer : (q ab : ℕ) → gone q + size (meet (relied q) (ended w k ab)) ≤ gone' q + size (meet (relied' q) ab)
  fewer q ab =
      let both : (j : ℕ) → has (meet (relied q) (ended w k ab)) j ≡ true → (j ≡ k → ⊥) → has (meet (relied' q) ab) j ≡ true =
      λ j h n. let i = in_meet (relied q) (ended w k ab) j h in meet_in (relied' q) ab j (without_one_in _ k j i.0 n) (sym (ended_other w k ab j n) ∙ i.1) in
      let part : ((has (relied q) k && is_aborted w) ≡ false) → size (meet (relied q) (ended w k ab)) ≤ size (meet (relied' q) ab) =
      λ e. size_mono (meet (relied q) (ended w k ab)) (meet (relied' q) ab) (λ j h. both j h (λ z. grind (arith, e, h, z, in_meet (relied q) (ended w k ab) j, ended_own w k ab))) in
      grind (arith, part, size_less (meet (relied q) (ended w k ab)) (meet (relied' q) ab) k both)

  left_count : (e : Execution) → In e m.executions → survives w k e.assumes ≡ true → e.tally ≤ gone' e.job + size (without (aborts_of e.assumes) (single k))
  left_count e i t =
      let less = size_less (aborts_of e.assumes) (without (aborts_of e.assumes) (single k)) k (λ q c n. without_one_in _ k q c n) in
      let part : (has (aborts_of e.assumes) k ≡ false) → size (aborts_of e.assumes) ≤ size (without (aborts_of e.assumes) (single k)) = λ h. size_mono _ _ (λ q c. without_one_in _ k q c (λ z. both_ways _ h (subst (AbortIn e.assumes) z c))) in
      grind (arith, y.counted e i, less, part, y.execution_relied e i k, (survivor_not e.assumes t).1)

  pub covered_settle : Covered (settle w k values' m) relied' gone'
  unfolding settle
  covered_settle = record {
    running = λ q h j i.
        let o = ended_runs m.jobs k q inside h in
        let l = in_without_one _ k j i in
        let n = y.running q o.0 j l.0 in
        (runs_ended m.jobs k j l.1 n.0, n.1);
    execution_relied = over_part (λ e. (j : ℕ) → AssumedIn e.assumes j → has (relied' e.job) j ≡ true) (settled_execution k) _ m.executions (λ e i t j.
        elim [ inl c ↦ let l = in_without_one _ k j c in without_one_in _ k j (y.execution_relied e i j (inl l.0)) l.1 | inr c ↦ let l = in_without_one _ k j c in without_one_in _ k j (y.execution_relied e i j (inr l.0)) l.1 ]);
    version_relied = over_part (λ v. (j : ℕ) → AssumedIn v.assumes j → (j ≡ v.maker) ⊎ (has (relied' v.maker) j ≡ true)) (settled_version k) _ m.versions (λ v i t j c.
        let l : AssumedIn v.assumes j × (j ≡ k → ⊥) = elim c [ inl d ↦ (inl (in_without_one _ k j d).0, (in_without_one _ k j d).1) | inr d ↦ (inr (in_without_one _ k j d).0, (in_without_one _ k j d).1) ] in
        elim (y.version_relied v i j l.0) [ inl e ↦ inl e | inr e ↦ inr (without_one_in _ k j e l.1) ]);
    counted = over_part (λ e. e.tally ≤ gone' e.job + size (aborts_of e.assumes)) (settled_execution k) _ m.executions (λ e i t. left_count e i (and_parts _ _ t).1);
    complete = λ q h ab able few.
        let o = ended_runs m.jobs k q inside h in
        let a = y.complete q o.0 (ended w k ab) (λ j i u. elim (cases_eq j k) [
          | inl e ↦ subst (λ x. ProvidedFor m.executions x (ended w k ab)) (sym e) (able_k (ended w k ab) (sym (ended_own w k ab) ∙ subst (λ x. has (ended w k ab) x ≡ false) e u))
          | inr n ↦ able_before j ab (able j (without_one_in _ k j i n) (sym (ended_other w k ab j n) ∙ u))
        ])
        (omega (arith, few, fewer q ab)) in (
          settled_execution k a.0,
          map_in (settled_execution k) _ a.0 (filter_in _ m.executions a.0 a.1
              (and_from _ _ (ap not (ne_eqb _ _ (λ z. o.1 (sym a.2 ∙ z)))) (goes_survives a.0.assumes ab a.3))),
          a.2,
          goes_after a.0.assumes ab a.3,
        );
  }
    where
      inside : k < length m.jobs
      inside = omega (arith, sh.places, runs_small m sh k runs_k)
