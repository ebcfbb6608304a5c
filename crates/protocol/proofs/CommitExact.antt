-- A job that commits has one execution and one version for each turned object, and these values are written.
use Rattle.std.proofs.Common.{◌≡◌, ℕ, ◌<◌, Bool, true, false, ◌&&◌, eqb, List, [], ◌∷◌, length, get_or, sym, ap, ◌∙◌, subst, inl, inr, arith}
use Rattle.std.proofs.lemmas.Bool.{false_from_ne_true}
use Rattle.std.proofs.lemmas.Bool.{eqb-true, eq-eqb, and_parts, and_from}
use Rattle.terms.specs.declared.calls.Call.TheVariants.{Commit}
use Rattle.terms.specs.Rule.{Rule}
use Rattle.protocol.specs.declared.assumptions.Execution.{Execution}
use Rattle.protocol.specs.declared.assumptions.Version.{Version}
use Rattle.protocol.specs.declared.jobs.Ending.TheVariants.{Committed}
use Rattle.protocol.specs.CommitLaws.{versions_by, OneExecution, Committing, CommitLaws}
use Rattle.protocol.specs.Ending.{written}
use Rattle.protocol.specs.Lists.{In}
use Rattle.protocol.specs.Model.{Model, new, executions_of, names}
use Rattle.protocol.specs.PairingLaws.{Makes}
use Rattle.protocol.specs.Places.{has}
use Rattle.protocol.specs.Settling.{settle}
use Rattle.protocol.specs.Step.{next, run}
use Rattle.protocol.proofs.Accepted.{Commits, commit_accepted}
use Rattle.protocol.proofs.Always.{Lawful, lawful, accepted_step}
use Rattle.protocol.proofs.Chains.{AssumedIn}
use Rattle.protocol.proofs.Consistent.{ExecutionsApart, VersionsApart, assumes_none, aborts_none}
use Rattle.protocol.proofs.Lists.{in_filter, filter_in, pairs_filter, lone}
use Rattle.protocol.proofs.Writing.{made_is, written_other, written_same, length_written}

not_in : (s k : ℕ) → (has s k ≡ true → ⊥) → has s k ≡ false
not_in s k n = false_from_ne_true (has s k) n

module _ (r : Rule) (m : Model) (p : ℕ) (b : Commits m p) (i : Lawful r m) where
  -- an execution of the job takes nothing of any job
  bare : (e : Execution) → In e (executions_of p m) → (k : ℕ) → AssumedIn e.assumes k → ⊥
  bare e j = let w = in_filter (names p) m.executions e j in assumes_none m i.1.consistent p b.free e w.0 (eqb-true _ _ w.1)

  one_execution : OneExecution m p
  one_execution =
      let e = b.some.0 in
      let j : In e (executions_of p m) = filter_in (names p) m.executions e b.some.1 (eq-eqb _ _ b.some.2) in
      record {
        execution = e;
        alone = lone ExecutionsApart (executions_of p m) e (pairs_filter ExecutionsApart (names p) m.executions i.1.consistent.executions_apart)
            (λ x y c d a.
            let px = eqb-true _ _ (in_filter (names p) m.executions x c).1 in
            let py = eqb-true _ _ (in_filter (names p) m.executions y d).1 in
            elim (a (px ∙ sym py)).1 [ inl z ↦ bare x c _ (inl z.0) | inr z ↦ bare x c _ (inr z.0) ])
            j;
        commits = λ k. not_in _ k (λ c. bare e j k (inl c));
        aborts = λ k. not_in _ k (λ a. bare e j k (inr a));
      }

  abbrev by : ℕ → Version → Bool
  by o v = eqb v.maker p && eqb v.object o

  alone_by : (o : ℕ) (v : Version) → In v (versions_by p o m) → versions_by p o m ≡ v ∷ []
  alone_by o v = lone VersionsApart (versions_by p o m) v (pairs_filter VersionsApart (by o) m.versions i.1.consistent.versions_apart) (λ x y c d a.
      let jx = in_filter (by o) m.versions x c in
      let jy = in_filter (by o) m.versions y d in
      let bx = and_parts _ _ jx.1 in
      let by' = and_parts _ _ jy.1 in
      let mx = eqb-true _ _ bx.0 in
      let my = eqb-true _ _ by'.0 in
      elim (a (eqb-true _ _ bx.1 ∙ sym (eqb-true _ _ by'.1)) (mx ∙ sym my)).1 [ inl z ↦ aborts_none m i.1.consistent p b.free y jy.0 my _ z.1 | inr z ↦ aborts_none m i.1.consistent p b.free x jx.0 mx _ z.0 ])

  abbrev left : List ℕ
  left = written p m.versions m.holdings m.values

  one_of : (v w : Version) (vs : List Version) → vs ≡ v ∷ [] → In w vs → w ≡ v
  one_of v w vs e j = grind (arith, e, j)

  version_written : (o : ℕ) (v : Version) → Makes m.holdings o p → In v (versions_by p o m) → get_or left o 0 ≡ v.value
  version_written o v t c =
      let j = in_filter (by o) m.versions v c in
      let w = and_parts _ _ j.1 in
      written_same p o v.value m.versions
      (λ d. made_is p o v.value m.versions v d j.0 (eqb-true _ _ w.0) (eqb-true _ _ w.1) (λ u k mu ou.
      ap (λ z. z.value) (one_of v u (versions_by p o m) (alone_by o v c) (filter_in (by o) m.versions u k (and_from _ _ (eq-eqb _ _ mu) (eq-eqb _ _ ou))))))
      m.holdings m.values (subst (λ x. x < length m.values) t.object (i.1.well_formed.held_by t.holding t.there).1)
      (inl (t.holding, t.there, t.job, t.object, t.turns))

  committing : Committing m p (settle Committed p left m)
  unfolding settle
  committing = record {
    one = one_execution;
    writes = λ o t.
        let e = b.some.0 in
        let g = i.1.faithful.made e b.some.1 o (t.holding, t.there, t.job ∙ sym b.some.2, t.object, t.turns) in
        let c : In g.version (versions_by p o m) = filter_in (by o) m.versions g.version g.there (and_from _ _ (eq-eqb _ _ (g.maker ∙ b.some.2)) (eq-eqb _ _ g.object)) in
        record { version = g.version; alone = alone_by o g.version c; written = version_written o g.version t c };
    others = λ o n. written_other p o m.versions m.holdings m.values (λ h j q s t. n (record { holding = h; there = j; job = q; object = s; turns = t }));
    long = length_written p m.versions m.holdings m.values;
  }

pub commit_laws : CommitLaws
unfolding next
commit_laws r robustness limit first cs p e =
    let m = run r (new robustness limit first) cs in
    subst (Committing m p) (sym (accepted_step r m (Commit p) e)) (committing r m p (commit_accepted r m p e) (lawful r robustness limit first cs))
