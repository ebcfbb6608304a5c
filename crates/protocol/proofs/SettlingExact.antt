-- Settling leaves exactly what it should.
use Rattle.std.proofs.Common.{◌≡◌, ℕ, Bool, true, not, ◌&&◌, eqb, List, map, length, get_or, set, None, Option, sym, refl, ap, ◌∙◌, subst, inl, inr, arith, length-set, get_or-set_other, get_or-set_same}
use Rattle.std.specs.Prelude.{filter}
use lib.ListN.{get_or-eq_default}
use Rattle.std.proofs.lemmas.List.{map-id}
use Rattle.std.proofs.lemmas.Bool.{cases_lt, eqb-false, ne_eqb, and_parts, and_from, not-true}
use Rattle.terms.specs.declared.calls.Call.TheVariants.{Commit, Abort}
use Rattle.protocol.specs.declared.assumptions.Assumption.{Assumption}
use Rattle.protocol.specs.declared.assumptions.Execution.{Execution}
use Rattle.protocol.specs.declared.assumptions.Version.{Version}
use Rattle.protocol.specs.declared.holdings.Holding.{Holding}
use Rattle.protocol.specs.declared.jobs.Ending.{Ending}
use Rattle.protocol.specs.declared.jobs.Ending.TheVariants.{Committed, Aborted}
use Rattle.protocol.specs.declared.jobs.Job.{Job}
use Rattle.protocol.specs.Assumptions.{commits_of, aborts_of}
use Rattle.protocol.specs.Lists.{In, Behind}
use Rattle.protocol.specs.Model.{Model}
use Rattle.protocol.specs.Places.{has, single, without}
use Rattle.protocol.specs.Settling.{survives, settled, settled_execution, settled_version, settle}
use Rattle.protocol.specs.SettlingLaws.{TookOther, TakenOut, LeftExecution, LeftVersion, LeftHolding, Leaves, Settled, SettlingLaws}
use Rattle.protocol.specs.Step.{next}
use Rattle.protocol.proofs.Always.{accepted_step}
use Rattle.protocol.proofs.Lists.{in_filter, filter_in, in_map, map_in, in_filter_behind, filter_behind, in_map_behind, map_behind}
use Rattle.protocol.proofs.SetDigits.{has_without, has_single, same_members}

-- ---- a list that is cut by a test and then changed one by one
module _ {A : Type 0} (t : A → Bool) (f : A → A) (Left : A → A → Type 0) (to : (a : A) → t a ≡ true → Left a (f a)) (from : (a x : A) → Left a x → (t a ≡ true) × (f a ≡ x)) where
  leaves : (xs : List A) → Leaves Left xs (map f (filter t xs))
  leaves xs = record {
    members = λ x. (
      λ i. let a = in_map f (filter t xs) x i in let k = in_filter t xs a.0 a.1 in (a.0, k.0, subst (Left a.0) a.2 (to a.0 k.1)),
      λ l. let b = from l.0 x l.2 in subst (λ y. In y (map f (filter t xs))) b.1 (map_in f (filter t xs) l.0 (filter_in t xs l.0 l.1 b.0)),
    );
    order = λ x y. (
      λ i.
          let a = in_map_behind f (filter t xs) x y i in
          let k = in_filter_behind t xs a.0 a.1 a.2 in
          (a.0, a.1, k.0, subst (Left a.0) a.3 (to a.0 k.1), subst (Left a.1) a.4 (to a.1 k.2)),
      λ l.
          let b = from l.0 x l.3 in
          let c = from l.1 y l.4 in
          subst (λ z. Behind z y (map f (filter t xs))) b.1 (subst (λ z. Behind (f l.0) z (map f (filter t xs))) c.1
          (map_behind f (filter t xs) l.0 l.1 (filter_behind t xs l.0 l.1 l.2 b.0 c.0))),
    );
  }

-- ---- assumptions
agrees : (how : Ending) (k : ℕ) (a : Assumption) → survives how k a ≡ true → TookOther how k a → ⊥
agrees Committed k a e o = grind (arith, e, o)
agrees Aborted k a e o = grind (arith, e, o)

stays : (how : Ending) (k : ℕ) (a : Assumption) → (TookOther how k a → ⊥) → survives how k a ≡ true
stays Committed k a n = grind (arith, n)
stays Aborted k a n = grind (arith, n)

taken : (s k q : ℕ) → has (without s (single k)) q ≡ (has s q && not (eqb k q))
taken s k q = has_without s (single k) q ∙ ap (λ b. has s q && not b) (has_single k q)

taken_out : (k : ℕ) (a : Assumption) → TakenOut k a (settled k a)
taken_out k a = record { commits = taken (commits_of a) k; aborts = taken (aborts_of a) k }

same_set : (s u k : ℕ) → ((q : ℕ) → has u q ≡ (has s q && not (eqb k q))) → without s (single k) ≡ u
same_set s u k f = same_members _ _ (λ q. taken s k q ∙ sym (f q))

same_out : (k : ℕ) (a b : Assumption) → TakenOut k a b → settled k a ≡ b
same_out k a b t = λ i. record { commits = record { mask = same_set (commits_of a) (commits_of b) k t.commits i }; aborts = record { mask = same_set (aborts_of a) (aborts_of b) k t.aborts i } }

-- ---- the three kinds of records
module _ (how : Ending) (k : ℕ) where
  executions_left : (es : List Execution) → Leaves (LeftExecution how k) es (map (settled_execution k) (filter (λ e. not (eqb e.job k) && survives how k e.assumes) es))
  executions_left = leaves _ (settled_execution k) (LeftExecution how k)
      (λ e t. let b = and_parts _ _ t in record {
        other = eqb-false _ _ (not-true _ b.0);
        agrees = agrees how k e.assumes b.1;
        sets = taken_out k e.assumes;
        same_job = refl;
        same_work = refl;
        same_tally = refl;
        same_met = refl;
      })
      (λ e x l. (
        and_from _ _ (ap not (ne_eqb _ _ l.other)) (stays how k e.assumes l.agrees),
        λ i. record {
          job = sym l.same_job i;
          assumes = same_out k e.assumes x.assumes l.sets i;
          work = sym l.same_work i;
          tally = sym l.same_tally i;
          met = sym l.same_met i;
        },
      ))

  versions_left : (vs : List Version) → Leaves (LeftVersion how k) vs (map (settled_version k) (filter (λ v. not (eqb v.maker k) && survives how k v.assumes) vs))
  versions_left = leaves _ (settled_version k) (LeftVersion how k)
      (λ v t. let b = and_parts _ _ t in record {
        other = eqb-false _ _ (not-true _ b.0);
        agrees = agrees how k v.assumes b.1;
        sets = taken_out k v.assumes;
        same_object = refl;
        same_maker = refl;
        same_value = refl;
      })
      (λ v w l. (
        and_from _ _ (ap not (ne_eqb _ _ l.other)) (stays how k v.assumes l.agrees),
        λ i. record {
          object = sym l.same_object i;
          maker = sym l.same_maker i;
          value = sym l.same_value i;
          assumes = same_out k v.assumes w.assumes l.sets i;
        },
      ))

holdings_left : (k : ℕ) (hs : List Holding) → Leaves (LeftHolding k) hs (filter (λ h. not (eqb h.job k)) hs)
holdings_left k hs = subst (Leaves (LeftHolding k) hs) (map-id _) (leaves (λ h. not (eqb h.job k)) (λ h. h) (LeftHolding k)
    (λ h t. record { other = eqb-false _ _ (not-true _ t); same = refl })
    (λ g h l. (ap not (ne_eqb _ _ l.other), sym l.same))
    hs)

-- ---- the book
none_at : (js : List (Option Job)) (k : ℕ) → get_or (set js k None) k None ≡ None
none_at js k =
    let long : length (set js k None) ≡ length js = length-set js k None in
    elim (cases_lt k (length js)) [
      | inl l ↦ get_or-set_same js k None None l
      | inr l ↦ get_or-eq_default (set js k None) None {n = k} (omega arith)
    ]

settles : (how : Ending) (k : ℕ) (values : List ℕ) (m : Model) → Settled how k m (settle how k values m)
unfolding settle
settles how k values m = record {
  executions = executions_left how k m.executions;
  versions = versions_left how k m.versions;
  holdings = holdings_left k m.holdings;
  ended = none_at m.jobs k;
  others = λ q n. get_or-set_other m.jobs k q None None n;
}

pub settling_laws : SettlingLaws
unfolding next
settling_laws = record {
  commit = λ r m p e. subst (Settled Committed p m) (sym (accepted_step r m (Commit p) e)) (settles Committed p _ m);
  abort = λ r m p e. subst (Settled Aborted p m) (sym (accepted_step r m (Abort p) e)) (settles Aborted p _ m);
}
