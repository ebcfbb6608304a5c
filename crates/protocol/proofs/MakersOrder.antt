-- The versions of an object stand in the order in which their makers locked it.
use Rattle.std.proofs.Common.{◌≡◌, ℕ, not, ◌&&◌, eqb, List, [], ◌∷◌, ◌++◌, map, None, sym, refl, ap, ◌∙◌, inl, inr, arith}
use Rattle.std.specs.List.{AllZip}
use Rattle.std.proofs.lemmas.Bool.{eqb-true, eqb-false, eq-eqb, ne_eqb, not-true, and_parts, and_from}
use Rattle.terms.specs.declared.calls.Call.{Call}
use Rattle.terms.specs.declared.calls.Call.TheVariants.{Begin, Lock, Image, Commit, Abort}
use Rattle.terms.specs.Rule.{Rule}
use Rattle.protocol.specs.declared.assumptions.Execution.{Execution}
use Rattle.protocol.specs.declared.assumptions.Version.{Version}
use Rattle.protocol.specs.declared.holdings.Holding.{Holding}
use Rattle.protocol.specs.declared.jobs.Ending.{Ending}
use Rattle.protocol.specs.declared.jobs.Ending.TheVariants.{Committed, Aborted}
use Rattle.protocol.specs.Assumptions.{commits_of}
use Rattle.protocol.specs.Ending.{written}
use Rattle.protocol.specs.History.{blank}
use Rattle.protocol.specs.Holdings.{turn, position}
use Rattle.protocol.specs.Image.{version_by}
use Rattle.protocol.specs.Lists.{In, Behind}
use Rattle.protocol.specs.Model.{Model, new, job_at, executions_of, names}
use Rattle.protocol.specs.Places.{single}
use Rattle.protocol.specs.Settling.{survives, settled_version, settle}
use Rattle.protocol.specs.Step.{answer, next, run}
use Rattle.protocol.specs.VersionOrder.{LockedBefore, MakesVersion, VersionOrder}
use Rattle.protocol.proofs.Accepted.{Images, image_accepted}
use Rattle.protocol.proofs.Always.{Lawful, lawful_next, always, accepted_step}
use Rattle.protocol.proofs.Invariant.{invariant_new}
use Rattle.protocol.proofs.Lists.{append_behind, in_filter, in_map, behind_in, behind_two, behind_append, in_filter_behind, filter_behind, in_map_behind, map_behind}
use Rattle.protocol.proofs.SetDigits.{has_join, has_single}
use Rattle.protocol.proofs.WellFormed.{WellFormed}
use Rattle.protocol.proofs.HoldingStates.{turned_turn, open_turns}

-- versions of one object by two makers
abbrev Ordered : List Version → List Holding → Type 0
Ordered vs hs = (v w : Version) → Behind v w vs → v.object ≡ w.object → (v.maker ≡ w.maker → ⊥) → LockedBefore hs v.object v.maker w.maker

-- ---- a lock
ordered_lock : (vs : List Version) (hs : List Holding) (h : Holding) → Ordered vs hs → Ordered vs (hs ++ h ∷ [])
ordered_lock vs hs h f v w b e n =
    let l = f v w b e n in
    record { earlier = l.earlier; later = l.later; order = behind_append hs _ _ _ l.order; of = l.of; by = l.by; there = l.there; same = l.same; both = l.both }

abbrev made : Rule → Model → ℕ → ℕ → List Version
made r m p o = map (version_by r (job_at m p) o (position p o m.holdings)) (executions_of p m)

-- ---- an image: the new versions are the last, and so is the holding among those of the object
module _ (r : Rule) (m : Model) (p o : ℕ) (s : WellFormed m) (b : Images m p o) where
  turned_before : (q x y : ℕ) → LockedBefore m.holdings q x y → LockedBefore (map (turn p o) m.holdings) q x y
  turned_before q x y l = record {
    earlier = turn p o l.earlier;
    later = turn p o l.later;
    order = map_behind (turn p o) m.holdings _ _ l.order;
    of = l.of;
    by = l.by;
    there = l.there;
    same = l.same;
    both = (turned_turn _ _ l.both.0, turned_turn _ _ l.both.1);
  }

  -- a maker of the object, before this one
  older : (v : Version) → In v m.versions → v.object ≡ o → (v.maker ≡ p → ⊥) → LockedBefore (map (turn p o) m.holdings) o v.maker p
  older v i e n =
      let g = s.made_by v i in
      let h = b.opens in
      let order : Behind g.0 h.0 m.holdings = elim (behind_two m.holdings g.0 h.0 g.1 h.1) [
        | inl q ↦ absurd (n (sym g.2 ∙ ap (λ x. x.job) q ∙ h.2))
        | inr l ↦ elim l [ inl c ↦ c | inr c ↦ absurd (s.last h.0 g.0 c (h.3 ∙ sym e ∙ sym g.3) h.4) ]
      ] in
      record {
        earlier = turn p o g.0;
        later = turn p o h.0;
        order = map_behind (turn p o) m.holdings _ _ order;
        of = g.2;
        by = h.2;
        there = g.3 ∙ e;
        same = h.3;
        both = (turned_turn _ _ g.4, open_turns _ _ (and_from _ _ (eq-eqb _ _ h.2) (eq-eqb _ _ h.3)) h.4);
      }

  made_is : (v : Version) → In v (made r m p o) → (v.object ≡ o) × (v.maker ≡ p)
  made_is v i =
      let a = in_map _ (executions_of p m) v i in
      (sym (ap (λ x. x.object) a.2), sym (ap (λ x. x.maker) a.2) ∙ eqb-true _ _ (in_filter (names p) m.executions a.0 a.1).1)

  ordered_image : Ordered m.versions m.holdings → Ordered (m.versions ++ made r m p o) (map (turn p o) m.holdings)
  ordered_image f v w c e n = elim (append_behind m.versions (made r m p o) v w c) [
    | inl d ↦ turned_before _ _ _ (f v w d e n)
    | inr d ↦ elim d [
      | inl k ↦
          let a = made_is w k.1 in
          let l = older v k.0 (e ∙ a.0) (λ q. n (q ∙ sym a.1)) in
          record { earlier = l.earlier; later = l.later; order = l.order; of = l.of; by = l.by ∙ sym a.1; there = l.there ∙ sym a.0 ∙ sym e; same = l.same ∙ sym a.0 ∙ sym e; both = l.both }
      | inr k ↦ let i = behind_in (made r m p o) v w k in absurd (n ((made_is v i.0).1 ∙ sym (made_is w i.1).1))
    ]
  ]

-- ---- an end
ordered_settle : (how : Ending) (k : ℕ) (values : List ℕ) (m : Model) → Ordered m.versions m.holdings → Ordered (settle how k values m).versions (settle how k values m).holdings
unfolding settle
ordered_settle how k values m f v w b e n =
    let a = in_map_behind (settled_version k) _ v w b in
    let t = in_filter_behind (λ v. not (eqb v.maker k) && survives how k v.assumes) m.versions a.0 a.1 a.2 in
    let l = f a.0 a.1 t.0 (ap (λ x. x.object) a.3 ∙ e ∙ sym (ap (λ x. x.object) a.4)) (λ q. n (sym (ap (λ x. x.maker) a.3) ∙ q ∙ ap (λ x. x.maker) a.4)) in
    record {
      earlier = l.earlier;
      later = l.later;
      order = filter_behind _ m.holdings _ _ l.order
          (ap not (ne_eqb _ _ (λ q. eqb-false _ _ (not-true _ (and_parts _ _ t.1).0) (sym l.of ∙ q))))
          (ap not (ne_eqb _ _ (λ q. eqb-false _ _ (not-true _ (and_parts _ _ t.2).0) (sym l.by ∙ q))));
      of = l.of ∙ ap (λ x. x.maker) a.3;
      by = l.by ∙ ap (λ x. x.maker) a.4;
      there = l.there ∙ ap (λ x. x.object) a.3;
      same = l.same ∙ ap (λ x. x.object) a.3;
      both = l.both;
    }

-- ---- every list of calls
ordered_next : (r : Rule) (m : Model) (c : Call) → answer r m c ≡ None → Lawful r m → Ordered m.versions m.holdings → Ordered (next r m c).versions (next r m c).holdings
unfolding next
ordered_next r m (Begin p k a) e i f = f
ordered_next r m (Lock p o mode) e i f = ordered_lock m.versions m.holdings _ f
ordered_next r m (Image p o) e i f = ordered_image r m p o i.1.well_formed (image_accepted r m p o e) f
ordered_next r m (Commit p) e i f = ordered_settle Committed p (written p m.versions m.holdings m.values) m f
ordered_next r m (Abort p) e i f = ordered_settle Aborted p m.values m f

ordered : (r : Rule) (robustness limit : ℕ) (first : List ℕ) (cs : List Call) → Ordered (run r (new robustness limit first) cs).versions (run r (new robustness limit first) cs).holdings
unfolding new
ordered r robustness limit first cs =
    (always r (λ m h. Lawful r m × Ordered m.versions m.holdings) (λ m h c e i. (lawful_next r m c e i.0, ordered_next r m c e i.0 i.1))
    (new robustness limit first) blank cs ((record { values = first; pending = [] }, invariant_new r robustness limit first), λ v w b. absurd b)).1

-- ---- one version for each execution
each_mapped : {A B : Type 0} (R : A → B → Type 0) (f : A → B) (xs : List A) → ((x : A) → In x xs → R x (f x)) → AllZip R xs (map f xs)
each_mapped R f [] g = tt
each_mapped R f (x ∷ xs) g = (g x (inl refl), each_mapped R f xs (λ y i. g y (inr i)))

makes_version : (r : Rule) (m : Model) (p o : ℕ) (e : Execution) → In e (executions_of p m) → MakesVersion r m p o e (version_by r (job_at m p) o (position p o m.holdings) e)
makes_version r m p o e i =
    let own : e.job ≡ p = eqb-true _ _ (in_filter (names p) m.executions e i).1 in
    record {
      object = refl;
      maker = own;
      gives = refl;
      commits = λ k. grind (arith, own, has_join (commits_of e.assumes) (single e.job) k, has_single e.job k);
      aborts = λ k. refl;
    }

pub version_order : VersionOrder
unfolding next
version_order = record {
  makers = ordered;
  executions = λ r m p o e. (
    made r m p o,
    ap (λ n. n.versions) (accepted_step r m (Image p o) e),
    each_mapped (MakesVersion r m p o) _ (executions_of p m) (makes_version r m p o),
  );
}
