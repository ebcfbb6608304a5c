-- What an object offers, and which executions a lock leaves.
use Rattle.std.proofs.Common.{◌≡◌, ℕ, ◌+◌, true, not, ◌⊎◌, ◌↔◌, List, ◌++◌, map, length, sym, refl, ap, ◌∙◌, subst, ap₂, inl, inr, append-nil}
use Rattle.std.specs.Prelude.{flat_map, filter}
use Rattle.std.proofs.lemmas.List.Elements.{filter-append, filter_agree}
use Rattle.std.proofs.lemmas.Bool.{both_ways, eqb-true, eq-eqb, ne_eqb, not-true, and_parts, and_from, leb-true, le-leb}
use Rattle.terms.specs.declared.calls.Call.TheVariants.{Lock}
use Rattle.terms.specs.declared.modes.Mode.{Mode}
use Rattle.terms.specs.Rule.{Rule}
use Rattle.protocol.specs.declared.assumptions.Execution.{Execution}
use Rattle.protocol.specs.declared.assumptions.Offer.{Offer}
use Rattle.protocol.specs.declared.assumptions.Version.{Version}
use Rattle.protocol.specs.declared.holdings.Holding.{Holding}
use Rattle.protocol.specs.Assumptions.{commits_of, aborts_of}
use Rattle.protocol.specs.Holdings.{later_makers}
use Rattle.protocol.specs.Lists.{In, Behind}
use Rattle.protocol.specs.Model.{Model, executions_of, names}
use Rattle.protocol.specs.Pairing.{offer, offers, pairing, is_kept, kept_pairs}
use Rattle.protocol.specs.PairingLaws.{MakesLater, OfferLaws, newly, Meets, Stays, LockLaws, PairingLaws}
use Rattle.protocol.specs.Places.{has, join, without, size}
use Rattle.protocol.specs.SetLaws.{places}
use Rattle.protocol.specs.Step.{next}
use Rattle.protocol.proofs.Always.{accepted_step}
use Rattle.protocol.proofs.SetSizes.{size_counts}
use Rattle.protocol.proofs.Filters.{filter_flat_map, filter_all, filter_none, filter_twice}
use Rattle.protocol.proofs.Lists.{each_outer, each_inner, in_each, in_filter, filter_in, in_map, map_in, each_in, behind_in, filter_behind, map_behind}
use Rattle.protocol.proofs.Makers.{makers_why, why_makers, later_why, why_later}
use Rattle.protocol.proofs.SetDigits.{has_zero, has_join, has_without, same_members, new_in, disjoint_apart, apart_disjoint}
use Rattle.protocol.proofs.Membership.{join_left, join_right, join_cases}

-- ---- offers
module _ (hs : List Holding) (o : ℕ) where
  version_aborts : (k : ℕ) (v : Version) → (has (aborts_of (offer hs o v).assumes) k ≡ true) ↔ ((has (aborts_of v.assumes) k ≡ true) ⊎ MakesLater hs o v.maker k)
  version_aborts k v = (
    λ e. elim (join_cases (aborts_of v.assumes) (later_makers o v.maker hs) k e) [ inl i ↦ inl i | inr i ↦ inr (later_why hs o v.maker k i) ],
    elim [ inl i ↦ join_left (aborts_of v.assumes) _ k i | inr w ↦ join_right (aborts_of v.assumes) _ k (why_later hs o v.maker k w) ],
  )

offer_laws : OfferLaws
offer_laws = record {
  stored_commits = λ m o k. has_zero k;
  stored_aborts = λ m o k. (makers_why m.holdings o k, why_makers m.holdings o k);
  version_commits = λ hs o k v. refl;
  version_aborts = λ hs o k v. version_aborts hs o k v;
}

-- ---- one pair
-- how many jobs are newly taken to abort
grows : (e : Execution) (f : Offer) → size (without (join (aborts_of e.assumes) (aborts_of f.assumes)) (aborts_of e.assumes)) ≡ length (filter (newly e f) places)
grows e f =
    let a = aborts_of e.assumes in
    let b = aborts_of f.assumes in
    ap size (new_in a b) ∙ size_counts (without b a) ∙ ap length (filter_agree _ _ (has_without b a) places)

module _ (r : Rule) (m : Model) (p o : ℕ) (mode : Mode) where
  abbrev paired : Execution → Offer → Execution
  paired = pairing r m p o mode

  meets : (e : Execution) (f : Offer) → e.job ≡ p → Meets r m p o mode e f (paired e f)
  meets e f own = record {
    own = own;
    commits = has_join (commits_of e.assumes) (commits_of f.assumes);
    aborts = has_join (aborts_of e.assumes) (aborts_of f.assumes);
    counts = ap (λ n. e.tally + n) (grows e f);
    works = refl;
    meets = refl;
  }

  -- what meets is that pair
  only : (e : Execution) (f : Offer) (x : Execution) → e.job ≡ p → Meets r m p o mode e f x → paired e f ≡ x
  only e f x own w = λ i. record {
    job = (own ∙ sym w.own) i;
    assumes = record {
      commits = record { mask = same_members _ _ (λ k. has_join (commits_of e.assumes) (commits_of f.assumes) k ∙ sym (w.commits k)) i };
      aborts = record { mask = same_members _ _ (λ k. has_join (aborts_of e.assumes) (aborts_of f.assumes) k ∙ sym (w.aborts k)) i };
    };
    work = sym w.works i;
    tally = (ap (λ n. e.tally + n) (grows e f) ∙ sym w.counts) i;
    met = sym w.meets i;
  }

  stays : (x : Execution) → (is_kept m.robustness x ≡ true) ↔ Stays m.robustness x
  stays x = (
    λ e. let b = and_parts _ _ e in record { apart = disjoint_apart _ _ b.0; few = leb-true _ _ b.1 },
    λ s. and_from _ _ (apart_disjoint _ _ s.apart) (le-leb _ _ s.few),
  )

  -- ---- the list of pairs
  abbrev own : List Execution
  own = executions_of p m

  abbrev met_by : Execution → List Execution
  met_by e = filter (is_kept m.robustness) (map (paired e) (offers m o))

  listed : kept_pairs r m p o mode ≡ flat_map met_by own
  unfolding kept_pairs
  listed = refl

  job : (e : Execution) → In e own → e.job ≡ p
  job e i = eqb-true _ _ (in_filter (names p) m.executions e i).1

  -- where a pair that stays stands
  stands : (e : Execution) (f : Offer) (x : Execution) → In e own → In f (offers m o) → Meets r m p o mode e f x → Stays m.robustness x → In x (met_by e)
  stands e f x i j w s = filter_in _ (map (paired e) (offers m o)) x (subst (λ y. In y (map (paired e) (offers m o))) (only e f x (job e i) w) (map_in (paired e) (offers m o) f j)) ((stays x).1 s)

  found : (x : Execution) → In x (flat_map met_by own) → (e : Execution) × (f : Offer) × In e own × In f (offers m o) × Meets r m p o mode e f x × Stays m.robustness x
  found x i =
      let a = in_each met_by own x i in
      let k = in_filter _ (map (paired a.0) (offers m o)) x a.2 in
      let b = in_map (paired a.0) (offers m o) x k.0 in
      (a.0, b.0, a.1, b.1, subst (Meets r m p o mode a.0 b.0) b.2 (meets a.0 b.0 (job a.0 a.1)), (stays x).0 k.1)

  in_order : (e : Execution) (f g : Offer) (x y : Execution) → In e own → Behind f g (offers m o)
      → Meets r m p o mode e f x → Stays m.robustness x → Meets r m p o mode e g y → Stays m.robustness y → Behind x y (met_by e)
  in_order e f g x y i b w s v u =
      filter_behind _ (map (paired e) (offers m o)) x y
      (subst (λ z. Behind z y (map (paired e) (offers m o))) (only e f x (job e i) w)
      (subst (λ z. Behind (paired e f) z (map (paired e) (offers m o))) (only e g y (job e i) v) (map_behind (paired e) (offers m o) f g b)))
      ((stays x).1 s) ((stays y).1 u)

  -- ---- the executions after the lock
  after : Model
  after = next r m (Lock p o mode)

  own_after : executions_of p after ≡ flat_map met_by own
  unfolding after next
  own_after =
      filter-append (names p) (filter (λ e. not (names p e)) m.executions) (kept_pairs r m p o mode)
      ∙ ap₂ ◌++◌
      (filter_none (names p) (filter (λ e. not (names p e)) m.executions) (λ e i. both_ways _ (not-true _ (in_filter _ m.executions e i).1)))
      (ap (filter (names p)) listed ∙ filter_all (names p) (flat_map met_by own) (λ e i. eq-eqb _ _ (found e i).4.own))

  others_after : (q : ℕ) → (q ≡ p → ⊥) → executions_of q after ≡ executions_of q m
  unfolding after next
  others_after q n =
      filter-append (names q) (filter (λ e. not (names p e)) m.executions) (kept_pairs r m p o mode)
      ∙ ap₂ ◌++◌
      (filter_twice (names q) (λ e. not (names p e)) m.executions (λ e i. ap not (ne_eqb _ _ (λ s. n (sym (eqb-true _ _ i) ∙ s)))))
      (ap (filter (names q)) listed ∙ filter_none (names q) (flat_map met_by own) (λ e i t. n (sym (eqb-true _ _ t) ∙ (found e i).4.own)))
      ∙ append-nil (executions_of q m)

  lock_laws : LockLaws r m p o mode after
  lock_laws = record {
    members = λ x. (
      λ i. found x (subst (In x) own_after i),
      λ w. subst (In x) (sym own_after) (each_in met_by own w.0 w.2 x (stands w.0 w.1 x w.2 w.3 w.4 w.5)),
    );
    outer = λ d e f g x y b i j w s v u.
        let k = behind_in own d e b in
        subst (Behind x y) (sym own_after) (each_outer met_by own d e b x y (stands d f x k.0 i w s) (stands e g y k.1 j v u));
    inner = λ e f g x y i b w s v u. subst (Behind x y) (sym own_after) (each_inner met_by own e i x y (in_order e f g x y i b w s v u));
    listed = own_after ∙ filter_flat_map (is_kept m.robustness) (λ e. map (paired e) (offers m o)) own;
    others = others_after;
  }

pub pairing_laws : PairingLaws
unfolding after
pairing_laws = (offer_laws, λ r m p o mode e. subst (LockLaws r m p o mode) (sym (accepted_step r m (Lock p o mode) e)) (lock_laws r m p o mode))
