-- Of each execution and version: no job is taken both ways, the assumption is chained, and it conflicts with those of its siblings.
-- Every call keeps it. Words: `Chained`, `Linked`, `Conflict`.
use Rattle.std.proofs.Common.{◌≡◌, ap, ℕ, true, not, eqb, List, [], ◌∷◌, ◌++◌, map, sym, refl, ◌∙◌, subst, inl, inr, arith}
use Rattle.std.specs.Prelude.{filter}
use Rattle.std.proofs.lemmas.Bool.{cases_eq, eqb-true, eqb-false, and_parts, not-true}
use Rattle.terms.specs.declared.modes.Mode.{Mode}
use Rattle.protocol.specs.declared.holdings.Holding.{Holding}
use Rattle.protocol.specs.declared.assumptions.Assumption.{Assumption}
use Rattle.protocol.specs.declared.assumptions.Execution.{Execution}
use Rattle.protocol.specs.declared.assumptions.Version.{Version}
use Rattle.terms.specs.declared.calls.Call.TheVariants.{Begin, Lock, Image}
use Rattle.protocol.specs.Holdings.{begins, waits, new_waits, makers, later_makers, turn, position}
use Rattle.protocol.specs.Image.{version_by}
use Rattle.protocol.specs.Lists.{In, Pairs}
use Rattle.protocol.specs.Model.{Model, new, executions_of, names, job_at}
use Rattle.protocol.specs.Pairing.{offer, stored_offer, offers, is_kept, pairing, kept_pairs}
use Rattle.protocol.specs.Places.{has}
use Rattle.protocol.specs.Settling.{survives, settled, settled_execution, settled_version, settle}
use Rattle.protocol.specs.Step.{next}
use Rattle.terms.specs.Rule.{Rule}
use Rattle.protocol.specs.declared.assumptions.Offer.{Offer}
use Rattle.protocol.specs.declared.jobs.Ending.{Ending}
use Rattle.protocol.specs.declared.jobs.Ending.TheVariants.{Committed, Aborted}
use Rattle.protocol.specs.Ranks.{Acyclic}
use Rattle.protocol.proofs.Running.{Runs}
use Rattle.protocol.proofs.SetDigits.{disjoint_apart}
use Rattle.protocol.proofs.Membership.{none_in, join_left, join_right, join_cases, in_single, single_in, in_without_one, without_one_in}
use Rattle.protocol.proofs.Lists.{in_filter, over_filter, over_append, over_push, over_map, all_from, pairs_append, pairs_push, pairs_filter, pairs_map, pairs_each, over_part}
use Rattle.protocol.proofs.Waiting.{waits_more, turn_waits, rest}
use Rattle.protocol.proofs.Chains.{CommitIn, AbortIn, AssumedIn, waits_none_assumes_none, waits_none_assumes_itself, Chained, chained_none, never_assumes_itself, Linked, Offered, chained_more, linked_more, chained_pair, offered_stored, offered_version, linked_version, Stops, chained_settled, linked_settled, Conflict, Within, conflict_within, conflict_settled}
use Rattle.protocol.proofs.Accepted.{Begins, Locks, Images}
use Rattle.protocol.proofs.Makers.{makers_why, why_makers, makers_waited, later_makes, later_either}
use Rattle.protocol.proofs.WellFormed.{WellFormed, maker_of, not_both, over_kept_pairs, over_offers, over_locked}

-- a takes no job both ways
abbrev OneWay : Assumption → Type 0
OneWay a = (k : ℕ) → CommitIn a k → AbortIn a k → ⊥

-- two executions of one job conflict
abbrev pub ExecutionsApart : Execution → Execution → Type 0
ExecutionsApart e f = e.job ≡ f.job → Conflict e.assumes f.assumes

-- two versions of one object by one maker conflict
abbrev pub VersionsApart : Version → Version → Type 0
VersionsApart u v = u.object ≡ v.object → u.maker ≡ v.maker → Conflict u.assumes v.assumes

pub record Consistent (m : Model) : Type 0 where
  -- sound: an execution takes no job both ways
  pub execution_sound : (e : Execution) → In e m.executions → OneWay e.assumes
  -- nor does a version
  pub version_sound : (v : Version) → In v m.versions → OneWay v.assumes
  -- chained: from its job, by waits through jobs taken to commit, to all that an execution assumes about
  pub execution_chained : (e : Execution) → In e m.executions → Chained m.holdings e.job e.assumes
  -- and from its maker to all that a version assumes about
  pub version_chained : (v : Version) → In v m.versions → Linked m.holdings v.maker v.assumes
  -- a version takes its maker to commit
  pub maker_commits : (v : Version) → In v m.versions → CommitIn v.assumes v.maker
  -- apart: a job's executions conflict, each with each
  pub executions_apart : Pairs ExecutionsApart m.executions
  -- and so do one maker's versions of one object
  pub versions_apart : Pairs VersionsApart m.versions

pub consistent_new : (r l : ℕ) (values : List ℕ) → Consistent (new r l values)
unfolding new
consistent_new r l values = record { execution_sound = λ e i. absurd i; version_sound = λ v i. absurd i; execution_chained = λ e i. absurd i; version_chained = λ v i. absurd i; maker_commits = λ v i. absurd i; executions_apart = tt; versions_apart = tt }

-- ---- a job that waits for none: its executions assume nothing, its versions take none to abort
module _ (m : Model) (x : Consistent m) (k : ℕ) (free : waits m.holdings k ≡ 0) where
  pub assumes_none : (e : Execution) → In e m.executions → e.job ≡ k → (q : ℕ) → AssumedIn e.assumes q → ⊥
  assumes_none e i j = waits_none_assumes_none m.holdings e.job e.assumes (x.execution_chained e i) (ap (waits m.holdings) j ∙ free)

  pub aborts_none : (v : Version) → In v m.versions → v.maker ≡ k → (q : ℕ) → AbortIn v.assumes q → ⊥
  aborts_none v i j q a =
      let same : q ≡ v.maker = waits_none_assumes_itself m.holdings v.maker v.assumes (x.version_chained v i) (ap (waits m.holdings) j ∙ free) q (inr a) in
      x.version_sound v i v.maker (x.maker_commits v i) (subst (AbortIn v.assumes) same a)

-- ---- a begin
pub consistent_begin : (r : Rule) (m : Model) (p k a : ℕ) → Begins m p → WellFormed m → Consistent m → Consistent (next r m (Begin p k a))
unfolding next
consistent_begin r m p k a b s x = record {
  execution_sound = over_push _ m.executions _ x.execution_sound (λ q c d. none_in q c);
  version_sound = x.version_sound;
  execution_chained = over_push (λ e. Chained m.holdings e.job e.assumes) m.executions _ x.execution_chained (chained_none m.holdings p);
  version_chained = x.version_chained;
  maker_commits = x.maker_commits;
  executions_apart = pairs_push ExecutionsApart m.executions _ x.executions_apart (λ e i j. absurd (b.idle (subst (Runs m) j (s.worked_by e i).0)));
  versions_apart = x.versions_apart;
}

-- ---- a lock
abbrev assumed : Offer → Assumption
assumed x = x.assumes

module _ (r : Rule) (m : Model) (p o : ℕ) (mode : Mode) (b : Locks m p o mode) (s : WellFormed m) (x : Consistent m) where
  new_holding : Holding
  new_holding = record { job = p; object = o; state = begins mode }

  -- who locks o is no maker of it
  not_maker : (q : ℕ) → has (makers o m.holdings) q ≡ true → q ≡ p → ⊥
  not_maker q i e = let k = makers_why m.holdings o q i in b.new k.holding k.there (k.job ∙ e) k.object

  waited : (q : ℕ) → has (makers o m.holdings) q ≡ true → has (new_waits m.holdings new_holding) q ≡ true
  unfolding new_holding
  waited q i = makers_waited m.holdings new_holding q (not_maker q i) i

  offered : (y : Offer) → In y (offers m o) → Offered m.holdings new_holding (assumed y)
  offered =
      over_offers _ m o (offered_stored m.holdings new_holding (assumed (stored_offer m o)) refl waited)
      (λ v i e. offered_version m.holdings new_holding v.maker (later_makers o v.maker m.holdings) v.assumes (x.version_chained v i)
      (waited _ (why_makers _ o _ (maker_of m s o v i e))) (λ k l. waited k (later_makes m.holdings o v.maker k l)))

  -- each pair has its chain, kept or not
  pub pair_chain : (e : Execution) → In e m.executions → e.job ≡ p → (y : Offer) → In y (offers m o) → Chained (m.holdings ++ record { job = p; object = o; state = begins mode } ∷ []) p (pairing r m p o mode e y).assumes
  unfolding new_holding
  pair_chain e i j y l = chained_pair m.holdings new_holding e.assumes (assumed y) (subst (λ q. Chained m.holdings q e.assumes) j (x.execution_chained e i)) (offered y l)

  -- two offers conflict
  OfferApart : Offer → Offer → Type 0
  OfferApart y z = Conflict (assumed y) (assumed z)

  offers_apart : Pairs OfferApart (offers m o)
  unfolding offers OfferApart
  offers_apart = (
    all_from _ _ (over_part (OfferApart (stored_offer m o)) (offer m.holdings o) _ m.versions (λ v i t.
        (v.maker, inr (why_makers _ o _ (maker_of m s o v i (eqb-true _ _ t)), x.maker_commits v i)))),
    pairs_map VersionsApart OfferApart (offer m.holdings o) _ two (pairs_filter VersionsApart (λ v. eqb v.object o) m.versions x.versions_apart),
  )
    where
      two : (u v : Version) → In u (filter (λ v. eqb v.object o) m.versions) → In v (filter (λ v. eqb v.object o) m.versions) → VersionsApart u v → OfferApart (offer m.holdings o u) (offer m.holdings o v)
      two u v i j a =
          let iu = in_filter (λ v. eqb v.object o) m.versions u i in
          let iv = in_filter (λ v. eqb v.object o) m.versions v j in
          let ou = eqb-true u.object o iu.1 in
          let ov = eqb-true v.object o iv.1 in
          elim (cases_eq u.maker v.maker) [
            | inl e ↦ conflict_within _ _ _ _ (record { on_commits = λ k c. c; on_aborts = λ k c. join_left _ _ k c }) (record { on_commits = λ k c. c; on_aborts = λ k c. join_left _ _ k c }) (a (ou ∙ sym ov) e)
            | inr n ↦ elim (later_either m.holdings o u.maker v.maker n (maker_of m s o u iu.0 ou) (maker_of m s o v iv.0 ov)) [
              | inl l ↦ (v.maker, inr (join_right _ _ _ l, x.maker_commits v iv.0))
              | inr l ↦ (u.maker, inl (x.maker_commits u iu.0, join_right _ _ _ l))
            ]
          ]

  left_in : (e : Execution) (y : Offer) → Within e.assumes (pairing r m p o mode e y).assumes
  left_in e y = record { on_commits = λ k c. join_left _ _ k c; on_aborts = λ k c. join_left _ _ k c }

  right_in : (e : Execution) (y : Offer) → Within (assumed y) (pairing r m p o mode e y).assumes
  right_in e y = record { on_commits = λ k c. join_right _ _ k c; on_aborts = λ k c. join_right _ _ k c }

  kept_of : Execution → List Execution
  kept_of e = filter (is_kept m.robustness) (map (pairing r m p o mode e) (offers m o))

  over_kept : (P : Execution → Type 0) (e : Execution) → ((y : Offer) → P (pairing r m p o mode e y)) → (u : Execution) → In u (kept_of e) → P u
  unfolding kept_of
  over_kept P e f = over_filter P (is_kept m.robustness) (map (pairing r m p o mode e) (offers m o)) (λ u i t. over_map P (pairing r m p o mode e) (offers m o) (λ y j. f y) u i)

  paired_apart : Pairs ExecutionsApart (kept_pairs r m p o mode)
  unfolding kept_pairs OfferApart kept_of
  paired_apart =
      pairs_each ExecutionsApart ExecutionsApart kept_of (executions_of p m)
      (λ e i. pairs_filter ExecutionsApart (is_kept m.robustness) (map (pairing r m p o mode e) (offers m o))
      (pairs_map OfferApart ExecutionsApart (pairing r m p o mode e) (offers m o) (λ y z j l c q. conflict_within _ _ _ _ (right_in e y) (right_in e z) c) offers_apart))
      (λ e f i j c u v k l.
      over_kept (λ u. ExecutionsApart u v) e (λ y. over_kept (λ v. ExecutionsApart (pairing r m p o mode e y) v) f (λ z q. conflict_within _ _ _ _ (left_in e y) (left_in f z) (c q)) v l) u k)
      (pairs_filter ExecutionsApart (names p) m.executions x.executions_apart)

  pub consistent_lock : Consistent (next r m (Lock p o mode))
  unfolding next new_holding
  consistent_lock = record {
    execution_sound = over_locked _ r m p o mode (λ e i t. x.execution_sound e i) (λ e i j y l t. disjoint_apart _ _ (and_parts _ _ t).0);
    version_sound = x.version_sound;
    execution_chained = over_locked (λ e. Chained (m.holdings ++ new_holding ∷ []) e.job e.assumes) r m p o mode (λ e i t. chained_more m.holdings _ (waits_more m.holdings new_holding) _ _ (x.execution_chained e i)) (λ e i j y l t.
        subst (λ q. Chained (m.holdings ++ new_holding ∷ []) q (pairing r m p o mode e y).assumes) (sym j) (pair_chain e i j y l));
    version_chained = λ v i. linked_more m.holdings _ (waits_more m.holdings new_holding) _ _ (x.version_chained v i);
    maker_commits = x.maker_commits;
    executions_apart = pairs_append ExecutionsApart (filter (λ e. not (names p e)) m.executions) (kept_pairs r m p o mode) (pairs_filter ExecutionsApart (λ e. not (names p e)) m.executions x.executions_apart) paired_apart
        (λ e i. let t = in_filter (λ e. not (names p e)) m.executions e i in over_kept_pairs _ r m p o mode (λ f j q y l u same. absurd (eqb-false _ _ (not-true _ t.1) (same ∙ q))));
    versions_apart = x.versions_apart;
  }

-- ---- an image
module _ (r : Rule) (m : Model) (p o : ℕ) (b : Images m p o) (s : WellFormed m) (c : Acyclic m.holdings) (x : Consistent m) where
  -- p has made no version of o yet
  first_version : (v : Version) → In v m.versions → v.object ≡ o → v.maker ≡ p → ⊥
  first_version v i e f = let w = s.made_by v i in not_both m p o s b w.0 w.1 (w.2 ∙ f) (w.3 ∙ e) w.4

  made_from : Execution → Version
  made_from e = version_by r (job_at m p) o (position p o m.holdings) e

  pub consistent_image : Consistent (next r m (Image p o))
  unfolding next made_from
  consistent_image = record {
    execution_sound = x.execution_sound;
    version_sound = over_append _ m.versions (map made_from (executions_of p m)) x.version_sound (over_part _ made_from _ m.executions (λ e i t k d f.
        elim (join_cases _ _ k d) [
          | inl l ↦ x.execution_sound e i k l f
          | inr l ↦ never_assumes_itself m.holdings c.rank c.falls e.job e.assumes (x.execution_chained e i) (inr (subst (AbortIn e.assumes) (sym (in_single _ _ l)) f))
        ]));
    execution_chained = λ e i. chained_more m.holdings _ (turn_waits p o m.holdings) _ _ (x.execution_chained e i);
    version_chained = over_append (λ v. Linked (map (turn p o) m.holdings) v.maker v.assumes) m.versions (map made_from (executions_of p m))
        (λ v i. linked_more m.holdings _ (turn_waits p o m.holdings) _ _ (x.version_chained v i))
        (over_part _ made_from _ m.executions (λ e i t.
        linked_version _ e.job e.assumes (chained_more m.holdings _ (turn_waits p o m.holdings) _ _ (x.execution_chained e i))));
    maker_commits = over_append _ m.versions (map made_from (executions_of p m)) x.maker_commits (over_map _ made_from (executions_of p m) (λ e i. join_right _ _ _ (single_in _ _ refl)));
    executions_apart = x.executions_apart;
    versions_apart = pairs_append VersionsApart m.versions (map made_from (executions_of p m)) x.versions_apart
        (pairs_map ExecutionsApart VersionsApart made_from (executions_of p m) (λ e f i j a q same. conflict_within _ _ _ _ (mine e) (mine f) (a same)) (pairs_filter ExecutionsApart (names p) m.executions x.executions_apart))
        (λ v i. over_part _ made_from _ m.executions (λ e j t q same. absurd (first_version v i q (same ∙ eqb-true _ _ t))));
  }
    where
      mine : (e : Execution) → Within e.assumes (made_from e).assumes
      mine e = record { on_commits = λ k i. join_left _ _ k i; on_aborts = λ k i. i }

-- ---- an end
module _ (w : Ending) (k : ℕ) (values : List ℕ) (m : Model) (x : Consistent m) where
  -- a job that commits waits for none
  abbrev pub Free : Ending → Type 0
  Free Committed = waits m.holdings k ≡ 0
  Free Aborted = Unit {0}

  stops : Free w → (a : Assumption) → survives w k a ≡ true → Stops m.holdings k a
  stops f a t = go w f t
    where
      go : (w : Ending) → Free w → survives w k a ≡ true → Stops m.holdings k a
      go Committed f t c q e = none_in q (subst (λ n. has n q ≡ true) f e)
      go Aborted f t c q e = grind (arith, t, c)

  left_sep : (a : Assumption) → OneWay a → OneWay (settled k a)
  left_sep a d q c e = d q (in_without_one _ k q c).0 (in_without_one _ k q e).0

  pub consistent_settle : Free w → Consistent (settle w k values m)
  unfolding settle
  consistent_settle f = record {
    execution_sound = over_part _ (settled_execution k) _ m.executions (λ e i t. left_sep _ (x.execution_sound e i));
    version_sound = over_part _ (settled_version k) _ m.versions (λ v i t. left_sep _ (x.version_sound v i));
    execution_chained = over_part (λ e. Chained (rest k m.holdings) e.job e.assumes) (settled_execution k) _ m.executions (λ e i t.
        let q = and_parts _ _ t in chained_settled m.holdings k _ _ (eqb-false _ _ (not-true _ q.0)) (stops f _ q.1) (x.execution_chained e i));
    version_chained = over_part (λ v. Linked (rest k m.holdings) v.maker v.assumes) (settled_version k) _ m.versions (λ v i t.
        linked_settled m.holdings k _ _ (stops f _ (and_parts _ _ t).1) (x.version_chained v i));
    maker_commits = over_part _ (settled_version k) _ m.versions (λ v i t. without_one_in _ k _ (x.maker_commits v i) (eqb-false _ _ (not-true _ (and_parts _ _ t).0)));
    executions_apart = pairs_map ExecutionsApart ExecutionsApart (settled_execution k) _ (λ e g i j a same.
        conflict_settled w k _ _ (and_parts _ _ (in_filter _ m.executions e i).1).1 (and_parts _ _ (in_filter _ m.executions g j).1).1 (a same))
        (pairs_filter ExecutionsApart _ m.executions x.executions_apart);
    versions_apart = pairs_map VersionsApart VersionsApart (settled_version k) _ (λ e g i j a same made.
        conflict_settled w k _ _ (and_parts _ _ (in_filter _ m.versions e i).1).1 (and_parts _ _ (in_filter _ m.versions g j).1).1 (a same made))
        (pairs_filter VersionsApart _ m.versions x.versions_apart);
  }
