-- The records of the book fit together: each names a job that runs, a job holds an object once, and nothing is held behind an open holding.
-- Every call keeps it.
use Rattle.std.proofs.Common.{◌≡◌, ℕ, ◌<◌, true, not, List, ◌++◌, map, length, set, Some, None, sym, refl, ap, ◌∙◌, subst, inl, inr, arith, length-set}
use Rattle.std.specs.Prelude.{is_some, filter}
use lib.ListN.{get_or-eq_default}
use Rattle.std.proofs.lemmas.Bool.{false≢true, cases_lt, eqb-true, eqb-false, ne_eqb, eq-eqb, not-true, and_parts, and_from}
use Rattle.terms.specs.declared.modes.Mode.{Mode}
use Rattle.protocol.specs.declared.holdings.Holding.{Holding}
use Rattle.protocol.specs.declared.assumptions.Execution.{Execution}
use Rattle.protocol.specs.declared.assumptions.Version.{Version}
use Rattle.terms.specs.declared.calls.Call.TheVariants.{Begin, Lock, Image}
use Rattle.protocol.specs.Holdings.{holds, turned, opened, turn}
use Rattle.protocol.specs.Lists.{In, Behind}
use Rattle.protocol.specs.Model.{Model, new, executions_of, names, holding_count}
use Rattle.protocol.specs.Pairing.{offers, kept_pairs, pairing, is_kept, offer, stored_offer}
use Rattle.protocol.specs.PairingLaws.{Makes}
use Rattle.protocol.specs.Settling.{settle, settled_execution, settled_version}
use Rattle.protocol.specs.Step.{next}
use Rattle.terms.specs.Rule.{Rule}
use Rattle.protocol.specs.declared.assumptions.Offer.{Offer}
use Rattle.protocol.specs.declared.jobs.Ending.{Ending}
use Rattle.protocol.proofs.Running.{Runs, RunsIn, runs_begun, begun_runs, runs_ended}
use Rattle.protocol.proofs.HoldingStates.{opened_turned, opened_turn, turned_turn, open_turns}
use Rattle.protocol.proofs.Lists.{in_filter, filter_in, over_filter, over_append, over_push, map_in, over_map, over_each, append_left, behind_two, push_cases, in_filter_behind, in_map_behind, over_part}
use Rattle.protocol.proofs.Accepted.{Begins, Locks, Images}

pub record WellFormed (m : Model) : Type 0 where
  -- there are sixteen places
  pub places : length m.jobs ≡ 16
  -- who holds runs, and what is held is an object
  pub held_by : (h : Holding) → In h m.holdings → Runs m h.job × (h.object < length m.values)
  -- an execution is of a job that runs, with room for eight values met
  pub worked_by : (e : Execution) → In e m.executions → Runs m e.job × (length e.met ≡ 8)
  -- the maker of a version has turned its object
  pub made_by : (v : Version) → In v m.versions → (h : Holding) × In h m.holdings × (h.job ≡ v.maker) × (h.object ≡ v.object) × (turned h.state ≡ true)
  -- a job holds an object once
  pub once : (g h : Holding) → Behind g h m.holdings → g.job ≡ h.job → g.object ≡ h.object → ⊥
  -- an open holding is the last of its object
  pub last : (g h : Holding) → Behind g h m.holdings → g.object ≡ h.object → opened g.state ≡ true → ⊥

pub runs_small : (m : Model) → WellFormed m → (p : ℕ) → Runs m p → p < 16
runs_small m s p h =
    elim (cases_lt p 16) [
      | inl l ↦ l
      | inr l ↦ absurd (false≢true (sym (ap is_some (get_or-eq_default m.jobs None {n = p} (omega (arith, s.places)))) ∙ h))
    ]

-- the maker of a version is a maker of its object
pub maker_of : (m : Model) → WellFormed m → (o : ℕ) (v : Version) → In v m.versions → v.object ≡ o → Makes m.holdings o v.maker
maker_of m s o v i e = let w = s.made_by v i in record { holding = w.0; there = w.1; job = w.2; object = w.3 ∙ e; turns = w.4 }

-- what a job has open it has not turned
pub not_both : (m : Model) (p o : ℕ) → WellFormed m → Images m p o → (h : Holding) → In h m.holdings → h.job ≡ p → h.object ≡ o → turned h.state ≡ true → ⊥
not_both m p o s b h i j e t =
    let g = b.opens in
    grind (arith, j, e, t, g.2, g.3, g.4, behind_two m.holdings h g.0 i g.1, s.once h g.0, s.once g.0 h, opened_turned h.state)

-- ---- a new book, and a begin
pub well_formed_new : (r l : ℕ) (values : List ℕ) → WellFormed (new r l values)
unfolding new
well_formed_new r l values = record { places = refl; held_by = λ h i. absurd i; worked_by = λ e i. absurd i; made_by = λ v i. absurd i; once = λ g h i. absurd i; last = λ g h i. absurd i }

pub well_formed_begin : (r : Rule) (m : Model) (p k a : ℕ) → Begins m p → WellFormed m → WellFormed (next r m (Begin p k a))
unfolding next
well_formed_begin r m p k a b s = record {
  places = length-set m.jobs p _ ∙ s.places;
  held_by = λ h i. (up h.job (s.held_by h i).0, (s.held_by h i).1);
  worked_by = over_push _ m.executions _ (λ e i. (up e.job (s.worked_by e i).0, (s.worked_by e i).1)) (begun_runs m.jobs p _ inside, refl);
  made_by = s.made_by;
  once = s.once;
  last = s.last;
}
  where
    inside : p < length m.jobs
    inside = omega (arith, s.places, b.small)

    up : (q : ℕ) → Runs m q → RunsIn (set m.jobs p (Some (record { kind = k; argument = a }))) q
    up q h = runs_begun m.jobs p q _ inside h

-- ---- a lock
-- what holds of each kept pair
pub over_kept_pairs : (P : Execution → Type 0) (r : Rule) (m : Model) (p o : ℕ) (mode : Mode)
    → ((e : Execution) → In e m.executions → e.job ≡ p → (x : Offer) → In x (offers m o) → is_kept m.robustness (pairing r m p o mode e x) ≡ true → P (pairing r m p o mode e x))
    → (e : Execution) → In e (kept_pairs r m p o mode) → P e
unfolding kept_pairs
over_kept_pairs P r m p o mode f =
    over_each P _ (executions_of p m) (λ e i.
    let own_e = in_filter (names p) m.executions e i in
    over_filter P (is_kept m.robustness) (map (pairing r m p o mode e) (offers m o)) (λ y j.
    over_map (λ z. is_kept m.robustness z ≡ true → P z) (pairing r m p o mode e) (offers m o) (λ x l t. f e own_e.0 (eqb-true _ _ own_e.1) x l t) y j))

-- what holds of each execution after a lock: of those of other jobs, and of each kept pair
pub over_locked : (P : Execution → Type 0) (r : Rule) (m : Model) (p o : ℕ) (mode : Mode)
    → ((e : Execution) → In e m.executions → not (names p e) ≡ true → P e)
    → ((e : Execution) → In e m.executions → e.job ≡ p → (x : Offer) → In x (offers m o) → is_kept m.robustness (pairing r m p o mode e x) ≡ true → P (pairing r m p o mode e x))
    → (e : Execution) → In e (filter (λ e. not (names p e)) m.executions ++ kept_pairs r m p o mode) → P e
over_locked P r m p o mode f g = over_append P _ _ (over_filter P (λ e. not (names p e)) m.executions f) (over_kept_pairs P r m p o mode g)

-- what holds of each offer: of the stored value, and of each version
pub over_offers : (P : Offer → Type 0) (m : Model) (o : ℕ) → P (stored_offer m o) → ((v : Version) → In v m.versions → v.object ≡ o → P (offer m.holdings o v)) → (x : Offer) → In x (offers m o) → P x
unfolding offers
over_offers P m o f g x (inl e) = subst P e f
over_offers P m o f g x (inr i) = over_part P (offer m.holdings o) _ m.versions (λ v j t. g v j (eqb-true _ _ t)) x i

pub well_formed_lock : (r : Rule) (m : Model) (p o : ℕ) (mode : Mode) → Locks m p o mode → WellFormed m → WellFormed (next r m (Lock p o mode))
unfolding next kept_pairs
well_formed_lock r m p o mode b s = record {
  places = s.places;
  held_by = over_push _ m.holdings _ s.held_by (b.runs, b.object);
  worked_by = over_locked _ r m p o mode (λ e i t. s.worked_by e i) (λ e i j x l t. new e i x);
  made_by = λ v i. let w = s.made_by v i in (w.0, append_left m.holdings _ w.0 w.1, w.2, w.3, w.4);
  once = λ g h i. elim (push_cases m.holdings _ g h i) [ inl j ↦ s.once g h j | inr j ↦ λ e f. b.new g j.0 (e ∙ sym (ap (λ x. x.job) j.1)) (f ∙ sym (ap (λ x. x.object) j.1)) ];
  last = λ g h i. elim (push_cases m.holdings _ g h i) [ inl j ↦ s.last g h j | inr j ↦ λ e f. b.shut g j.0 (e ∙ sym (ap (λ x. x.object) j.1)) f ];
}
  where
    new : (e : Execution) → In e m.executions → (y : Offer) → Runs m e.job × (length (set e.met (holding_count m p) y.value) ≡ 8)
    new e i y = let w = s.worked_by e i in (w.0, length-set e.met _ _ ∙ w.1)

-- ---- an image
pub well_formed_image : (r : Rule) (m : Model) (p o : ℕ) → Images m p o → WellFormed m → WellFormed (next r m (Image p o))
unfolding next
well_formed_image r m p o b s = record {
  places = s.places;
  held_by = over_map _ (turn p o) m.holdings s.held_by;
  worked_by = s.worked_by;
  made_by = over_append _ m.versions _
      (λ v i. let w = s.made_by v i in (turn p o w.0, map_in (turn p o) m.holdings w.0 w.1, w.2, w.3, turned_turn _ _ w.4))
      (over_map _ _ (executions_of p m) (λ e i.
      let w = b.opens in (
        turn p o w.0,
        map_in (turn p o) m.holdings w.0 w.1,
        w.2 ∙ sym (eqb-true _ _ (in_filter (names p) m.executions e i).1),
        w.3,
        open_turns _ _ (and_from _ _ (eq-eqb _ _ w.2) (eq-eqb _ _ w.3)) w.4,
      )));
  once = λ g h i. let t = in_map_behind (turn p o) m.holdings g h i in λ e f. s.once t.0 t.1 t.2 (ap (λ x. x.job) t.3 ∙ e ∙ sym (ap (λ x. x.job) t.4)) (ap (λ x. x.object) t.3 ∙ f ∙ sym (ap (λ x. x.object) t.4));
  last = λ g h i. let t = in_map_behind (turn p o) m.holdings g h i in λ f n. s.last t.0 t.1 t.2 (ap (λ x. x.object) t.3 ∙ f ∙ sym (ap (λ x. x.object) t.4))
      (opened_turn (holds p o t.0) t.0.state (ap (λ x. opened x.state) t.3 ∙ n));
}

-- ---- an end
pub well_formed_settle : (w : Ending) (k : ℕ) (values : List ℕ) (m : Model) → length values ≡ length m.values → WellFormed m → WellFormed (settle w k values m)
unfolding settle
well_formed_settle w k values m long s = record {
  places = length-set m.jobs k None ∙ s.places;
  held_by = over_filter _ _ m.holdings (λ h i t. (runs_ended m.jobs k _ (eqb-false _ _ (not-true _ t)) (s.held_by h i).0, omega (arith, (s.held_by h i).1, long)));
  worked_by = over_part _ (settled_execution k) _ m.executions (λ e i t. (runs_ended m.jobs k _ (eqb-false _ _ (not-true _ (and_parts _ _ t).0)) (s.worked_by e i).0, (s.worked_by e i).1));
  made_by = over_part _ (settled_version k) _ m.versions (λ v i t.
      let x = s.made_by v i in
      (x.0, filter_in _ m.holdings x.0 x.1 (ap not (ne_eqb _ _ (λ e. eqb-false _ _ (not-true _ (and_parts _ _ t).0) (sym x.2 ∙ e)))), x.2, x.3, x.4));
  once = λ g h i. s.once g h (in_filter_behind _ m.holdings g h i).0;
  last = λ g h i. s.last g h (in_filter_behind _ m.holdings g h i).0;
}
