-- Each test of a refusal passes exactly when its reason holds.
use Rattle.std.proofs.Common.{◌≡◌, ℕ, ◌+◌, ◌<◌, ◌≤◌, Bool, true, not, ◌&&◌, ◌||◌, eqb, ltb, leb, ◌⊎◌, ◌↔◌, List, [], length, ap, subst, inl, inr, arith}
use Rattle.std.specs.List.{list_any}
use Rattle.std.proofs.lemmas.List.{nil_from_length}
use Rattle.std.proofs.lemmas.Bool.{not-true, ltb-true, lt-ltb, leb-true, le-leb, eqb-true, eq-eqb, ne_eqb, eqb-false}
use Rattle.terms.specs.declared.calls.Call.{Call}
use Rattle.terms.specs.declared.calls.Call.TheVariants.{Begin, Lock, Image, Commit, Abort}
use Rattle.terms.specs.Rule.{Rule}
use Rattle.protocol.specs.declared.holdings.HoldingState.{HoldingState}
use Rattle.protocol.specs.declared.holdings.HoldingState.TheVariants.{Open}
use Rattle.protocol.specs.declared.holdings.Holding.{Holding}
use Rattle.protocol.specs.Begin.{is_known}
use Rattle.protocol.specs.Holdings.{opened, holds, held_by, locked, waits}
use Rattle.protocol.specs.Lists.{is_nil, In}
use Rattle.protocol.specs.Model.{Model, new, executions_of, holding_count}
use Rattle.protocol.specs.Pairing.{kept_pairs}
use Rattle.protocol.specs.Places.{has}
use Rattle.protocol.specs.Reasons.{ReasonLaws, Tells, reasons}
use Rattle.protocol.specs.RingTest.{NoRing, OfPlaces}
use Rattle.protocol.specs.Step.{refusals, run}
use Rattle.protocol.specs.Waiting.{WaitsFor}
use Rattle.protocol.proofs.Lists.{any_in, in_any}
use Rattle.protocol.proofs.SetDigits.{member}
use Rattle.protocol.proofs.RingTest.{exact, kept}
use Rattle.protocol.proofs.Membership.{none_in}
use Rattle.protocol.proofs.Waiting.{waits_why, why_waits}

-- ---- tests on numbers and lists
above : (a b : ℕ) → (ltb a b ≡ true) ↔ (a < b)
above a b = (ltb-true a b, lt-ltb a b)

at_most : (a b : ℕ) → (leb a b ≡ true) ↔ (a ≤ b)
at_most a b = (leb-true a b, le-leb a b)

same : (b : Bool) → (b ≡ true) ↔ (b ≡ true)
same b = (λ e. e, λ e. e)

-- a test that must fail
fails : {P : Type 0} (b : Bool) → (b ≡ true) ↔ P → (not b ≡ true) ↔ (P → ⊥)
fails b w = (λ e. grind (arith, e, w), λ f. grind (arith, f, w))

both : (a b : Bool) {P Q : Type 0} → (a ≡ true) ↔ P → (b ≡ true) ↔ Q → ((a && b) ≡ true) ↔ (P × Q)
both a b f g = (λ e. grind (arith, e, f, g), λ w. grind (arith, w, f, g))

three : (a b c : Bool) {P Q S : Type 0} → (a ≡ true) ↔ P → (b ≡ true) ↔ Q → (c ≡ true) ↔ S → (((a && b) && c) ≡ true) ↔ (P × Q × S)
three a b c f g h = (λ e. grind (arith, e, f, g, h), λ w. grind (arith, w, f, g, h))

equal : (a b : ℕ) → (eqb a b ≡ true) ↔ (a ≡ b)
equal a b = (eqb-true a b, eq-eqb a b)

nil : {A : Type 0} (xs : List A) → (is_nil xs ≡ true) ↔ (xs ≡ [])
nil xs = (λ e. grind (arith, e), λ e. grind (arith, e))

empty : {A : Type 0} (xs : List A) → (eqb (length xs) 0 ≡ true) ↔ (xs ≡ [])
empty xs = (λ e. nil_from_length xs (eqb-true _ _ e), λ e. grind (arith, e))

-- ---- holdings
is_open : (s : HoldingState) → (opened s ≡ true) ↔ (s ≡ Open)
is_open s = (λ e. grind (arith, e), λ e. grind (arith, e))

some : (t : Holding → Bool) (P : Holding → Type 0) → ((h : Holding) → (t h ≡ true) ↔ P h) → (hs : List Holding) → (list_any t hs ≡ true) ↔ ((h : Holding) × In h hs × P h)
some t P f hs = (λ e. let a = any_in t hs e in (a.0, a.1, (f a.0).0 a.2), λ w. in_any t hs w.0 w.1 ((f w.0).1 w.2))

waiting : (hs : List Holding) (p : ℕ) → (not (eqb (waits hs p) 0) ≡ true) ↔ ((q : ℕ) × WaitsFor hs p q)
waiting hs p = (
  λ e. elim (member (waits hs p)) [
    | inl z ↦ absurd (eqb-false _ _ (not-true _ e) z)
    | inr k ↦ (k.0, waits_why hs p k.0 k.1)
  ],
  λ w. ap not (ne_eqb _ _ (λ z. none_in w.0 (subst (λ n. has n w.0 ≡ true) z (why_waits hs p w.0 w.1)))),
)

-- ---- the calls
tells : (r : Rule) (m : Model) → OfPlaces m.holdings → NoRing m.holdings → (c : Call) → Tells (refusals r m c) (reasons r m c)
unfolding refusals
tells r m small none (Begin p kind a) = (above 15 p, (same _, (fails (is_known r kind) (both (leb kind 255) (r.knows kind) (at_most kind 255) (same _)), tt)))
tells r m small none (Lock p o mode) = (
  above 15 p,
  (
    fails _ (same _),
    (
      nil (executions_of p m),
      (
        at_most (length m.values) o,
        (
          some (holds p o) (λ h. (h.job ≡ p) × (h.object ≡ o)) (λ h. both _ _ (equal h.job p) (equal h.object o)) m.holdings,
          (
            at_most 8 (holding_count m p),
            (
              some (λ h. eqb h.object o && opened h.state) (λ h. (h.object ≡ o) × (h.state ≡ Open)) (λ h. both _ _ (equal h.object o) (is_open h.state)) m.holdings,
              (
                exact m.holdings (locked p o mode) small none,
                (empty (kept_pairs r m p o mode), (above m.limit (length (kept_pairs r m p o mode)), tt)),
              ),
            ),
          ),
        ),
      ),
    ),
  ),
)
tells r m small none (Image p o) = (
  above 15 p,
  (
    fails _ (same _),
    (
      nil (executions_of p m),
      (
        at_most (length m.values) o,
        (
          fails _ (some (λ h. holds p o h && opened h.state) (λ h. (h.job ≡ p) × (h.object ≡ o) × (h.state ≡ Open))
              (λ h. three (eqb h.job p) (eqb h.object o) (opened h.state) (equal h.job p) (equal h.object o) (is_open h.state)) m.holdings),
          (above 256 (length m.versions + length (executions_of p m)), tt),
        ),
      ),
    ),
  ),
)
tells r m small none (Commit p) = (
  above 15 p,
  (
    fails _ (same _),
    (
      nil (executions_of p m),
      (
        some (λ h. held_by p h && opened h.state) (λ h. (h.job ≡ p) × (h.state ≡ Open)) (λ h. both _ _ (equal h.job p) (is_open h.state)) m.holdings,
        (waiting m.holdings p, tt),
      ),
    ),
  ),
)
tells r m small none (Abort p) = (above 15 p, (fails _ (same _), tt))

of_call : (r : Rule) (robustness limit : ℕ) (first : List ℕ) (cs : List Call) (c : Call) → Tells (refusals r (run r (new robustness limit first) cs) c) (reasons r (run r (new robustness limit first) cs) c)
of_call r robustness limit first cs c =
    let w = kept r robustness limit first cs in
    tells r (run r (new robustness limit first) cs) w.0 w.1 c

either : (a b : Bool) {P Q : Type 0} → (a ≡ true) ↔ P → (b ≡ true) ↔ Q → ((a || b) ≡ true) ↔ (P ⊎ Q)
either a b f g = (λ e. grind (arith, e, f, g), λ w. grind (arith, w, f, g))

pub reason_laws : ReasonLaws
reason_laws = record {
  of_new = λ robustness limit. (above 120 robustness, (either (eqb limit 0) (ltb 16 limit) (equal limit 0) (above 16 limit), tt));
  of_call = of_call;
}
