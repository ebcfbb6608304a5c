-- The first reason that applies is answered.
use Rattle.std.proofs.Common.{◌≡◌, Bool, true, false, List, [], ◌∷◌, ◌++◌, map, Some, None, refl, ap, ◌∙◌, inl, inr, arith}
use Rattle.std.specs.List.{AllByRecursion}
use Rattle.std.proofs.lemmas.Bool.{cases_Bool}
use Rattle.terms.specs.declared.calls.Call.{Call}
use Rattle.terms.specs.declared.calls.Call.TheVariants.{Begin, Lock, Image, Commit, Abort}
use Rattle.terms.specs.Rule.{Rule}
use Rattle.protocol.specs.declared.refusals.Refusal.{Refusal}
use Rattle.protocol.specs.Lists.{first}
use Rattle.protocol.specs.Model.{Model}
use Rattle.protocol.specs.RefusalLaws.{FirstThatApplies, RefusalLaws, numbers}
use Rattle.protocol.specs.Refusals.{refusal_number}
use Rattle.protocol.specs.Step.{refusals, answer, next, step}
use Rattle.protocol.proofs.Accepted.{none_first}

abbrev Reason : Type 0
Reason = Bool × Refusal

abbrev Fails : Reason → Type 0
Fails t = t.0 ≡ false

-- ---- the first of a list
some_first : (ts : List Reason) (x : Refusal) → first ts ≡ Some x → FirstThatApplies ts x
some_first [] x e = grind (arith, e)
some_first (t ∷ ts) x e = elim (cases_Bool t.0) [
  | inl q ↦ record { before = []; after = ts; stands = grind (arith, q, e); passed = tt }
  | inr q ↦ let w = some_first ts x (grind (arith, q, e)) in record { before = t ∷ w.before; after = w.after; stands = ap (λ us. t ∷ us) w.stands; passed = (q, w.passed) }
]

first_some : (ts : List Reason) (x : Refusal) → FirstThatApplies ts x → first ts ≡ Some x
first_some ts x w = ap first w.stands ∙ go w.before w.passed
  where
    go : (us : List Reason) → AllByRecursion Fails us → first (us ++ (true, x) ∷ w.after) ≡ Some x
    go [] a = refl
    go (u ∷ us) a = grind (arith, a, go us a.1)

first_none : (ts : List Reason) → AllByRecursion Fails ts → first ts ≡ None
first_none [] a = refl
first_none (t ∷ ts) a = grind (arith, a, first_none ts a.1)

-- ---- the calls
rising : (r : Rule) (m : Model) (c : Call) → map (λ (t : Reason). refusal_number t.1) (refusals r m c) ≡ numbers c
unfolding refusals
rising r m (Begin p kind a) = refl
rising r m (Lock p o mode) = refl
rising r m (Image p o) = refl
rising r m (Commit p) = refl
rising r m (Abort p) = refl

pub refusal_laws : RefusalLaws
unfolding answer step
refusal_laws = record {
  rising_new = λ robustness limit. refl;
  rising = rising;
  refused = λ r m c x. (some_first (refusals r m c) x, first_some (refusals r m c) x);
  granted = λ r m c. (none_first (refusals r m c), first_none (refusals r m c));
  unchanged = λ r m c x e. ap (λ a. elim a as (λ _. Model) [ None ↦ next r m c | Some y ↦ m ]) e;
}
