-- A run, one call after another.
use Rattle.std.proofs.Common.{◌≡◌, List, [], ◌∷◌, Some, None, Ok, Err, Option, Result, sym, refl, ap, ◌∙◌, subst}
use Rattle.std.specs.Result.{IsErrAnd}
use Rattle.std.proofs.lemmas.Result.{err_from_is_err_and}
use Rattle.terms.specs.declared.calls.Call.{Call}
use Rattle.protocol.specs.declared.refusals.Refusal.{Refusal}
use Rattle.protocol.specs.Model.{Model}
use Rattle.protocol.specs.Step.{answer, next, step, run}
use Rattle.terms.specs.Rule.{Rule}
use Rattle.book.specs.View.{Follows}

at : (r : Rule) (m : Model) (c : Call) (a : Option Refusal) → answer r m c ≡ a → step r m c ≡ (elim a as (λ _. Model) [ None ↦ next r m c | Some x ↦ m ])
unfolding step
at r m c a e = ap (λ (a : Option Refusal). elim a as (λ _. Model) [ None ↦ next r m c | Some x ↦ m ]) e

pub step_from : (r : Rule) (m : Model) (c : Call) (result : Result (Unit {0}) Refusal) (after : Model) → Follows r m c result after → step r m c ≡ after
step_from r m c (Ok _) after f = at r m c None f.0 ∙ sym f.1
step_from r m c (Err e) after f = at r m c (Some e) f.0 ∙ sym f.1

pub run_more : (r : Rule) (m : Model) (c : Call) (cs : List Call) → run r m (c ∷ cs) ≡ run r (step r m c) cs
unfolding run
run_more r m c cs = refl

pub run_none : (r : Rule) (m : Model) → run r m [] ≡ m
unfolding run
run_none r m = refl

-- a call whose refusal is passed on leaves all as it was
pub refused : (r : Rule) (m : Model) (c : Call) (result : Result (Unit {0}) Refusal) (e : Refusal) → IsErrAnd result (λ y. y ≡ e) → answer r m c ≡ Some e → Follows r m c result m
refused r m c result e is a = let q = err_from_is_err_and result is in subst (λ x. Follows r m c x m) (sym q.1) (a ∙ ap Some (sym q.2), refl)
