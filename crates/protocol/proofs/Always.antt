-- What holds of a book and is kept by each accepted call holds after every list of calls; so the invariant does.
use Rattle.std.proofs.Common.{◌≡◌, ℕ, List, [], ◌∷◌, Some, None, Option, refl, ap}
use Rattle.terms.specs.declared.calls.Call.{Call}
use Rattle.terms.specs.Rule.{Rule}
use Rattle.protocol.specs.declared.refusals.Refusal.{Refusal}
use Rattle.protocol.specs.History.{History, history_one, history, blank}
use Rattle.protocol.specs.Model.{Model, new}
use Rattle.protocol.specs.Past.{past}
use Rattle.protocol.specs.PlainRun.{Plain, plain_one}
use Rattle.protocol.specs.Step.{answer, next, step, run}
use Rattle.protocol.proofs.Invariant.{Invariant, invariant_new, invariant_next}

pub always : (r : Rule) (P : Model → History → Type 0) → ((m : Model) (h : History) (c : Call) → answer r m c ≡ None → P m h → P (next r m c) (history_one h c))
    → (m : Model) (h : History) (cs : List Call) → P m h → P (run r m cs) (history h (past r m cs))
unfolding run past history step
always r P f m h [] i = i
always r P f m h (c ∷ cs) i = go (answer r m c) refl (λ m h. always r P f m h cs)
  where
    go : (a : Option Refusal) → answer r m c ≡ a → ((m : Model) (h : History) → P m h → P (run r m cs) (history h (past r m cs)))
        → P (run r (elim a [ None ↦ next r m c | Some x ↦ m ]) cs)
        (elim a as (λ _. History) [ None ↦ history (history_one h c) (past r (elim a [ None ↦ next r m c | Some x ↦ m ]) cs) | Some x ↦ history h (past r (elim a [ None ↦ next r m c | Some x ↦ m ]) cs) ])
    go None e rec = rec (next r m c) (history_one h c) (f m h c e i)
    go (Some x) e rec = rec m h i

-- what an accepted call leaves
pub accepted_step : (r : Rule) (m : Model) (c : Call) → answer r m c ≡ None → step r m c ≡ next r m c
unfolding step
accepted_step r m c e = ap (λ a. elim a as (λ _. Model) [ None ↦ next r m c | Some x ↦ m ]) e

-- the invariant of the law, as a fact of the book alone
abbrev pub Lawful : Rule → Model → Type 0
Lawful r m = (s : Plain) × Invariant r m s

pub lawful_next : (r : Rule) (m : Model) (c : Call) → answer r m c ≡ None → Lawful r m → Lawful r (next r m c)
lawful_next r m c e i = (plain_one r i.0 c, invariant_next r m i.0 c e i.1)

pub lawful : (r : Rule) (robustness limit : ℕ) (first : List ℕ) (cs : List Call) → Lawful r (run r (new robustness limit first) cs)
lawful r robustness limit first cs = always r (λ m h. Lawful r m) (λ m h c e i. lawful_next r m c e i) (new robustness limit first) blank cs (record { values = first; pending = [] }, invariant_new r robustness limit first)
