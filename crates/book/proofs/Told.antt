-- What a list of calls is answered, and the law of a whole run.
use Rattle.std.proofs.Common.{◌≡◌, ℕ, suc, List, [], ◌∷◌, ◌++◌, length, Some, None, Ok, Err, Option, Result, sym, refl, ap, ◌∙◌, subst}
use Rattle.std.specs.Result.{result_err}
use Rattle.std.proofs.lemmas.List.{append_assoc, append-nil}
use Rattle.terms.specs.declared.calls.Call.{Call}
use Rattle.terms.specs.Rule.{Rule}
use Rattle.protocol.specs.declared.refusals.Refusal.{Refusal}
use Rattle.protocol.specs.History.{history_of}
use Rattle.protocol.specs.Law.{Law}
use Rattle.protocol.specs.Model.{Model, new}
use Rattle.protocol.specs.Past.{past}
use Rattle.protocol.specs.Step.{answer, step, run}
use Rattle.protocol.specs.Waiting.{WaitsFor}
use Rattle.protocol.proofs.HistoryBook.{history_laws}
use Rattle.protocol.proofs.Law.{law}
use Rattle.book.specs.Ready.{NamesReady, Ready}
use Rattle.book.specs.RunLaw.{counts}
use Rattle.book.specs.Told.{returned, events, answers_of}
use Rattle.book.specs.View.{Follows}
use Rattle.book.proofs.Steps.{step_from}

-- ---- the answers
answer_from : (r : Rule) (m : Model) (c : Call) (result : Result (Unit {0}) Refusal) (after : Model) → Follows r m c result after → returned (answer r m c) ≡ result
answer_from r m c (Ok _) after f = ap returned f.0
answer_from r m c (Err e) after f = ap returned f.0

-- the answer, told by what the caller gets back
pub told_by : (a : Option Refusal) → result_err (returned a) ≡ a
told_by None = refl
told_by (Some x) = refl

answers_more : (r : Rule) (m : Model) (c : Call) (cs : List Call) → answers_of r m (c ∷ cs) ≡ returned (answer r m c) ∷ answers_of r (step r m c) cs
unfolding answers_of past
answers_more r m c cs = refl

pub answers_none : (r : Rule) (m : Model) (given : List (Result (Unit {0}) Refusal)) → given ++ answers_of r m [] ≡ given
unfolding answers_of past
answers_none r m given = append-nil given

-- one more call: its answer goes from those to come to those given
pub answers_step : (r : Rule) (m after : Model) (c : Call) (result : Result (Unit {0}) Refusal) (cs : List Call) (given more : List (Result (Unit {0}) Refusal))
    → Follows r m c result after → more ≡ given ++ result ∷ [] → more ++ answers_of r after cs ≡ given ++ answers_of r m (c ∷ cs)
answers_step r m after c result cs given more f is =
    ap (λ l. l ++ answers_of r after cs) is ∙ append_assoc given (result ∷ []) (answers_of r after cs)
    ∙ ap (λ l. given ++ l)
    (ap (λ a. a ∷ answers_of r after cs) (sym (answer_from r m c result after f)) ∙ ap (λ n. returned (answer r m c) ∷ answers_of r n cs) (sym (step_from r m c result after f)) ∙ sym (answers_more r m c cs))

answers_long : (r : Rule) (m : Model) (cs : List Call) → length (answers_of r m cs) ≡ length cs
unfolding answers_of past
answers_long r m [] = refl
answers_long r m (c ∷ cs) = ap suc (answers_long r (step r m c) cs)

-- the calls with the model's answers are its past
events_past : (r : Rule) (m : Model) (cs : List Call) → events cs (answers_of r m cs) ≡ past r m cs
unfolding events answers_of past
events_past r m [] = refl
events_past r m (c ∷ cs) =
    ap (λ a. record { call = c; answer = a } ∷ events cs (answers_of r (step r m c) cs)) (told_by (answer r m c))
    ∙ ap (λ es. record { call = c; answer = answer r m c } ∷ es) (events_past r (step r m c) cs)

-- ---- the law of a run
-- what the ready answer says of the book it says of the history
told_ready : (r : Rule) (x l : ℕ) (first : List ℕ) (cs : List Call) (ready : Option ℕ) → Ready (run r (new x l first) cs) ready
    → NamesReady (history_of (past r (new x l first) cs)).runs (history_of (past r (new x l first) cs)).holdings ready
told_ready r x l first cs None f = λ p. history_laws.same_running r x l first cs p ∙ f p
told_ready r x l first cs (Some p) f =
    (history_laws.same_running r x l first cs p ∙ f.0, λ k w. f.1 k (subst (λ hs. WaitsFor hs p k) (history_laws.same_holdings r x l first cs) w))

pub lawful_run : (r : Rule) (x l : ℕ) (first : List ℕ) (cs : List Call) (m : Model) (given : List (Result (Unit {0}) Refusal)) (ready : Option ℕ)
    → m ≡ run r (new x l first) cs → given ≡ answers_of r (new x l first) cs → Ready m ready
    → (length given ≡ length cs) × Law r x first (events cs given) m.values (counts m) × NamesReady (history_of (events cs given)).runs (history_of (events cs given)).holdings ready
lawful_run r x l first cs m given ready is tells f =
    let start = new x l first in
    let past_is : past r start cs ≡ events cs given = sym (ap (events cs) tells ∙ events_past r start cs) in (
      ap length tells ∙ answers_long r start cs,
      subst (λ (m : Model). Law r x first (events cs given) m.values (counts m)) (sym is) (subst (λ es. Law r x first es (run r start cs).values (counts (run r start cs))) past_is (law r x l first cs)),
      subst (λ es. NamesReady (history_of es).runs (history_of es).holdings ready) past_is (told_ready r x l first cs ready (subst (λ m. Ready m ready) is f)),
    )
