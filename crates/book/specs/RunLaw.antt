-- What a whole run promises: the law of the book, of the calls and the answers that they got, with the ready question's answer.
use Rattle.std.specs.Prelude.{◌≡◌, ℕ, List, length, Some, None, vec_items}
use Rattle.terms.specs.declared.calls.Call.{Call}
use Rattle.terms.specs.Rule.{Rule}
use Rattle.protocol.specs.History.{history_of}
use Rattle.protocol.specs.Law.{Law}
use Rattle.protocol.specs.Model.{Model, new, executions_of}
use Rattle.protocol.specs.Lists.{first as first_of}
use Rattle.protocol.specs.Step.{run, new_refusals}
use Rattle.book.specs.declared.outcome.Run.{Run}
use Rattle.book.specs.declared.outcome.RunError.{RunError}
use Rattle.book.specs.declared.outcome.RunError.TheVariants.{Refused, OutOfMemory}
use Rattle.book.specs.Ready.{NamesReady}
use Rattle.book.specs.Told.{events, answers_of}
use Rattle.book.specs.View.{view}

-- how many executions the job at each place has
abbrev pub counts : Model → ℕ → ℕ
counts m p = length (executions_of p m)

-- of calls on a new book with this robustness, over a store whose values were first and are now these: every call was answered; the values are those of
-- the plain run; a running job has one execution where every job that it ever relied on has ended, few enough by abort; the ready answer names a running
-- job that waits for none, and is none exactly where no job runs
abbrev pub RunLaw : Rule → ℕ → List ℕ → List Call → List ℕ → Run → Type 0
RunLaw r robustness first calls values done =
    let es = events calls (vec_items done.answers) in
    (length (vec_items done.answers) ≡ length calls)
    × Law r robustness first es values (counts (view values done.book))
    × NamesReady (history_of es).runs (history_of es).holdings done.ready

-- robustness and limit were accepted; answers, book and values are those that the rules give
abbrev pub RunFollows : Rule → ℕ → ℕ → List ℕ → List Call → List ℕ → Run → Type 0
RunFollows r robustness limit first calls values done =
    (first_of (new_refusals robustness limit) ≡ None) × (view values done.book ≡ run r (new robustness limit first) calls) × (vec_items done.answers ≡ answers_of r (new robustness limit first) calls)

-- why there was no run: the robustness or the limit was refused, or there was no memory for the answers
abbrev pub NotRun : ℕ → ℕ → RunError → Type 0
NotRun robustness limit (Refused x) = first_of (new_refusals robustness limit) ≡ Some x
NotRun robustness limit (OutOfMemory e) = first_of (new_refusals robustness limit) ≡ None
