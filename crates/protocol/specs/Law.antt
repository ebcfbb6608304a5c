-- The law of the book: what holds after every list of calls, told by the calls and their answers alone.
use Rattle.std.specs.Prelude.{◌≡◌, ℕ, ◌≤◌, true, List, length}
use Rattle.terms.specs.declared.calls.Call.{Call}
use Rattle.terms.specs.Rule.{Rule}
use Rattle.protocol.specs.History.{History, history_of, relies_on, has_ended, aborts}
use Rattle.protocol.specs.Model.{new, executions_of}
use Rattle.protocol.specs.Past.{Event, past}
use Rattle.protocol.specs.PlainRun.{plain_run}
use Rattle.protocol.specs.Step.{run}
use Rattle.protocol.specs.Waiting.{WaitsFor}

-- every job on which job i ever relied has ended
abbrev pub AllEnded : History → ℕ → Type 0
AllEnded h i = (x : ℕ) → relies_on h.relied i x ≡ true → has_ended h.ended x ≡ true

-- of a book made with this robustness over these first values, after this past: of the values now in the store, and of how many executions the job at each place has
pub record Law (r : Rule) (robustness : ℕ) (first : List ℕ) (es : List Event) (values : List ℕ) (executions : ℕ → ℕ) : Type 0 where
  -- the store has the values of the plain run
  pub same : values ≡ plain_run r first es
  -- a running job has one execution, if every job on which it ever relied has ended, at most as many of them by abort as the robustness says
  pub one : (p : ℕ) → (history_of es).runs p ≡ true → AllEnded (history_of es) ((history_of es).ids p) → aborts (history_of es) ((history_of es).ids p) ≤ robustness → executions p ≡ 1
  -- where a job runs, some running job waits for none
  pub free : (p : ℕ) → (history_of es).runs p ≡ true → (q : ℕ) × ((history_of es).runs q ≡ true) × ((k : ℕ) → WaitsFor (history_of es).holdings q k → ⊥)

-- the law holds for every job rule, robustness, limit, first list of values and list of calls
abbrev pub Stands : Type 0
Stands =
    (r : Rule) (robustness limit : ℕ) (first : List ℕ) (cs : List Call)
    → Law r robustness first (past r (new robustness limit first) cs) (run r (new robustness limit first) cs).values (λ p. length (executions_of p (run r (new robustness limit first) cs)))
