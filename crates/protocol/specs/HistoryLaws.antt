-- What the history says of running jobs and holdings, read off the past.
use Rattle.std.specs.Prelude.{◌≡◌, ℕ, Bool, true, false, cond, ◌&&◌, ◌↔◌, List, [], ◌∷◌, ◌++◌, length, Some, None, Option, ◌==◌, flat_map, is_some, filter}
use Rattle.std.specs.List.{list_any}
use Rattle.terms.specs.declared.modes.Mode.{Mode}
use Rattle.terms.specs.declared.calls.Call.{Call}
use Rattle.terms.specs.declared.calls.Call.TheVariants.{Begin, Lock, Image, Commit, Abort}
use Rattle.terms.specs.Rule.{Rule}
use Rattle.protocol.specs.declared.holdings.Holding.{Holding}
use Rattle.protocol.specs.declared.refusals.Refusal.{Refusal}
use Rattle.protocol.specs.History.{history_of}
use Rattle.protocol.specs.Holdings.{begins, locked, turn_state}
use Rattle.protocol.specs.Lists.{In}
use Rattle.protocol.specs.Model.{new, job_at}
use Rattle.protocol.specs.Past.{Event, past}
use Rattle.protocol.specs.Step.{run}

-- the call was not refused
abbrev pub accepted : Option Refusal → Bool
accepted None = true
accepted (Some x) = false

-- it is a begin at place p
abbrev pub is_begin : ℕ → Call → Bool
is_begin p (Begin q k a) = p == q
is_begin p c = false

-- it is an image of object o by the job at place p
abbrev pub is_image : ℕ → ℕ → Call → Bool
is_image p o (Image q x) = p == q && o == x
is_image p o c = false

-- it is a commit or an abort of the job at place p
abbrev pub is_end : ℕ → Call → Bool
is_end p (Commit q) = p == q
is_end p (Abort q) = p == q
is_end p c = false

-- a job was begun at place p
abbrev pub begun_at : ℕ → Event → Bool
begun_at p e = accepted e.answer && is_begin p e.call

-- the job at place p imaged object o
abbrev pub imaged_at : ℕ → ℕ → Event → Bool
imaged_at p o e = accepted e.answer && is_image p o e.call

-- the job at place p ended
abbrev pub ended_at : ℕ → Event → Bool
ended_at p e = accepted e.answer && is_end p e.call

-- a job was begun, at whichever place
abbrev pub begins_any : Call → Bool
begins_any (Begin q k a) = true
begins_any c = false

-- how many jobs were begun
abbrev pub begins_in : List Event → ℕ
begins_in es = length (filter (λ e. accepted e.answer && begins_any e.call) es)

-- the holding h stands at the end of the past: an accepted lock began it, its job has not ended since, and it is turned if the job has imaged the object since
pub record Held (es : List Event) (h : Holding) : Type 0 where
  pub before : List Event
  pub since : List Event
  pub mode : Mode
  pub lock : es ≡ before ++ record { call = Lock h.job h.object mode; answer = None } ∷ since
  pub runs : list_any (ended_at h.job) since ≡ false
  pub state : h.state ≡ turn_state (list_any (imaged_at h.job h.object) since) (begins mode)

-- a job runs at place p at the end of the past: an accepted begin was the last there, and it has not ended since
pub record Running (es : List Event) (p : ℕ) : Type 0 where
  pub before : List Event
  pub since : List Event
  pub kind : ℕ
  pub argument : ℕ
  pub begin : es ≡ before ++ record { call = Begin p kind argument; answer = None } ∷ since
  pub last : list_any (begun_at p) since ≡ false
  pub runs : list_any (ended_at p) since ≡ false

-- what is left of a holding after these calls
abbrev pub remains : List Event → Holding → List Holding
remains es h = cond (list_any (ended_at h.job) es) [] (record { job = h.job; object = h.object; state = turn_state (list_any (imaged_at h.job h.object) es) h.state } ∷ [])

-- the holding that a call begins
abbrev pub starts : Call → List Holding
starts (Lock p o mode) = locked p o mode ∷ []
starts c = []

-- what is left of the holdings that the accepted locks began, in the order of the locks
abbrev pub left : List Event → List Holding
left [] = []
left (e ∷ es) = flat_map (remains es) (cond (accepted e.answer) (starts e.call) []) ++ left es

-- what the history has, in terms of the past and of the book
pub record HistoryLaws : Type 0 where
  -- the holdings are what is left of those that accepted locks began, in their order
  pub listed : (es : List Event) → (history_of es).holdings ≡ left es
  pub holdings : (es : List Event) (h : Holding) → In h (history_of es).holdings ↔ Held es h
  -- who runs, and the number of its begin
  pub running : (es : List Event) (p : ℕ) → ((history_of es).runs p ≡ true) ↔ Running es p
  pub number : (es : List Event) (p : ℕ) (b : Running es p) → (history_of es).ids p ≡ begins_in b.before
  -- the book has the holdings and the running jobs of its history, and each holding is of a running job
  pub same_holdings : (r : Rule) (robustness limit : ℕ) (first : List ℕ) (cs : List Call) → (history_of (past r (new robustness limit first) cs)).holdings ≡ (run r (new robustness limit first) cs).holdings
  pub same_running : (r : Rule) (robustness limit : ℕ) (first : List ℕ) (cs : List Call) (p : ℕ) → (history_of (past r (new robustness limit first) cs)).runs p ≡ is_some (job_at (run r (new robustness limit first) cs) p)
  pub held_by_running : (r : Rule) (robustness limit : ℕ) (first : List ℕ) (cs : List Call) (h : Holding)
      → In h (history_of (past r (new robustness limit first) cs)).holdings → (history_of (past r (new robustness limit first) cs)).runs h.job ≡ true
