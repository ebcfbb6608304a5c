-- The history: what the accepted calls of a past tell of jobs, holdings, relying and endings. A place is used again, so a job goes by the number
-- of its begin: how many begins were accepted before it.
use Rattle.std.specs.Prelude.{ℕ, suc, Bool, true, false, cond, not, ◌&&◌, List, [], ◌∷◌, ◌++◌, map, length, Some, None, ◌==◌, nat_eq, flat_map, filter}
use Rattle.std.specs.List.{list_any}
use Rattle.terms.specs.declared.calls.Call.{Call}
use Rattle.terms.specs.declared.calls.Call.TheVariants.{Begin, Lock, Image, Commit, Abort}
use Rattle.protocol.specs.declared.holdings.Holding.{Holding}
use Rattle.protocol.specs.declared.jobs.Ending.{Ending}
use Rattle.protocol.specs.declared.jobs.Ending.TheVariants.{Committed, Aborted}
use Rattle.protocol.specs.Holdings.{locked, turn, makes}
use Rattle.protocol.specs.Past.{Event}

-- a job relied on another
pub record Rely : Type 0 where
  pub job : ℕ
  pub on : ℕ

-- a job ended
pub record Ended : Type 0 where
  pub job : ℕ
  pub how : Ending

-- what a past tells
pub record History : Type 0 where
  -- how many jobs have begun
  pub begun : ℕ
  -- whether a job runs at a place
  pub runs : ℕ → Bool
  -- the job that runs at a place, or the last that did
  pub ids : ℕ → ℕ
  -- the holdings of the running jobs, by place, in the order of locking
  pub holdings : List Holding
  -- who ever relied on whom
  pub relied : List Rely
  -- how each ended job ended
  pub ended : List Ended

-- it ended by an abort
abbrev pub is_aborted : Ending → Bool
is_aborted Committed = false
is_aborted Aborted = true

-- job i ever relied on job x
unfoldable pub relies_on : List Rely → ℕ → ℕ → Bool
relies_on rs i x = list_any (λ r. (r.job == i) && r.on == x) rs

-- job x has ended
unfoldable pub has_ended : List Ended → ℕ → Bool
has_ended es x = list_any (λ e. nat_eq e.job x) es

-- how many of the jobs on which job i ever relied have aborted
unfoldable pub aborts : History → ℕ → ℕ
aborts h i = length (filter (λ e. is_aborted e.how && relies_on h.relied i e.job) h.ended)

-- what job i comes to rely on by a lock, for one maker's holding g: the maker, and every running job but itself on which the maker relies
abbrev pub gains : History → ℕ → Holding → List Rely
gains h i g =
    record { job = i; on = h.ids g.job }
    ∷ map (λ r. record { job = i; on = r.on }) (filter (λ r. (r.job == h.ids g.job) && (not (has_ended h.ended r.on) && not (r.on == i))) h.relied)

-- the job at place p has ended: its holdings are gone
abbrev pub ends : Ending → ℕ → History → History
ends how p h = record {
  begun = h.begun;
  runs = λ q. cond (q == p) false (h.runs q);
  ids = h.ids;
  holdings = filter (λ g. not (g.job == p)) h.holdings;
  relied = h.relied;
  ended = h.ended ++ record { job = h.ids p; how = how } ∷ [];
}

-- an accepted call: by a begin the next job runs, by a lock it holds and relies, by an image its holding turns, by a commit or an abort it has ended
abbrev pub history_one : History → Call → History
history_one h (Begin p k a) = record {
  begun = suc h.begun;
  runs = λ q. cond (q == p) true (h.runs q);
  ids = λ q. cond (q == p) h.begun (h.ids q);
  holdings = h.holdings;
  relied = h.relied;
  ended = h.ended;
}
history_one h (Lock p o mode) = record {
  begun = h.begun;
  runs = h.runs;
  ids = h.ids;
  holdings = h.holdings ++ locked p o mode ∷ [];
  relied = h.relied ++ flat_map (gains h (h.ids p)) (filter (makes o) h.holdings);
  ended = h.ended;
}
history_one h (Image p o) = record { begun = h.begun; runs = h.runs; ids = h.ids; holdings = map (turn p o) h.holdings; relied = h.relied; ended = h.ended }
history_one h (Commit p) = ends Committed p h
history_one h (Abort p) = ends Aborted p h

-- refused calls tell nothing
unfoldable pub history : History → List Event → History
history h [] = h
history h (e ∷ es) = elim e.answer [ None ↦ history (history_one h e.call) es | Some x ↦ history h es ]

-- before the first call
abbrev pub blank : History
blank = record { begun = 0; runs = λ q. false; ids = λ q. 0; holdings = []; relied = []; ended = [] }

-- what a whole past tells
abbrev pub history_of : List Event → History
history_of es = history blank es
