-- The plain run: the committed jobs alone, one after another, in the order of their commits. It is fed a past and nothing else of the book.
use Rattle.std.specs.Prelude.{ℕ, not, List, [], ◌∷◌, ◌++◌, Some, None, slice_index, slice_set, filter}
use Rattle.terms.specs.declared.calls.Call.{Call}
use Rattle.terms.specs.declared.calls.Call.TheVariants.{Begin, Lock, Image, Commit, Abort}
use Rattle.terms.specs.Rule.{Rule}
use Rattle.protocol.specs.Past.{Event, is_at}

-- one job at work: its kind, its argument, its working value and the list of values
pub record Playing : Type 0 where
  pub kind : ℕ
  pub argument : ℕ
  pub work : ℕ
  pub values : List ℕ

-- a begin makes the working value, a lock the next one from the value in the list, an image replaces the value in the list
abbrev pub play_one : Rule → Playing → Call → Playing
play_one r s (Begin p k a) = record { kind = k; argument = a; work = r.start k a; values = s.values }
play_one r s (Lock p o mode) = record { kind = s.kind; argument = s.argument; work = r.take s.kind s.argument s.work o mode (slice_index s.values o); values = s.values }
play_one r s (Image p o) = record { kind = s.kind; argument = s.argument; work = s.work; values = slice_set s.values o (r.give s.kind s.argument s.work o (slice_index s.values o)) }
play_one r s (Commit p) = s
play_one r s (Abort p) = s

-- the calls of one job, in order
unfoldable pub play : Rule → Playing → List Call → Playing
play r s [] = s
play r s (c ∷ cs) = play r (play_one r s c) cs

-- before a job's begin
abbrev pub fresh : List ℕ → Playing
fresh values = record { kind = 0; argument = 0; work = 0; values = values }

-- the values that the committed jobs left, and the accepted begins, locks and images of the jobs that run
pub record Plain : Type 0 where
  pub values : List ℕ
  pub pending : List Call

-- an accepted call: a commit plays the job's calls, an abort forgets them, any other is kept until then
abbrev pub plain_one : Rule → Plain → Call → Plain
plain_one r s (Begin p k a) = record { values = s.values; pending = s.pending ++ Begin p k a ∷ [] }
plain_one r s (Lock p o mode) = record { values = s.values; pending = s.pending ++ Lock p o mode ∷ [] }
plain_one r s (Image p o) = record { values = s.values; pending = s.pending ++ Image p o ∷ [] }
plain_one r s (Commit p) = record { values = (play r (fresh s.values) (filter (is_at p) s.pending)).values; pending = filter (λ c. not (is_at p c)) s.pending }
plain_one r s (Abort p) = record { values = s.values; pending = filter (λ c. not (is_at p c)) s.pending }

-- refused calls do nothing
unfoldable pub plain : Rule → Plain → List Event → Plain
plain r s [] = s
plain r s (e ∷ es) = elim e.answer [ None ↦ plain r (plain_one r s e.call) es | Some x ↦ plain r s es ]

-- the values that the plain run of a past leaves, from these first ones
abbrev pub plain_run : Rule → List ℕ → List Event → List ℕ
plain_run r values es = (plain r (record { values = values; pending = [] }) es).values
