-- Holdings: who holds what, who makes what, who waits for whom. Holdings stand in the order of locking.
use Rattle.std.specs.Prelude.{ℕ, zero, suc, Bool, true, false, cond, not, ◌&&◌, List, [], ◌∷◌, ◌==◌}
use Rattle.std.specs.List.{list_any}
use Rattle.terms.specs.declared.modes.Mode.{Mode}
use Rattle.terms.specs.declared.modes.Mode.TheVariants.{Read, Write}
use Rattle.protocol.specs.declared.holdings.HoldingState.{HoldingState}
use Rattle.protocol.specs.declared.holdings.HoldingState.TheVariants.{Reading, Open, Turned}
use Rattle.protocol.specs.declared.holdings.Holding.{Holding}
use Rattle.protocol.specs.Places.{has, single, join}

-- locked to read
abbrev pub reading : HoldingState → Bool
reading Reading = true
reading s = false

-- locked to write, and not yet imaged
abbrev pub opened : HoldingState → Bool
opened Open = true
opened s = false

-- locked to write and imaged
abbrev pub turned : HoldingState → Bool
turned Turned = true
turned s = false

-- how a holding begins
abbrev pub begins : Mode → HoldingState
begins Read = Reading
begins Write = Open

-- the holding with which job p locks object o
abbrev pub locked : ℕ → ℕ → Mode → Holding
locked p o mode = record { job = p; object = o; state = begins mode }

-- it is a holding of job p
abbrev pub held_by : ℕ → Holding → Bool
held_by p h = h.job == p

-- it is job p's holding of object o
abbrev pub holds : ℕ → ℕ → Holding → Bool
holds p o h = h.job == p && h.object == o

-- its job is a maker of object o
abbrev pub makes : ℕ → Holding → Bool
makes o h = h.object == o && turned h.state

-- the job of h, which locked after g was locked, waits for the job of g: one object, and not both to read
abbrev pub clash : Holding → Holding → Bool
clash g h = g.object == h.object && not (reading g.state && reading h.state)

-- the jobs of the holdings that pass the test
unfoldable pub jobs_of : (Holding → Bool) → List Holding → ℕ
jobs_of t [] = 0
jobs_of t (h ∷ hs) = join (cond (t h) (single h.job) 0) (jobs_of t hs)

-- the makers of object o
unfoldable pub makers : ℕ → List Holding → ℕ
unfolding jobs_of
makers o hs = jobs_of (makes o) hs

-- the makers of object o that locked it after job p did
unfoldable pub later_makers : ℕ → ℕ → List Holding → ℕ
unfolding makers
later_makers o p [] = 0
later_makers o p (h ∷ hs) = elim (holds p o h) [ true ↦ makers o hs | false ↦ later_makers o p hs ]

-- the jobs for which job p waits
unfoldable pub waits : List Holding → ℕ → ℕ
waits [] p = 0
waits (g ∷ hs) p = join (cond (not (g.job == p) && list_any (λ h. (h.job == p) && clash g h) hs) (single g.job) 0) (waits hs p)

-- the jobs for which the job of a new holding h waits on its account
unfoldable pub new_waits : List Holding → Holding → ℕ
unfolding jobs_of
new_waits hs h = jobs_of (λ g. not (g.job == h.job) && clash g h) hs

-- the set, and all that those of its members wait for that are below n
unfoldable pub spread : (ℕ → ℕ) → ℕ → ℕ → ℕ
spread w zero set = set
spread w (suc n) set = join (cond (has set n) (w n) 0) (spread w n set)

-- the set after n such steps over the sixteen places
unfoldable pub rounds : (ℕ → ℕ) → ℕ → ℕ → ℕ
unfolding spread
rounds w zero set = set
rounds w (suc n) set = rounds w n (spread w 16 set)

-- all jobs that the set has or waits for, directly or through others: each round adds one of sixteen places or is the last
unfoldable pub reach : (ℕ → ℕ) → ℕ → ℕ
unfolding rounds
reach w set = rounds w 17 set

-- by the new holding h its job would wait for itself
abbrev pub would_ring : List Holding → Holding → Bool
would_ring hs h = has (reach (waits hs) (new_waits hs h)) h.job

-- where object o stands among those that job p holds
unfoldable pub position : ℕ → ℕ → List Holding → ℕ
position p o [] = 0
position p o (h ∷ hs) = elim (h.job == p) [ true ↦ elim (h.object == o) [ true ↦ 0 | false ↦ suc (position p o hs) ] | false ↦ position p o hs ]

-- an open holding becomes turned, where so said
abbrev pub turn_state : Bool → HoldingState → HoldingState
turn_state true Reading = Reading
turn_state true Open = Turned
turn_state true Turned = Turned
turn_state false s = s

-- job p's open holding of object o becomes turned; every other stays
abbrev pub turn : ℕ → ℕ → Holding → Holding
turn p o h = record { job = h.job; object = h.object; state = turn_state (holds p o h) h.state }
