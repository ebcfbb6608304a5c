-- The test for a ring refuses exactly the locks that close one, as specs/RingTest states it.
use Rattle.std.proofs.Common.{◌≡◌, ℕ, zero, suc, ◌<◌, true, ◌⊎◌, ◌↔◌, List, [], ◌∷◌, ◌++◌, inl, inr, arith}
use Rattle.terms.specs.declared.calls.Call.{Call}
use Rattle.terms.specs.Rule.{Rule}
use Rattle.protocol.specs.declared.holdings.Holding.{Holding}
use Rattle.protocol.specs.Holdings.{waits, new_waits, spread, rounds, reach, would_ring}
use Rattle.protocol.specs.Model.{new}
use Rattle.protocol.specs.Places.{has}
use Rattle.protocol.specs.RingTest.{RingTest, NoRing, OfPlaces}
use Rattle.protocol.specs.Step.{run}
use Rattle.protocol.specs.Waiting.{WaitsFor, WaitsThrough, directly, through}
use Rattle.protocol.specs.Ranks.{Acyclic}
use Rattle.protocol.proofs.Ranks.{waited_small}
use Rattle.protocol.proofs.Always.{lawful}
use Rattle.protocol.proofs.Invariant.{of_places}
use Rattle.protocol.proofs.Reach.{spread_why, reach_closed, reach_more}
use Rattle.protocol.proofs.Waiting.{waits_why, why_waits, waits_push, waits_more, new_waits_wait}

-- a rank that falls along waits shuts out a ring
falls_through : (hs : List Holding) (c : Acyclic hs) (p q : ℕ) → WaitsThrough hs p q → c.rank q < c.rank p
falls_through hs c p q (directly w) = c.falls p q (why_waits hs p q w)
falls_through hs c p q (through {k} w t) = omega (arith, c.falls p k (why_waits hs p k w), falls_through hs c k q t)

no_ring : (hs : List Holding) → Acyclic hs → NoRing hs
no_ring hs c p t = omega (arith, falls_through hs c p p t)

-- ---- what is reached is waited for
-- q is in the set, or one of its members waits for q, directly or through others
abbrev Reached : List Holding → ℕ → ℕ → Type 0
Reached hs s q = (has s q ≡ true) ⊎ ((k : ℕ) × (has s k ≡ true) × WaitsThrough hs k q)

reached_spread : (hs : List Holding) (n s q : ℕ) → Reached hs (spread (waits hs) n s) q → Reached hs s q
reached_spread hs n s q (inl i) = elim (spread_why (waits hs) n s q i) [ inl j ↦ inl j | inr j ↦ inr (j.0, j.2, directly (waits_why hs j.0 q j.3)) ]
reached_spread hs n s q (inr r) = elim (spread_why (waits hs) n s r.0 r.1) [ inl j ↦ inr (r.0, j, r.2) | inr j ↦ inr (j.0, j.2, through (waits_why hs j.0 r.0 j.3) r.2) ]

reached_rounds : (hs : List Holding) (n s q : ℕ) → has (rounds (waits hs) n s) q ≡ true → Reached hs s q
unfolding rounds
reached_rounds hs zero s q h = inl h
reached_rounds hs (suc n) s q h = reached_spread hs 16 s q (reached_rounds hs n (spread (waits hs) 16 s) q h)

-- ---- with the new holding
more_through : (hs : List Holding) (h : Holding) (p q : ℕ) → WaitsThrough hs p q → WaitsThrough (hs ++ h ∷ []) p q
more_through hs h p q (directly w) = directly (waits_why _ p q (waits_more hs h p q (why_waits hs p q w)))
more_through hs h p q (through {k} w t) = through (waits_why _ p k (waits_more hs h p k (why_waits hs p k w))) (more_through hs h k q t)

found : (hs : List Holding) (h : Holding) → would_ring hs h ≡ true → WaitsThrough (hs ++ h ∷ []) h.job h.job
unfolding reach
found hs h e = elim (reached_rounds hs 17 (new_waits hs h) h.job e) [
  | inl i ↦ directly (first h.job i)
  | inr r ↦ through (first r.0 r.1) (more_through hs h r.0 h.job r.2)
]
  where
    first : (k : ℕ) → has (new_waits hs h) k ≡ true → WaitsFor (hs ++ h ∷ []) h.job k
    first k i = waits_why _ h.job k (new_waits_wait hs h k i)

module _ (hs : List Holding) (h : Holding) (small : OfPlaces hs) where
  reaches : ℕ → Type 0
  reaches q = has (reach (waits hs) (new_waits hs h)) q ≡ true

  reaches_on : (k q : ℕ) → WaitsThrough hs k q → reaches k → reaches q
  unfolding reaches
  reaches_on k q (directly w) i = let e = why_waits hs k q w in let s = waited_small hs small k q e in reach_closed (waits hs) _ k q s.0 s.1 i e
  reaches_on k q (through {k = j} w t) i =
      let e = why_waits hs k j w in
      let s = waited_small hs small k j e in
      reaches_on j q t (reach_closed (waits hs) _ k j s.0 s.1 i e)

  -- one wait: an old one, or one of the new holding
  one : (p q : ℕ) → WaitsFor (hs ++ h ∷ []) p q → WaitsFor hs p q ⊎ reaches q
  unfolding reaches
  one p q w = elim (waits_push hs h p q (why_waits _ p q w)) [ inl e ↦ inl (waits_why hs p q e) | inr e ↦ inr (reach_more (waits hs) _ q e.1) ]

  all : (p q : ℕ) → WaitsThrough (hs ++ h ∷ []) p q → WaitsThrough hs p q ⊎ reaches q
  all p q (directly w) = elim (one p q w) [ inl v ↦ inl (directly v) | inr i ↦ inr i ]
  all p q (through {k} w t) = elim (all k q t) [
    | inl u ↦ elim (one p k w) [ inl v ↦ inl (through v u) | inr i ↦ inr (reaches_on k q u i) ]
    | inr i ↦ inr i
  ]

  finds : NoRing hs → WaitsThrough (hs ++ h ∷ []) h.job h.job → would_ring hs h ≡ true
  unfolding reaches
  finds none t = elim (all h.job h.job t) [ inl u ↦ absurd (none h.job u) | inr i ↦ i ]

pub exact : (hs : List Holding) (h : Holding) → OfPlaces hs → NoRing hs → (would_ring hs h ≡ true) ↔ WaitsThrough (hs ++ h ∷ []) h.job h.job
exact hs h small none = (found hs h, finds hs h small none)

-- ---- after every list of calls
pub kept : (r : Rule) (robustness limit : ℕ) (first : List ℕ) (cs : List Call) → OfPlaces (run r (new robustness limit first) cs).holdings × NoRing (run r (new robustness limit first) cs).holdings
kept r robustness limit first cs =
    let m = run r (new robustness limit first) cs in
    let i = lawful r robustness limit first cs in
    (of_places m i.1.well_formed, no_ring m.holdings i.1.acyclic)

pub ring_test : RingTest
ring_test = record { exact = exact; kept = kept }
