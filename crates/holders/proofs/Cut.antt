-- Holdings at places give sets of places: nothing is cut off.
use Rattle.std.proofs.Common.{◌≡◌, ℕ, suc, ◌<◌, Bool, true, false, cond, List, [], ◌∷◌, sym, subst, arith}
use Rattle.protocol.specs.declared.holdings.Holding.{Holding}
use Rattle.protocol.specs.Holdings.{jobs_of, makers, later_makers, holds, waits, new_waits, reach, would_ring}
use Rattle.protocol.specs.Places.{has, single, join, placed}
use Rattle.protocol.proofs.SetDigits.{has_placed, placed_same, single_below}
use Rattle.holders.specs.Placed.{Placed}
use Rattle.holders.proofs.Joins.{join_below, placed_zero}
use Rattle.holders.proofs.Sets.{blocks, jobs_none, jobs_more, waits_none, waits_more}

part_below : (b : Bool) (p : ℕ) → p < 16 → cond b (single p) 0 < 65536
part_below true p l = single_below p l
part_below false p l = omega arith

-- F joins places of holdings
module _ (F : List Holding → ℕ) (test : Holding → List Holding → Bool) (none : F [] ≡ 0)
    (more : (h : Holding) (hs : List Holding) → F (h ∷ hs) ≡ join (cond (test h hs) (single h.job) 0) (F hs)) where
  below : (hs : List Holding) → Placed hs → F hs < 65536
  below [] p = omega (arith, none)
  below (h ∷ hs) p =
      subst (λ n. n < 65536) (sym (more h hs)) (join_below (cond (test h hs) (single h.job) 0) (F hs) (part_below (test h hs) h.job (p 0)) (below hs (λ k. p (suc k))))

  whole : (hs : List Holding) → Placed hs → placed (F hs) ≡ F hs
  whole hs p = placed_same (F hs) (below hs p)

pub jobs_placed : (t : Holding → Bool) (hs : List Holding) → Placed hs → placed (jobs_of t hs) ≡ jobs_of t hs
jobs_placed t = whole (jobs_of t) (λ h _. t h) (jobs_none t) (jobs_more t)

pub makers_placed : (o : ℕ) (hs : List Holding) → Placed hs → placed (makers o hs) ≡ makers o hs
unfolding makers
makers_placed o = jobs_placed _

pub new_waits_placed : (hs : List Holding) (h : Holding) → Placed hs → placed (new_waits hs h) ≡ new_waits hs h
unfolding new_waits
new_waits_placed hs h = jobs_placed _ hs

pub waits_placed : (hs : List Holding) (p : ℕ) → Placed hs → placed (waits hs p) ≡ waits hs p
waits_placed hs p = whole (λ hs. waits hs p) (blocks p) (waits_none p) (waits_more p) hs

pub later_makers_placed : (o p : ℕ) (hs : List Holding) → Placed hs → placed (later_makers o p hs) ≡ later_makers o p hs
unfolding later_makers
later_makers_placed o p [] at = placed_zero
later_makers_placed o p (h ∷ hs) at = go (holds p o h) (later_makers_placed o p hs (λ k. at (suc k)))
  where
    go : (b : Bool) → placed (later_makers o p hs) ≡ later_makers o p hs
        → placed (elim b as (λ _. ℕ) [ true ↦ makers o hs | false ↦ later_makers o p hs ]) ≡ (elim b as (λ _. ℕ) [ true ↦ makers o hs | false ↦ later_makers o p hs ])
    go true e = makers_placed o hs (λ k. at (suc k))
    go false e = e

-- the ring test of a job at a place, whatever the places of the others
pub would_ring_placed : (hs : List Holding) (h : Holding) → h.job < 16 → has (placed (reach (waits hs) (new_waits hs h))) h.job ≡ would_ring hs h
would_ring_placed hs h l = has_placed (reach (waits hs) (new_waits hs h)) h.job l
