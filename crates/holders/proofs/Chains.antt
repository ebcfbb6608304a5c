-- What the chains of iterators give, in the protocol's words.
use Rattle.std.proofs.Common.{◌≡◌, ℕ, suc, ◌+◌, ◌≤◌, Bool, true, false, cond, not, eqb, nat_lt, List, [], ◌∷◌, Some, None, length, take, drop, sym, refl, ap, ◌∙◌, arith}
use Rattle.std.specs.Prelude.{filter, fold, take_while}
use Rattle.std.specs.List.{position as list_position, position_or_len, prefix_len}
use Rattle.std.proofs.lemmas.List.{drop_all}
use Rattle.std.proofs.lemmas.Bool.{ltb-false}
use Rattle.protocol.specs.declared.holdings.Holding.{Holding}
use Rattle.protocol.specs.declared.places.PlaceSet.{PlaceSet}
use Rattle.protocol.specs.Holdings.{jobs_of, makers, later_makers, holds, held_by, position}
use Rattle.protocol.specs.Places.{single, join, placed}
use Rattle.holders.proofs.Joins.{join_assoc, join_none, none_join, placed_join, placed_zero}

-- the set, with the job of a holding that passes the test
abbrev pub with_job : (Holding → Bool) → PlaceSet → Holding → PlaceSet
with_job t set h = cond (t h) (record { mask = join set.mask (placed (single h.job)) }) set

pub jobs_folded : (t : Holding → Bool) (hs : List Holding) (set : PlaceSet) → (fold (with_job t) set hs).mask ≡ join set.mask (placed (jobs_of t hs))
unfolding jobs_of
jobs_folded t [] set = sym (ap (join set.mask) placed_zero ∙ join_none set.mask)
jobs_folded t (h ∷ hs) set = jobs_folded t hs (with_job t set h) ∙ go (t h)
  where
    more : PlaceSet
    more = record { mask = join set.mask (placed (single h.job)) }

    go : (b : Bool) → join (cond b more set).mask (placed (jobs_of t hs)) ≡ join set.mask (placed (join (cond b (single h.job) 0) (jobs_of t hs)))
    go true = join_assoc set.mask (placed (single h.job)) (placed (jobs_of t hs)) ∙ ap (join set.mask) (sym (placed_join (single h.job) (jobs_of t hs)))
    go false = ap (λ n. join set.mask (placed n)) (sym (none_join (jobs_of t hs)))

-- where object o stands is how many of the job's objects stand before it
pub position_counted : (p o : ℕ) (hs : List Holding) → length (take_while (λ h. not (eqb h.object o)) (filter (held_by p) hs)) ≡ position p o hs
unfolding position
position_counted p o [] = refl
position_counted p o (h ∷ hs) = go (eqb h.job p) (position_counted p o hs)
  where
    other : Holding → Bool
    other h = not (eqb h.object o)

    own : List Holding
    own = filter (held_by p) hs

    first : (b : Bool) → length (take_while other own) ≡ position p o hs
        → length (take (cond (not b) (1 + prefix_len other own) 0) (h ∷ own)) ≡ (elim b as (λ _. ℕ) [ true ↦ 0 | false ↦ suc (position p o hs) ])
    first true e = refl
    first false e = let n : 1 + prefix_len other own ≡ suc (prefix_len other own) = omega arith in rw n (ap suc e)

    go : (a : Bool) → length (take_while other own) ≡ position p o hs
        → length (take_while other (cond a (h ∷ own) own))
        ≡ (elim a as (λ _. ℕ) [ true ↦ elim (eqb h.object o) as (λ _. ℕ) [ true ↦ 0 | false ↦ suc (position p o hs) ] | false ↦ position p o hs ])
    go true e = first (eqb h.object o) e
    go false e = e

-- the makers behind the first holding of object o by job p
later_behind : (o p : ℕ) (hs : List Holding) → makers o (drop (position_or_len (holds p o) hs + 1) hs) ≡ later_makers o p hs
unfolding later_makers makers jobs_of
later_behind o p [] = refl
later_behind o p (h ∷ hs) = go (holds p o h) (later_behind o p hs)
  where
    go : (b : Bool) → makers o (drop (position_or_len (holds p o) hs + 1) hs) ≡ later_makers o p hs
        → makers o (drop (cond (not b) (1 + position_or_len (holds p o) hs) 0 + 1) (h ∷ hs)) ≡ (elim b as (λ _. ℕ) [ true ↦ makers o hs | false ↦ later_makers o p hs ])
    go true e = refl
    go false e = let n : 1 + position_or_len (holds p o) hs + 1 ≡ suc (position_or_len (holds p o) hs + 1) = omega arith in rw n e

pub later_Some : (o p : ℕ) (hs : List Holding) (i : ℕ) → list_position (holds p o) hs ≡ Some i → makers o (drop (i + 1) hs) ≡ later_makers o p hs
later_Some o p hs i e = rw (first (nat_lt (position_or_len (holds p o) hs) (length hs)) e) (later_behind o p hs)
  where
    first : (b : Bool) → cond b (Some (position_or_len (holds p o) hs)) None ≡ Some i → i ≡ position_or_len (holds p o) hs
    first true e = cc
    first false e = cc

pub later_None : (o p : ℕ) (hs : List Holding) → list_position (holds p o) hs ≡ None → later_makers o p hs ≡ 0
unfolding makers jobs_of
later_None o p hs e =
    sym (later_behind o p hs) ∙ ap (makers o) (drop_all (position_or_len (holds p o) hs + 1) hs (past (nat_lt (position_or_len (holds p o) hs) (length hs)) refl e))
  where
    past : (b : Bool) → nat_lt (position_or_len (holds p o) hs) (length hs) ≡ b → cond b (Some (position_or_len (holds p o) hs)) None ≡ None → length hs ≤ position_or_len (holds p o) hs + 1
    past true t e = absurd cc
    past false t e = omega (arith, ltb-false (position_or_len (holds p o) hs) (length hs) t)
