-- No ring of waits: each job has a rank and waits only for jobs of a lower one. Every call keeps such ranks, and a job of least rank waits for none.
-- Words: `Acyclic` of specs/Ranks.
use Rattle.std.proofs.Common.{◌≡◌, ℕ, zero, suc, ◌+◌, ◌<◌, true, false, cond, ◌⊎◌, List, [], ◌∷◌, ◌++◌, sym, refl, ◌∙◌, subst, inl, inr, arith}
use Rattle.protocol.specs.declared.holdings.Holding.{Holding}
use Rattle.protocol.specs.Holdings.{waits, new_waits, reach}
use Rattle.protocol.specs.Lists.{In}
use Rattle.protocol.specs.Places.{has}
use Rattle.protocol.specs.Ranks.{Acyclic}
use Rattle.protocol.specs.RingTest.{OfPlaces}
use Rattle.protocol.proofs.SetDigits.{member}
use Rattle.protocol.proofs.Membership.{none_in}
use Rattle.protocol.proofs.Lists.{behind_in}
use Rattle.protocol.proofs.Waiting.{waits_why, waits_push}
use Rattle.protocol.proofs.Reach.{reach_closed, reach_more}

pub acyclic_none : Acyclic []
unfolding waits
acyclic_none = record { rank = λ k. 0; bound = 0; below = λ k. omega arith; falls = λ a k e. none_in k e }

-- fewer waits keep the ranks
pub acyclic_fewer : (hs gs : List Holding) → ((a k : ℕ) → has (waits gs a) k ≡ true → has (waits hs a) k ≡ true) → Acyclic hs → Acyclic gs
acyclic_fewer hs gs f c = record { rank = c.rank; bound = c.bound; below = c.below; falls = λ a k e. c.falls a k (f a k e) }

pub waited_small : (hs : List Holding) → OfPlaces hs → (a k : ℕ) → has (waits hs a) k ≡ true → (a < 16) × (k < 16)
waited_small hs s a k e =
    let w = waits_why hs a k e in
    let i = behind_in hs _ _ w.order in
    (subst (λ x. x < 16) w.by (s _ i.1), subst (λ x. x < 16) w.of (s _ i.0))

-- a lock that passes the test for a ring: what the new holding makes the job wait for keeps its rank, and all others are lifted over it
pub acyclic_push : (hs : List Holding) (h : Holding) → OfPlaces hs → has (reach (waits hs) (new_waits hs h)) h.job ≡ false → Acyclic hs → Acyclic (hs ++ h ∷ [])
acyclic_push hs h s ring c = record {
  rank = rank';
  bound = c.bound + suc c.bound;
  below = λ k. grind (arith, c.below k);
  falls = λ a k e. elim (waits_push hs h a k e) [ inl w ↦ old a k w | inr w ↦ grind (arith, w.0, ring, c.below k, reach_more (waits hs) (new_waits hs h) k w.1) ];
}
  where
    rank' : ℕ → ℕ
    rank' k = cond (has (reach (waits hs) (new_waits hs h)) k) (c.rank k) (c.rank k + suc c.bound)

    old : (a k : ℕ) → has (waits hs a) k ≡ true → rank' k < rank' a
    old a k w = let b = waited_small hs s a k w in grind (arith, c.falls a k w, c.below k, reach_closed (waits hs) (new_waits hs h) a k b.0 b.1)

-- ---- from a job, by waits, to one that waits for none
pub free : (hs : List Holding) → OfPlaces hs → (c : Acyclic hs) (n p : ℕ) → c.rank p < n → (q : ℕ) × (waits hs q ≡ 0) × ((q ≡ p) ⊎ ((h : Holding) × In h hs × (h.job ≡ q)))
free hs s c zero p l = absurd (omega arith)
free hs s c (suc n) p l =
    elim (member (waits hs p)) [
      | inl e ↦ (p, e, inl refl)
      | inr f ↦
          let r = free hs s c n f.0 (omega (arith, c.falls p f.0 f.1)) in
          let w = waits_why hs p f.0 f.1 in
          (r.0, r.1, elim r.2 [ inl e ↦ inr (w.earlier, (behind_in hs _ _ w.order).0, w.of ∙ sym e) | inr i ↦ inr i ])
    ]
