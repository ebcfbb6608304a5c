-- Where an object stands among those that a job holds, as holdings are added, turned and removed.
-- Words: `position` of specs/Holdings.
use Rattle.std.proofs.Common.{◌≡◌, ℕ, ◌<◌, List, [], ◌∷◌, ◌++◌, map, length, refl, inl, inr, arith}
use Rattle.std.specs.Prelude.{filter}
use Rattle.protocol.specs.declared.holdings.Holding.{Holding}
use Rattle.protocol.specs.Holdings.{held_by, turn, position}
use Rattle.protocol.specs.Lists.{In}
use Rattle.protocol.proofs.Waiting.{rest}

pub position_push : (p o : ℕ) (hs : List Holding) (g h : Holding) → In h hs → h.job ≡ p → h.object ≡ o → position p o (hs ++ g ∷ []) ≡ position p o hs
unfolding position
position_push p o [] g h i e f = absurd i
position_push p o (x ∷ hs) g h i e f = grind (arith, i, e, f, position_push p o hs g h)

pub position_new : (p o : ℕ) (hs : List Holding) (g : Holding) → ((h : Holding) → In h hs → h.job ≡ p → h.object ≡ o → ⊥) → g.job ≡ p → g.object ≡ o → position p o (hs ++ g ∷ []) ≡ length (filter (held_by p) hs)
unfolding position
position_new p o [] g n e f = grind (arith, e, f)
position_new p o (x ∷ hs) g n e f = grind (arith, n x (inl refl), position_new p o hs g (λ h i. n h (inr i)) e f)

pub position_below : (p o : ℕ) (hs : List Holding) (h : Holding) → In h hs → h.job ≡ p → h.object ≡ o → position p o hs < length (filter (held_by p) hs)
unfolding position
position_below p o [] h i e f = absurd i
position_below p o (x ∷ hs) h i e f = grind (arith, i, e, f, position_below p o hs h)

pub position_turn : (a b p o : ℕ) (hs : List Holding) → position p o (map (turn a b) hs) ≡ position p o hs
unfolding position
position_turn a b p o [] = refl
position_turn a b p o (x ∷ hs) = grind (arith, position_turn a b p o hs)

pub position_rest : (k p o : ℕ) (hs : List Holding) → (p ≡ k → ⊥) → position p o (rest k hs) ≡ position p o hs
unfolding position
position_rest k p o [] n = refl
position_rest k p o (x ∷ hs) n = grind (arith, n, position_rest k p o hs n)
