-- The makers of an object, and those that locked it later than one of them.
-- Words: `makers`, `later_makers` of specs/Holdings.
use Rattle.std.proofs.Common.{◌≡◌, subst, ℕ, true, not, ◌&&◌, eqb, ◌⊎◌, List, [], ◌∷◌, refl, arith}
use Rattle.std.proofs.lemmas.Bool.{and_from, eq-eqb, eqb-true, and_parts}
use Rattle.protocol.specs.declared.holdings.Holding.{Holding}
use Rattle.protocol.specs.Holdings.{holds, makes, turned, clash, makers, later_makers, new_waits}
use Rattle.protocol.specs.Lists.{In, Behind}
use Rattle.protocol.specs.PairingLaws.{Makes, MakesLater}
use Rattle.protocol.specs.Places.{has}
use Rattle.protocol.proofs.Membership.{none_in}
use Rattle.protocol.proofs.Lists.{behind_in, behind_two}
use Rattle.protocol.proofs.HoldingStates.{reading_turned}
use Rattle.protocol.proofs.Waiting.{jobs_in, in_jobs}

-- who is in the set is a maker, and the other way round
pub makers_why : (hs : List Holding) (o q : ℕ) → has (makers o hs) q ≡ true → Makes hs o q
unfolding makers
makers_why hs o q e =
    let j = jobs_in (makes o) hs q e in
    let b = and_parts _ _ j.2 in
    record { holding = j.0; there = j.1; job = j.3; object = eqb-true _ _ b.0; turns = b.1 }

pub why_makers : (hs : List Holding) (o q : ℕ) → Makes hs o q → has (makers o hs) q ≡ true
unfolding makers
why_makers hs o q k = grind (arith, k, in_jobs (makes o) hs k.holding)

-- a new holding of o waits for each maker of it that is another job
pub makers_waited : (hs : List Holding) (h : Holding) (q : ℕ) → (q ≡ h.job → ⊥) → has (makers h.object hs) q ≡ true → has (new_waits hs h) q ≡ true
unfolding new_waits
makers_waited hs h q n e =
    let k = makers_why hs h.object q e in
    grind (arith, n, k, reading_turned k.holding.state, in_jobs (λ g. not (eqb g.job h.job) && clash g h) hs k.holding)

-- a maker later than k has its holding behind that of k, as a list of facts
later_pair : (hs : List Holding) (o k q : ℕ) → has (later_makers o k hs) q ≡ true
    → (g : Holding) × (h : Holding) × Behind g h hs × (holds k o g ≡ true) × (h.job ≡ q) × (h.object ≡ o) × (turned h.state ≡ true)
unfolding later_makers
later_pair [] o k q e = none_in q e
later_pair (g ∷ hs) o k q e = grind (arith, e, makers_why hs o q, later_pair hs o k q)

-- and a maker whose holding is behind that of k is later than k
pair_later : (hs : List Holding) (o k : ℕ) (g h : Holding) → Behind g h hs → holds k o g ≡ true → h.object ≡ o → turned h.state ≡ true → has (later_makers o k hs) h.job ≡ true
unfolding later_makers
pair_later [] o k g h b e f t = absurd b
pair_later (x ∷ hs) o k g h b e f t =
    let maker : In h hs → has (makers o hs) h.job ≡ true = λ i. why_makers hs o h.job (record { holding = h; there = i; job = refl; object = f; turns = t }) in
    grind (arith, b, e, f, t, maker, behind_in hs g h, pair_later hs o k g h)

-- both, as the laws say it
pub later_why : (hs : List Holding) (o k q : ℕ) → has (later_makers o k hs) q ≡ true → MakesLater hs o k q
later_why hs o k q e =
    let w = later_pair hs o k q e in
    let b = and_parts _ _ w.3 in
    record { earlier = w.0; later = w.1; order = w.2; of = eqb-true _ _ b.0; object = eqb-true _ _ b.1; by = w.4; same = w.5; turns = w.6 }

pub why_later : (hs : List Holding) (o k q : ℕ) → MakesLater hs o k q → has (later_makers o k hs) q ≡ true
why_later hs o k q w = subst (λ x. has (later_makers o k hs) x ≡ true) w.by (pair_later hs o k w.earlier w.later w.order (and_from _ _ (eq-eqb _ _ w.of) (eq-eqb _ _ w.object)) w.same w.turns)

pub later_makes : (hs : List Holding) (o k q : ℕ) → has (later_makers o k hs) q ≡ true → has (makers o hs) q ≡ true
later_makes hs o k q e =
    let w = later_why hs o k q e in
    why_makers hs o q (record { holding = w.later; there = (behind_in hs _ _ w.order).1; job = w.by; object = w.same; turns = w.turns })

-- of two makers one is later than the other
pub later_either : (hs : List Holding) (o k q : ℕ) → (k ≡ q → ⊥) → Makes hs o k → Makes hs o q → (has (later_makers o k hs) q ≡ true) ⊎ (has (later_makers o q hs) k ≡ true)
later_either hs o k q n a b = grind (arith, n, a, b, behind_two hs a.holding b.holding a.there b.there, pair_later hs o k a.holding b.holding, pair_later hs o q b.holding a.holding)
