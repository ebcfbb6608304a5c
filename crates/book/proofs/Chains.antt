-- Chains of reasons to refuse, from the facts that a call has found.
use Rattle.std.proofs.Common.{◌≡◌, ℕ, ◌+◌, ◌<◌, ◌≤◌, Bool, true, false, not, ◌&&◌, eqb, leb, [], ◌∷◌, length, Some, None, Option, refl, ap, ◌∙◌, ap₂}
use Rattle.std.specs.List.{list_any}
use Rattle.std.proofs.lemmas.Bool.{le-ltb, lt-ltb, lt-leb}
use Rattle.terms.specs.declared.modes.Mode.{Mode}
use Rattle.protocol.specs.declared.refusals.Refusal.{Refusal}
use Rattle.protocol.specs.declared.refusals.Refusal.TheVariants.{NoSuchObject, AlreadyHeld, TooManyHeld, OpenElsewhere, WouldWaitForItself, NotOpen, TooManyVersions, HasOpen, Waits}
use Rattle.protocol.specs.Ending.{commit_barred}
use Rattle.protocol.specs.Holdings.{opened, held_by, holds, locked, waits, would_ring}
use Rattle.protocol.specs.Image.{image_barred, image_crowded}
use Rattle.protocol.specs.Lists.{first}
use Rattle.protocol.specs.Lock.{lock_barred}
use Rattle.protocol.specs.Model.{Model, executions_of, holding_count}

-- a function of three and of five tests
ap3 : {X : Type 0} (f : Bool → Bool → Bool → X) (a b c x y z : Bool) → a ≡ x → b ≡ y → c ≡ z → f a b c ≡ f x y z
ap3 f a b c x y z d e g = ap (λ a. f a b c) d ∙ ap (λ b. f x b c) e ∙ ap (λ c. f x y c) g

ap5 : {X : Type 0} (f : Bool → Bool → Bool → Bool → Bool → X) (a b c d e u v x y z : Bool) → a ≡ u → b ≡ v → c ≡ x → d ≡ y → e ≡ z → f a b c d e ≡ f u v x y z
ap5 f a b c d e u v x y z k l m n o = ap3 (λ a b c. f a b c d e) a b c u v x k l m ∙ ap (λ d. f u v x d e) n ∙ ap (λ e. f u v x y e) o

module _ (m : Model) (p o : ℕ) (mode : Mode) (here : o < length m.values) (new : list_any (holds p o) m.holdings ≡ false) (few : holding_count m p < 8) where
  abbrev lock_tests : Bool → Bool → Bool → Bool → Bool → Option Refusal
  lock_tests a b c d e = first ((a, NoSuchObject) ∷ (b, AlreadyHeld) ∷ (c, TooManyHeld) ∷ (d, OpenElsewhere) ∷ (e, WouldWaitForItself) ∷ [])

  lock_as : (d e : Bool) → list_any (λ h. eqb h.object o && opened h.state) m.holdings ≡ d → would_ring m.holdings (locked p o mode) ≡ e → first (lock_barred m p o mode) ≡ lock_tests false false false d e
  lock_as d e f g =
      ap5 lock_tests (leb (length m.values) o) (list_any (holds p o) m.holdings) (leb 8 (holding_count m p)) (list_any (λ h. eqb h.object o && opened h.state) m.holdings) (would_ring m.holdings (locked p o mode))
      false false false d e (lt-leb (length m.values) o here) new (lt-leb 8 (holding_count m p) few) f g

  pub lock_ring : list_any (λ h. eqb h.object o && opened h.state) m.holdings ≡ false → would_ring m.holdings (locked p o mode) ≡ true → first (lock_barred m p o mode) ≡ Some WouldWaitForItself
  lock_ring e f = lock_as false true e f

  pub lock_free : list_any (λ h. eqb h.object o && opened h.state) m.holdings ≡ false → would_ring m.holdings (locked p o mode) ≡ false → first (lock_barred m p o mode) ≡ None
  lock_free e f = lock_as false false e f

module _ (m : Model) (p : ℕ) where
  abbrev commit_tests : Bool → Bool → Option Refusal
  commit_tests a b = first ((a, HasOpen) ∷ (b, Waits) ∷ [])

  commit_as : (a b : Bool) → list_any (λ h. held_by p h && opened h.state) m.holdings ≡ a → not (eqb (waits m.holdings p) 0) ≡ b → first (commit_barred m p) ≡ commit_tests a b
  commit_as a b e f = ap₂ commit_tests e f

  pub commit_open : list_any (λ h. held_by p h && opened h.state) m.holdings ≡ true → first (commit_barred m p) ≡ Some HasOpen
  commit_open e = commit_as true (not (eqb (waits m.holdings p) 0)) e refl

  pub commit_waits : list_any (λ h. held_by p h && opened h.state) m.holdings ≡ false → eqb (waits m.holdings p) 0 ≡ false → first (commit_barred m p) ≡ Some Waits
  commit_waits e f = commit_as false true e (ap not f)

  pub commit_free : list_any (λ h. held_by p h && opened h.state) m.holdings ≡ false → eqb (waits m.holdings p) 0 ≡ true → first (commit_barred m p) ≡ None
  commit_free e f = commit_as false false e (ap not f)

module _ (m : Model) (p o : ℕ) where
  abbrev mine : Bool
  mine = list_any (λ h. holds p o h && opened h.state) m.holdings

  image_as : (b : Bool) → o < length m.values → not mine ≡ b → first (image_barred m p o) ≡ first ((false, NoSuchObject) ∷ (b, NotOpen) ∷ [])
  image_as b here e = ap₂ (λ a b. first ((a, NoSuchObject) ∷ (b, NotOpen) ∷ [])) (lt-leb (length m.values) o here) e

  pub image_shut : o < length m.values → mine ≡ false → first (image_barred m p o) ≡ Some NotOpen
  image_shut here e = image_as true here (ap not e)

  pub image_free : o < length m.values → mine ≡ true → first (image_barred m p o) ≡ None
  image_free here e = image_as false here (ap not e)

module _ (m : Model) (p : ℕ) where
  pub image_full : 256 < length m.versions + length (executions_of p m) → first (image_crowded m p) ≡ Some TooManyVersions
  image_full l = ap (λ b. first ((b, TooManyVersions) ∷ [])) (lt-ltb 256 (length m.versions + length (executions_of p m)) l)

  pub image_fits : length m.versions + length (executions_of p m) ≤ 256 → first (image_crowded m p) ≡ None
  image_fits l = ap (λ b. first ((b, TooManyVersions) ∷ [])) (le-ltb 256 (length m.versions + length (executions_of p m)) l)
