-- Who comes to rely on whom, and who has ended, by one accepted call.
use Rattle.std.specs.Prelude.{◌≡◌, ℕ, true, false, ◌⊎◌, ◌↔◌, ◌≢◌}
use Rattle.terms.specs.declared.calls.Call.TheVariants.{Begin, Lock, Image, Commit, Abort}
use Rattle.terms.specs.declared.modes.Mode.{Mode}
use Rattle.protocol.specs.History.{History, history_one, relies_on, has_ended}
use Rattle.protocol.specs.PairingLaws.{Makes}

-- by a lock of object o job i comes to rely on job x: on a maker of the object, or on a running job but itself on which a maker relies
pub record ComesToRely (h : History) (o i x : ℕ) : Type 0 where
  -- the place of the maker
  pub maker : ℕ
  pub makes : Makes h.holdings o maker
  pub on : (x ≡ h.ids maker) ⊎ ((relies_on h.relied (h.ids maker) x ≡ true) × (has_ended h.ended x ≡ false) × (x ≢ i))

-- what each accepted call does to relying and ending
pub record RelyingLaws : Type 0 where
  pub lock : (h : History) (p o : ℕ) (mode : Mode) (i x : ℕ)
      → (relies_on (history_one h (Lock p o mode)).relied i x ≡ true) ↔ ((relies_on h.relied i x ≡ true) ⊎ ((i ≡ h.ids p) × ComesToRely h o i x))
  -- no other call makes a job rely on another
  pub begin : (h : History) (p k a i x : ℕ) → relies_on (history_one h (Begin p k a)).relied i x ≡ relies_on h.relied i x
  pub image : (h : History) (p o i x : ℕ) → relies_on (history_one h (Image p o)).relied i x ≡ relies_on h.relied i x
  pub commit : (h : History) (p i x : ℕ) → relies_on (history_one h (Commit p)).relied i x ≡ relies_on h.relied i x
  pub abort : (h : History) (p i x : ℕ) → relies_on (history_one h (Abort p)).relied i x ≡ relies_on h.relied i x
  -- a commit and an abort end the job at their place
  pub committed : (h : History) (p x : ℕ) → (has_ended (history_one h (Commit p)).ended x ≡ true) ↔ ((has_ended h.ended x ≡ true) ⊎ (x ≡ h.ids p))
  pub aborted : (h : History) (p x : ℕ) → (has_ended (history_one h (Abort p)).ended x ≡ true) ↔ ((has_ended h.ended x ≡ true) ⊎ (x ≡ h.ids p))
