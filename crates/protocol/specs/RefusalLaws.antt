-- Which number a call is answered: the first that applies, and then nothing changes.
use Rattle.std.specs.Prelude.{◌≡◌, ℕ, Bool, true, false, ◌↔◌, List, [], ◌∷◌, ◌++◌, map, Some, None}
use Rattle.std.specs.List.{AllByRecursion}
use Rattle.terms.specs.declared.calls.Call.{Call}
use Rattle.terms.specs.declared.calls.Call.TheVariants.{Begin, Lock, Image, Commit, Abort}
use Rattle.terms.specs.Rule.{Rule}
use Rattle.protocol.specs.declared.refusals.Refusal.{Refusal}
use Rattle.protocol.specs.Model.{Model}
use Rattle.protocol.specs.Refusals.{refusal_number}
use Rattle.protocol.specs.Step.{new_refusals, refusals, answer, step}

-- the numbers that a call may be answered
abbrev pub numbers : Call → List ℕ
numbers (Begin p kind a) = 3 ∷ 4 ∷ 5 ∷ []
numbers (Lock p o mode) = 3 ∷ 6 ∷ 7 ∷ 8 ∷ 9 ∷ 10 ∷ 11 ∷ 12 ∷ 13 ∷ 14 ∷ []
numbers (Image p o) = 3 ∷ 6 ∷ 7 ∷ 8 ∷ 15 ∷ 16 ∷ []
numbers (Commit p) = 3 ∷ 6 ∷ 7 ∷ 17 ∷ 18 ∷ []
numbers (Abort p) = 3 ∷ 6 ∷ []

-- x is the first refusal in the list whose reason applies
pub record FirstThatApplies (ts : List (Bool × Refusal)) (x : Refusal) : Type 0 where
  pub before : List (Bool × Refusal)
  pub after : List (Bool × Refusal)
  pub stands : ts ≡ before ++ (true, x) ∷ after
  pub passed : AllByRecursion (λ (t : Bool × Refusal). t.0 ≡ false) before

-- which refusal is answered
pub record RefusalLaws : Type 0 where
  -- the reasons stand in the order of their numbers
  pub rising_new : (robustness limit : ℕ) → map (λ (t : Bool × Refusal). refusal_number t.1) (new_refusals robustness limit) ≡ 1 ∷ 2 ∷ []
  pub rising : (r : Rule) (m : Model) (c : Call) → map (λ (t : Bool × Refusal). refusal_number t.1) (refusals r m c) ≡ numbers c
  -- the first that applies is answered
  pub refused : (r : Rule) (m : Model) (c : Call) (x : Refusal) → (answer r m c ≡ Some x) ↔ FirstThatApplies (refusals r m c) x
  -- a call is accepted if none applies
  pub granted : (r : Rule) (m : Model) (c : Call) → (answer r m c ≡ None) ↔ AllByRecursion (λ (t : Bool × Refusal). t.0 ≡ false) (refusals r m c)
  -- a refused call changes nothing
  pub unchanged : (r : Rule) (m : Model) (c : Call) (x : Refusal) → answer r m c ≡ Some x → step r m c ≡ m
