-- A job rule: four fixed functions. A kind has 8 bits; arguments, working values and values have 64.
use Rattle.std.specs.Prelude.{ℕ, Bool}
use Rattle.terms.specs.declared.modes.Mode.{Mode}

pub record Rule : Type 0 where
  -- kind: whether there are jobs of it
  pub knows : ℕ → Bool
  -- kind, argument: the working value with which a job begins
  pub start : ℕ → ℕ → ℕ
  -- kind, argument, working value, object, mode, value met: the next working value
  pub take : ℕ → ℕ → ℕ → ℕ → Mode → ℕ → ℕ
  -- kind, argument, working value, object, value met: the value to write
  pub give : ℕ → ℕ → ℕ → ℕ → ℕ → ℕ
