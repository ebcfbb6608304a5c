-- No ring of waiting jobs, told by ranks.
use Rattle.std.specs.Prelude.{◌≡◌, ℕ, ◌<◌, ◌≤◌, true, List}
use Rattle.protocol.specs.declared.holdings.Holding.{Holding}
use Rattle.protocol.specs.Holdings.{waits}
use Rattle.protocol.specs.Places.{has}

-- each job has a rank, and waits only for jobs of a lower one
pub record Acyclic (hs : List Holding) : Type 0 where
  pub rank : ℕ → ℕ
  pub bound : ℕ
  pub below : (k : ℕ) → rank k ≤ bound
  pub falls : (a k : ℕ) → has (waits hs a) k ≡ true → rank k < rank a

-- there are such ranks; said so that which ones they are does not matter
abbrev pub Ringless : List Holding → Type 0
Ringless hs = (Acyclic hs → ⊥) → ⊥
