-- Waiting as a relation.
use Rattle.std.specs.Prelude.{◌≡◌, ℕ, true, List}
use Rattle.protocol.specs.declared.holdings.Holding.{Holding}
use Rattle.protocol.specs.Holdings.{clash}
use Rattle.protocol.specs.Lists.{Behind}

-- job p waits for job q, another: q's holding of an object stands before p's holding of it, and not both are to read
pub record WaitsFor (hs : List Holding) (p q : ℕ) : Type 0 where
  pub earlier : Holding
  pub later : Holding
  pub order : Behind earlier later hs
  pub of : earlier.job ≡ q
  pub by : later.job ≡ p
  pub other : q ≡ p → ⊥
  pub why : clash earlier later ≡ true

-- job p waits for job q, directly or through others
pub data WaitsThrough (hs : List Holding) : ℕ → ℕ → Type 0 where
  directly : {p q : ℕ} → WaitsFor hs p q → WaitsThrough hs p q
  through : {p k q : ℕ} → WaitsFor hs p k → WaitsThrough hs k q → WaitsThrough hs p q
