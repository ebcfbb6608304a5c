-- What is left of records once a job has ended.
use Rattle.std.specs.Prelude.{◌≡◌, ℕ, ◌-◌, not, ◌&&◌, List, ◌++◌, map, length, replicate, ◌==◌, filter}
use Rattle.protocol.specs.declared.assumptions.Assumption.{Assumption}
use Rattle.protocol.specs.declared.jobs.Ending.{Ending}
use Rattle.protocol.specs.Settling.{survives, settled}

-- those that do not name job k, in order
abbrev pub others : {T : Type 0} → (T → ℕ) → ℕ → List T → List T
others named k xs = filter (λ x. not (named x == k)) xs

-- those that neither name job k nor took it to end the other way, in order, each with k taken out of its sets
abbrev pub settled_records : {T : Type 0} → (T → ℕ) → (T → Assumption) → (T → Assumption → T) → Ending → ℕ → List T → List T
settled_records named taken assuming how k xs =
    map (λ x. assuming x (settled k (taken x))) (filter (λ x. not (named x == k) && survives how k (taken x)) xs)

-- the records and behind them, up to n in all, empty ones
abbrev pub padded : {T : Type 0} → ℕ → T → List T → List T
padded n empty xs = xs ++ replicate (n - length xs) empty

-- records were compacted in place: what is left of them stands in front, in order, `live` in all, and the places behind are emptied
pub record Compacted {T : Type 0} (empty : T) (kept was : List T) (live : ℕ) (now : List T) : Type 0 where
  pub left : live ≡ length kept
  pub after : now ≡ padded (length was) empty kept
