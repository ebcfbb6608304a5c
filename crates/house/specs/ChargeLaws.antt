-- What a storeskeeper may count on in the charge rule. A kind goes by its number.
use Rattle.std.specs.Prelude.{◌≡◌, ℕ, ◌-◌, ◌/◌, ◌^◌, ◌<◌, ◌≤◌, min, Bool, List, map, length, slice_index}
use Rattle.std.specs.List.{sum_by}
use Rattle.terms.specs.Rule.{Rule}
use Rattle.terms.specs.declared.modes.Mode.{Mode}
use Rattle.terms.specs.declared.modes.Mode.TheVariants.{Read, Write}
use Rattle.house.specs.Draw.{draw, draw_sheet}
use Rattle.house.specs.Charge.{charge_rule}
use Rattle.house.specs.Work.{Lock, work_of}

-- a job of this kind never gives more than it met
abbrev pub NeverGains : ℕ → Type 0
NeverGains kind = (argument work object met : ℕ) → charge_rule.give kind argument work object met ≤ met

-- a job of this kind never gives less than it met
abbrev pub NeverLoses : ℕ → Type 0
NeverLoses kind = (argument work object met : ℕ) → met < 2 ^ 64 → met ≤ charge_rule.give kind argument work object met

-- what a lock adds to the total that is read
abbrev pub read_part : Mode → ℕ → ℕ
read_part Read met = met
read_part Write met = 0

-- the total of the values locked to read
abbrev pub total_read : List Lock → ℕ
total_read locks = sum_by (λ lock. read_part lock.mode lock.met) locks

-- a job of this kind gives the whole hours for which the total that it read lasts, as far as 64 bits hold that total
abbrev pub TellsHours : ℕ → Type 0
TellsHours kind =
    (argument object met : ℕ) (locks : List Lock)
    → charge_rule.give kind argument (work_of charge_rule kind argument locks) object met ≡ min (total_read locks) (2 ^ 64 - 1) / draw argument

-- a draw is one of the seven of the sheet
abbrev pub OnTheSheet : (ℕ → ℕ) → Type 0
OnTheSheet draws = (minutes : ℕ) → (k : ℕ) × ((k < length draw_sheet) × (draws minutes ≡ slice_index (map (λ row. row.drawn) draw_sheet) k))

-- more minutes never have a smaller draw
abbrev pub Rises : (ℕ → ℕ) → Type 0
Rises draws = (fewer more : ℕ) → fewer ≤ more → draws fewer ≤ draws more

-- a rule's kinds that are known, or unknown, as the truth value says, give each value as they met it
abbrev pub KeepsWhere : Bool → Rule → Type 0
KeepsWhere known rule = (kind : ℕ) → rule.knows kind ≡ known → (argument work object met : ℕ) → rule.give kind argument work object met ≡ met
