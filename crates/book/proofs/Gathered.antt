-- What is gathered of a chain that gives a list.
use Rattle.std.proofs.Common.{◌≡◌, ℕ, ◌+◌, ◌≤◌, List, ◌++◌, length, Option, sym, ap, ◌∙◌, arith}
use Rattle.std.specs.Iterator.{HoldsAlong, Drains}
use Rattle.std.proofs.lemmas.Iterator.{YieldsList, items_from_drains}
use Rattle.std.proofs.lemmas.Iterator.Consumers.{YieldsList-so_far}
use Rattle.std.proofs.lemmas.List.{length-map, length-take, map-id}

module _ {S T : Type 0} {gives : S → Option T → S → Type 0} {them : S} {all : List T} where
  -- it is the list
  pub gathered : (before after : List T) → (came : List T) × Drains gives them came × (after ≡ before ++ came) → YieldsList gives (λ x. x) them all → after ≡ before ++ all
  gathered before after d road =
      let came = d.0 in
      d.2 ∙ ap (λ l. before ++ l) (sym (map-id came) ∙ items_from_drains came (d.1.1.0, d.1.1.1, λ _. (d.1.0, d.1.1.2)) road)

  -- at no point is there more than in the list
  pub gathers : (m n : ℕ) → m + length all ≤ n → YieldsList gives (λ x. x) them all → HoldsAlong gives them (λ came. m + length came ≤ n)
  gathers m n h road came t y = omega (arith, ap length (YieldsList-so_far road came t y), length-map came (λ x. x), length-take (length came) all)
