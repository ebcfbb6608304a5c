-- A place that is not there has no records.
use Rattle.std.proofs.Common.{◌≡◌, ℕ, ◌<◌, eqb, List, [], length, Some, None, Option, Ok, Err, Result, MatchResult, sym, ap, ◌∙◌, arith}
use Rattle.std.specs.Prelude.{filter}
use Rattle.std.specs.Result.{result_ok}
use Rattle.std.proofs.lemmas.List.{get_or_past, nil_from_length}
use Rattle.protocol.specs.declared.jobs.Job.{Job}
use Rattle.protocol.specs.declared.refusals.Refusal.{Refusal}
use Rattle.protocol.specs.declared.refusals.Refusal.TheVariants.{NoSuchPlace}
use Rattle.tables.specs.Within.{Within, room}
use Rattle.book.specs.declared.place.Place.{Place}

pub none_there : {A : Type 0} (b : ℕ) (job : A → ℕ) (jobs : List (Option Job)) (xs : List A) → length jobs ≡ 16 → Within b job jobs xs → (p : ℕ) → 15 < p → filter (λ x. eqb (job x) p) xs ≡ []
none_there b job jobs xs long w p l =
    nil_from_length (filter (λ x. eqb (job x) p) xs) (omega (arith, w p, ap (room b) (get_or_past jobs p None (omega (arith, long, l)))))

-- how many a question answers: none at a place that is not there, and else those that were counted
pub counted : {A : Type 0} (job : A → ℕ) (xs : List A) (p : ℕ) (r : Result Place Refusal) (n : ℕ) (P : Place → Type 0)
    → MatchResult r (λ here. here.number ≡ p) (λ e. (e ≡ NoSuchPlace) × (15 < p)) → MatchResult r P (λ _. n ≡ 0) → ((here : Place) → P here → n ≡ length (filter (λ x. eqb (job x) here.number) xs))
    → (15 < p → filter (λ x. eqb (job x) p) xs ≡ []) → n ≡ length (filter (λ x. eqb (job x) p) xs)
counted job xs p (Ok here) n P is counts by none = by here counts ∙ ap (λ q. length (filter (λ x. eqb (job x) q) xs)) is
counted job xs p (Err e) n P is counts by none = counts ∙ sym (ap length (none is.1))

-- what a question finds: nothing at a place that is not there, and else what is found at the place
module _ (p : ℕ) (r : Result Place Refusal) (is : MatchResult r (λ here. here.number ≡ p) (λ e. (e ≡ NoSuchPlace) × (15 < p))) where
  pub there : (here : Place) → Some here ≡ result_ok r → here.number ≡ p
  there here e = go r is e
    where
      go : (r : Result Place Refusal) → MatchResult r (λ here. here.number ≡ p) (λ e. (e ≡ NoSuchPlace) × (15 < p)) → Some here ≡ result_ok r → here.number ≡ p
      go (Ok place) is e = let q : here ≡ place = cc in ap (λ (x : Place). x.number) q ∙ is
      go (Err x) is e = let z : ◌≡◌ {A = ℕ} 0 1 = cc in absurd (omega arith)

  pub not_there : None ≡ result_ok r → 15 < p
  not_there e = go r is e
    where
      go : (r : Result Place Refusal) → MatchResult r (λ here. here.number ≡ p) (λ e. (e ≡ NoSuchPlace) × (15 < p)) → None ≡ result_ok r → 15 < p
      go (Ok place) is e = let z : ◌≡◌ {A = ℕ} 0 1 = cc in absurd (omega arith)
      go (Err x) is e = is.1
