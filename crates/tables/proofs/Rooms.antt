-- Where each place keeps to its room, the records are few and name places; and each step of a book keeps to the room.
use Rattle.std.proofs.Common.{◌≡◌, ℕ, ◌+◌, ◌*◌, ◌<◌, ◌≤◌, Bool, true, not, ◌&&◌, eqb, List, ◌++◌, map, length, get_or, set, Some, None, Option, ap, ◌∙◌, inl, inr, arith}
use Rattle.std.specs.Prelude.{filter}
use Rattle.std.proofs.lemmas.List.{get_or_past, get_or-set_other}
use Rattle.std.proofs.lemmas.Bool.{cases_eq, cases_lt, both_ways, and_parts, not-true, eq-eqb}
use Rattle.protocol.specs.declared.jobs.Job.{Job}
use Rattle.tables.specs.Ended.{others}
use Rattle.tables.specs.Within.{count, room, Within}
use Rattle.tables.proofs.Counts.{few, count_parts, count_filter, count_map, count_none, count_others, count_append, count_at}

room_le : (b : ℕ) (j : Option Job) → room b j ≤ b
room_le b None = omega arith
room_le b (Some j) = omega arith

module _ {A : Type 0} (b : ℕ) (job : A → ℕ) (jobs : List (Option Job)) (xs : List A) (w : Within b job jobs xs) where
  -- at most b of one place
  pub within_at : (p : ℕ) → count job p xs ≤ b
  within_at p = omega (arith, w p, room_le b (get_or jobs p None))

  module _ (long : length jobs ≡ 16) where
    no_room : (p : ℕ) → 16 ≤ p → room b (get_or jobs p None) ≡ 0
    no_room p l = ap (room b) (get_or_past jobs p None (omega arith))

    -- at most sixteen times b in all
    pub within_few : length xs ≤ 16 * b
    within_few = few job 16 b xs (λ p l. within_at p) (λ p l. omega (arith, w p, no_room p l))

    -- each names one of the sixteen places
    pub within_place : (k : ℕ) (d : A) → k < length xs → job (get_or xs k d) < 16
    within_place k d l =
        elim (cases_lt (job (get_or xs k d)) 16) [
          | inl h ↦ h
          | inr h ↦ absurd (omega (arith, w (job (get_or xs k d)), no_room (job (get_or xs k d)) h, count_at job xs k d l))
        ]

  pub within_filter : (t : A → Bool) → Within b job jobs (filter t xs)
  within_filter t p = omega (arith, w p, count_filter job t p xs)

  -- records are changed, and name the jobs they named
  pub within_map : (f : A → A) → ((x : A) → job (f x) ≡ job x) → Within b job jobs (map f xs)
  within_map f same p = omega (arith, w p, count_map job f same p xs)

  -- records of a running job are added
  pub within_join : (ys : List A) (p : ℕ) (j : Job) → get_or jobs p None ≡ Some j → ((q : ℕ) → (q ≡ p → ⊥) → count job q ys ≤ 0) → count job p xs + length ys ≤ b
      → Within b job jobs (xs ++ ys)
  within_join ys p j runs named l q =
      elim (cases_eq q p) [
        | inl e ↦ omega (arith, ap (λ p. count job p (xs ++ ys)) e, count_append job p xs ys, count_parts job p ys, ap (λ p. room b (get_or jobs p None)) e, ap (room b) runs)
        | inr ne ↦ omega (arith, count_append job q xs ys, named q ne, w q)
      ]

  -- a job begins
  pub within_begun : (p : ℕ) (j : Job) → get_or jobs p None ≡ None → Within b job (set jobs p (Some j)) xs
  within_begun p j none q =
      elim (cases_eq q p) [
        | inl e ↦ omega (arith, w q, ap (λ q. room b (get_or jobs q None)) e, ap (room b) none)
        | inr ne ↦ omega (arith, w q, ap (room b) (get_or-set_other jobs p q (Some j) None ne))
      ]

  -- a job ends, and its records go
  within_ended : (ys : List A) (p : ℕ) → ((q : ℕ) → count job q ys ≤ count job q xs) → count job p ys ≡ 0 → Within b job (set jobs p None) ys
  within_ended ys p less none q =
      elim (cases_eq q p) [
        | inl e ↦ omega (arith, ap (λ q. count job q ys) e)
        | inr ne ↦ omega (arith, w q, less q, ap (room b) (get_or-set_other jobs p q None None ne))
      ]

  pub within_removed : (p : ℕ) → Within b job (set jobs p None) (filter (λ x. not (eqb (job x) p)) xs)
  within_removed p = within_ended (others job p xs) p (λ q. count_filter job (λ x. not (eqb (job x) p)) q xs) (count_others job p xs)

  pub within_settled : (p : ℕ) (u : A → Bool) (f : A → A) → ((x : A) → job (f x) ≡ job x) → Within b job (set jobs p None) (map f (filter (λ x. not (eqb (job x) p) && u x) xs))
  within_settled p u f same =
      let t : A → Bool = λ x. not (eqb (job x) p) && u x in
      let apart : (x : A) → t x ≡ true → job x ≡ p → ⊥ = λ x e h. both_ways (eqb (job x) p) (not-true _ (and_parts (not (eqb (job x) p)) (u x) e).0) (eq-eqb (job x) p h) in
      within_ended (map f (filter t xs)) p (λ q. omega (arith, count_map job f same q (filter t xs), count_filter job t q xs)) (count_map job f same p (filter t xs) ∙ count_none job t p apart xs)
