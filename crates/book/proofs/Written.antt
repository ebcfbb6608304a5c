-- What a job made, found and written.
use Rattle.std.proofs.Common.{◌≡◌, ℕ, ◌+◌, ◌<◌, Bool, true, false, ◌&&◌, eqb, cond, List, [], ◌∷◌, ◌++◌, length, get_or, drop, set, Some, None, Option, Bor, sym, refl, ap, ◌∙◌}
use Rattle.std.specs.Prelude.{MatchOption}
use Rattle.std.specs.List.{find}
use Rattle.std.specs.Option.{option_map, option_map_or}
use Rattle.std.proofs.lemmas.List.{at_drop_more}
use Rattle.terms.specs.declared.calls.Call.TheVariants.{Commit}
use Rattle.protocol.specs.declared.jobs.Ending.TheVariants.{Committed}
use Rattle.protocol.specs.declared.holdings.Holding.{Holding}
use Rattle.protocol.specs.declared.assumptions.Version.{Version}
use Rattle.protocol.specs.Ending.{made_value, written, commit_barred}
use Rattle.protocol.specs.Holdings.{held_by, turned}
use Rattle.protocol.specs.Lists.{first}
use Rattle.protocol.specs.Lock.{no_live_job}
use Rattle.protocol.specs.Model.{Model}
use Rattle.protocol.specs.Settling.{settle}
use Rattle.protocol.specs.Step.{answer, refusals, next}
use Rattle.terms.specs.Rule.{Rule}
use Rattle.protocol.specs.Empty.{no_holding}

-- what is read of a version that was found, or else another value
pub or_else : (Reads : Bor Version → Type 0) (r : Option (Bor Version)) (other result : ℕ) → MatchOption r (result ≡ other) Reads → ((v : Bor Version) → Reads v → result ≡ v.now.value)
    → result ≡ option_map_or (λ v. v.value) (option_map (λ y. y.now) r) other
or_else Reads None other result e f = e
or_else Reads (Some v) other result e f = f v e

-- the value that counts is that of the first version by the job of the object
pub found : (p o d : ℕ) (vs : List Version) → option_map_or (λ v. v.value) (find (λ (v : Version). eqb v.maker p && eqb v.object o) vs) d ≡ made_value p o vs d
found p o d [] = refl
found p o d (v ∷ vs) = go (eqb v.maker p && eqb v.object o) (found p o d vs)
  where
    go : (b : Bool) → option_map_or (λ v. v.value) (find (λ (v : Version). eqb v.maker p && eqb v.object o) vs) d ≡ made_value p o vs d
        → option_map_or (λ v. v.value) (cond b (Some v) (find (λ (v : Version). eqb v.maker p && eqb v.object o) vs)) d ≡ (elim b as (λ _. ℕ) [ true ↦ v.value | false ↦ made_value p o vs d ])
    go true e = refl
    go false e = e

pub written_none : (p : ℕ) (vs : List Version) (xs : List ℕ) → written p vs [] xs ≡ xs
unfolding written
written_none p vs xs = refl

written_cons : (p : ℕ) (vs : List Version) (h : Holding) (hs : List Holding) (xs : List ℕ)
    → written p vs (h ∷ hs) xs ≡ (elim (held_by p h && turned h.state) as (λ _. List ℕ) [ true ↦ written p vs hs (set xs h.object (made_value p h.object vs (get_or xs h.object 0))) | false ↦ written p vs hs xs ])
unfolding written
written_cons p vs h hs xs = refl

module _ (p : ℕ) (vs : List Version) (hs : List Holding) (i : ℕ) (l : i < length hs) (xs : List ℕ) where
  abbrev h : Holding
  h = get_or hs i no_holding

  step : (b : Bool) → (held_by p h && turned h.state) ≡ b
      → written p vs (drop i hs) xs ≡ (elim b as (λ _. List ℕ) [ true ↦ written p vs (drop (i + 1) hs) (set xs h.object (made_value p h.object vs (get_or xs h.object 0))) | false ↦ written p vs (drop (i + 1) hs) xs ])
  step b e =
      at_drop_more (λ hs. written p vs hs xs) hs i no_holding l ∙ written_cons p vs h (drop (i + 1) hs) xs
      ∙ ap (λ b. elim b as (λ _. List ℕ) [ true ↦ written p vs (drop (i + 1) hs) (set xs h.object (made_value p h.object vs (get_or xs h.object 0))) | false ↦ written p vs (drop (i + 1) hs) xs ]) e

  pub written_here : (held_by p (get_or hs i no_holding) && turned (get_or hs i no_holding).state) ≡ true → (ys : List ℕ)
      → ys ≡ set xs (get_or hs i no_holding).object (made_value p (get_or hs i no_holding).object vs (get_or xs (get_or hs i no_holding).object 0))
      → written p vs (drop i hs) xs ≡ written p vs (drop (i + 1) hs) ys
  written_here e ys f = step true e ∙ ap (written p vs (drop (i + 1) hs)) (sym f)

  pub written_later : (held_by p (get_or hs i no_holding) && turned (get_or hs i no_holding).state) ≡ false → written p vs (drop i hs) xs ≡ written p vs (drop (i + 1) hs) xs
  written_later e = step false e

pub commit_answer : (r : Rule) (m : Model) (p : ℕ) → answer r m (Commit p) ≡ first (no_live_job m p ++ commit_barred m p)
unfolding answer refusals
commit_answer r m p = refl

pub committed_is : (r : Rule) (m : Model) (p : ℕ) → settle Committed p (written p m.versions m.holdings m.values) m ≡ next r m (Commit p)
unfolding next
committed_is r m p = refl
