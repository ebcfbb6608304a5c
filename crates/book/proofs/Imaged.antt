-- A book after an image.
use Rattle.std.proofs.Common.{◌≡◌, ℕ, suc, ◌+◌, ◌<◌, ◌≤◌, Bool, true, false, cond, ◌&&◌, ◌||◌, eqb, List, [], ◌∷◌, ◌++◌, map, length, Some, None, Ok, Err, Option, Result, sym, refl, ap, ◌∙◌, arith}
use Rattle.std.specs.Prelude.{filter}
use Rattle.std.specs.List.{AllByRecursion, list_any}
use Rattle.std.proofs.lemmas.Bool.{false≢true, ltb-false}
use Rattle.terms.specs.declared.calls.Call.TheVariants.{Image}
use Rattle.protocol.specs.declared.holdings.Holding.{Holding}
use Rattle.protocol.specs.declared.jobs.Job.{Job}
use Rattle.protocol.specs.declared.assumptions.Version.{Version}
use Rattle.protocol.specs.Holdings.{position, holds, opened, turn}
use Rattle.protocol.specs.Image.{version_by, image_refusals}
use Rattle.protocol.specs.Lists.{first}
use Rattle.protocol.specs.Model.{Model, executions_of, job_at}
use Rattle.protocol.specs.Step.{answer, refusals, next}
use Rattle.protocol.specs.declared.refusals.Refusal.{Refusal}
use Rattle.protocol.specs.declared.refusals.Refusal.TheVariants.{NotOpen}
use Rattle.terms.specs.Rule.{Rule}
use Rattle.tables.specs.Within.{Within, count, job_of_holding}
use Rattle.tables.proofs.Rooms.{within_map}
use Rattle.book.proofs.Locking.{first_passed}

-- an object that is held has a place among those that the job holds
pub position_within : (p o : ℕ) (hs : List Holding) → list_any (λ h. holds p o h && opened h.state) hs ≡ true → position p o hs < count job_of_holding p hs
unfolding position
position_within p o [] e = absurd (false≢true e)
position_within p o (h ∷ hs) e = go (eqb h.job p) (eqb h.object o) e (position_within p o hs)
  where
    go : (a b : Bool) → ((a && b && opened h.state) || list_any (λ h. holds p o h && opened h.state) hs) ≡ true
        → (list_any (λ h. holds p o h && opened h.state) hs ≡ true → position p o hs < count job_of_holding p hs)
        → (elim a as (λ _. ℕ) [ true ↦ elim b as (λ _. ℕ) [ true ↦ 0 | false ↦ suc (position p o hs) ] | false ↦ position p o hs ])
        < length (cond a (h ∷ filter (λ x. eqb (job_of_holding x) p) hs) (filter (λ x. eqb (job_of_holding x) p) hs))
    go true true e rec = omega arith
    go true false e rec = let k = rec e in omega arith
    go false b e rec = rec e

pub image_answer : (r : Rule) (m : Model) (p o : ℕ) → answer r m (Image p o) ≡ first (image_refusals m p o)
unfolding answer refusals
image_answer r m p o = refl

-- where none is refused there is room for the versions
pub image_room : (m : Model) (p o : ℕ) → first (image_refusals m p o) ≡ None → length m.versions + length (executions_of p m) ≤ 256
image_room m p o e =
    let t : AllByRecursion (λ (t : Bool × Refusal). t.0 ≡ false) (image_refusals m p o) = first_passed (image_refusals m p o) e in
    ltb-false 256 (length m.versions + length (executions_of p m)) t.1.1.1.1.1.0

pub within_turned : (p o : ℕ) (jobs : List (Option Job)) (hs : List Holding) → Within 8 job_of_holding jobs hs → Within 8 job_of_holding jobs (map (turn p o) hs)
within_turned p o jobs hs w = within_map 8 job_of_holding jobs hs w (turn p o) (λ h. refl)

pub imaged_is : (r : Rule) (m : Model) (p o n : ℕ) (j : Job) (hs : List Holding) (vs : List Version) → job_at m p ≡ Some j → n ≡ position p o m.holdings
    → hs ≡ map (turn p o) m.holdings → vs ≡ m.versions ++ map (version_by r (Some j) o n) (executions_of p m)
    → ◌≡◌ {A = Model} (record { robustness = m.robustness; limit = m.limit; values = m.values; jobs = m.jobs; holdings = hs; executions = m.executions; versions = vs }) (next r m (Image p o))
unfolding next
imaged_is r m p o n j hs vs a b c d =
    ap (λ hs. record { robustness = m.robustness; limit = m.limit; values = m.values; jobs = m.jobs; holdings = hs; executions = m.executions; versions = vs }) c
    ∙ ap (λ vs. record { robustness = m.robustness; limit = m.limit; values = m.values; jobs = m.jobs; holdings = map (turn p o) m.holdings; executions = m.executions; versions = vs })
    (d ∙ ap (λ (j : Option Job). m.versions ++ map (version_by r j o n) (executions_of p m)) (sym a) ∙ ap (λ n. m.versions ++ map (version_by r (job_at m p) o n) (executions_of p m)) b)

-- ---- what a call has found
pub not_found : (b : Bool) (x : Refusal) → ◌≡◌ {A = Result (Unit {0}) Refusal} (Err x) (cond b (Ok tt) (Err NotOpen)) → (b ≡ false) × (x ≡ NotOpen)
not_found true x e = let z : ◌≡◌ {A = ℕ} 0 1 = cc in absurd (omega arith)
not_found false x e = let q : x ≡ NotOpen = cc in (refl, q)

pub was_found : (b : Bool) (u : Unit {0}) → ◌≡◌ {A = Result (Unit {0}) Refusal} (Ok u) (cond b (Ok tt) (Err NotOpen)) → b ≡ true
was_found true u e = refl
was_found false u e = let z : ◌≡◌ {A = ℕ} 0 1 = cc in absurd (omega arith)
