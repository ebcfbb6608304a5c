-- What is added of a chain, and the pairs of a job's executions, one execution after another.
use Rattle.std.proofs.Common.{ℕ, ◌≡◌, ◌+◌, ◌<◌, ◌≤◌, Bool, true, false, cond, eqb, List, [], ◌∷◌, ◌++◌, map, length, get_or, drop, Option, Ok, Err, Result, refl, sym, ap, ◌∙◌, subst, arith}
use Rattle.std.specs.Prelude.{filter}
use Rattle.std.specs.Iterator.{DrainsIf}
use Rattle.std.specs.Result.{IsOk}
use Rattle.std.proofs.lemmas.Iterator.{YieldsList, items_from_drains}
use Rattle.std.proofs.lemmas.Iterator.Consumers.{YieldsList-so_far}
use Rattle.std.proofs.lemmas.List.{at_drop_more, at_drop_all, append_assoc, append-nil, length-append, length-map, length-take, map-id}
use Rattle.protocol.specs.declared.assumptions.Execution.{Execution}
use Rattle.protocol.specs.declared.assumptions.Offer.{Offer}
use Rattle.protocol.specs.Assumptions.{assume}
use Rattle.protocol.specs.Model.{names}
use Rattle.protocol.specs.Pairing.{is_kept, pairs}
use Rattle.protocol.specs.declared.refusals.Refusal.{Refusal}
use Rattle.tables.specs.Items.{items}
use Rattle.book.specs.declared.request.Found.{Found}
use Rattle.book.specs.Meeting.{Added}

-- all of the list is added, or it would be too much
adds_all : {S : Type 0} {gives : S → Option Execution → S → Type 0} {them : S} {all : List Execution} (before after : Found) (r : Result (Unit {0}) Refusal)
    → (came : List Execution) × DrainsIf gives (IsOk r) them came × Added before came after r → YieldsList gives (λ x. x) them all → Added before all after r
adds_all before after (Ok u) d road =
    let came = d.0 in
    subst (λ l. Added before l after (Ok u)) (sym (map-id came) ∙ items_from_drains came (d.1.0, d.1.1, λ _. d.1.2 refl) road) d.2
adds_all {all = all} before after (Err e) d road =
    let came = d.0 in
    let old = items before.pairs in
    record {
      added = (d.2.added.0, omega (arith, d.2.added.1, length-append old came, length-append old all, ap length (YieldsList-so_far road came d.1.0 d.1.1), length-map came (λ x. x), length-take (length came) all));
      within = d.2.within;
    }

-- what is made of those for which it is kept, is what is kept of what is made of each
kept_of : {X Y : Type 0} (t : Y → Bool) (f : X → Y) (xs : List X) → map f (filter (λ x. t (f x)) xs) ≡ filter t (map f xs)
kept_of t f [] = refl
kept_of {X = X} {Y = Y} t f (x ∷ xs) = go (t (f x)) (kept_of t f xs)
  where
    go : (b : Bool) → map f (filter (λ x. t (f x)) xs) ≡ filter t (map f xs)
        → map f (cond b (x ∷ filter (λ x. t (f x)) xs) (filter (λ x. t (f x)) xs)) ≡ cond b (f x ∷ filter t (map f xs)) (filter t (map f xs))
    go true e = ap (λ ys. f x ∷ ys) e
    go false e = e

-- all that is kept is added, or it would be too much
pub adds_kept : {S X : Type 0} {gives : S → Option Execution → S → Type 0} {them : S} (t : Execution → Bool) (f : X → Execution) (xs : List X) (before after : Found) (r : Result (Unit {0}) Refusal)
    → (came : List Execution) × DrainsIf gives (IsOk r) them came × Added before came after r → YieldsList gives (λ x. x) them (map f (filter (λ x. t (f x)) xs)) → Added before (filter t (map f xs)) after r
adds_kept t f xs before after r d road = subst (λ l. Added before l after r) (kept_of t f xs) (adds_all before after r d road)

-- what a read past the end of a list of executions gives
abbrev pub past_all : Execution
past_all = record { job = 0; assumes = assume 0 0; work = 0; tally = 0; met = [] }

module _ (r : ℕ) (f : Execution → Offer → Execution) (os : List Offer) (p : ℕ) where
  -- of an execution's pairs those that are kept
  abbrev pub kept : Execution → List Execution
  kept e = filter (is_kept r) (map (f e) os)

  abbrev pub all_of : List Execution → List Execution
  all_of es = pairs r f os (filter (names p) es)

  none_of : all_of [] ≡ []
  unfolding pairs
  none_of = refl

  first_of : (b : Bool) (e : Execution) (es : List Execution) → pairs r f os (cond b (e ∷ filter (names p) es) (filter (names p) es)) ≡ cond b (kept e) [] ++ all_of es
  unfolding pairs
  first_of true e es = refl
  first_of false e es = refl

  module _ (es : List Execution) (i : ℕ) where
    abbrev e : Execution
    e = get_or es i past_all

    -- the i-th execution's come first, where it is the job's
    first_kept : (b : Bool) → i < length es → eqb e.job p ≡ b → all_of (drop i es) ≡ cond b (kept e) [] ++ all_of (drop (i + 1) es)
    first_kept b l own =
        at_drop_more all_of es i past_all l
        ∙ ap (λ b. pairs r f os (cond b (e ∷ filter (names p) (drop (i + 1) es)) (filter (names p) (drop (i + 1) es)))) own ∙ first_of b e (drop (i + 1) es)

    module _ (before now : List Execution) (adds : now ++ all_of (drop i es) ≡ before ++ all_of es) where
      -- they are added
      pub more : (after : List Execution) → i < length es → eqb (get_or es i past_all).job p ≡ true → after ≡ now ++ kept (get_or es i past_all) → after ++ all_of (drop (i + 1) es) ≡ before ++ all_of es
      more after l own added =
          ap (λ l. l ++ all_of (drop (i + 1) es)) added ∙ append_assoc now (kept e) (all_of (drop (i + 1) es)) ∙ ap (λ l. now ++ l) (sym (first_kept true l own)) ∙ adds

      -- it is another job's
      pub passed : i < length es → eqb (get_or es i past_all).job p ≡ false → now ++ all_of (drop (i + 1) es) ≡ before ++ all_of es
      passed l other = ap (λ l. now ++ l) (sym (first_kept false l other)) ∙ adds

      -- they would be too many
      pub over : (limit : ℕ) → i < length es → eqb (get_or es i past_all).job p ≡ true → limit < length (now ++ kept (get_or es i past_all)) → limit < length (before ++ all_of es)
      over limit l own much =
          omega (arith, much, length-append now (kept e), ap length adds, length-append now (all_of (drop i es)), ap length (first_kept true l own), length-append (kept e) (all_of (drop (i + 1) es)))

      -- there are no more
      pub all_added : length es ≤ i → now ≡ before ++ all_of es
      all_added l = sym (append-nil now) ∙ ap (λ l. now ++ l) (sym (at_drop_all all_of es i l ∙ none_of)) ∙ adds
