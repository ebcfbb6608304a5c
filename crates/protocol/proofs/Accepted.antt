-- What is known where a call is accepted: each reason to refuse it fails.
use Rattle.std.proofs.Common.{◌≡◌, ℕ, ◌<◌, Bool, true, false, ◌&&◌, eqb, ltb, List, [], ◌∷◌, length, None, refl, inl, arith}
use Rattle.std.specs.List.{AllByRecursion}
use Rattle.std.proofs.lemmas.Bool.{both_ways, ltb-false, leb-false, not-false, and_from, eqb-true, eq-eqb, and_parts}
use Rattle.terms.specs.declared.modes.Mode.{Mode}
use Rattle.protocol.specs.declared.holdings.Holding.{Holding}
use Rattle.terms.specs.declared.calls.Call.TheVariants.{Begin, Lock, Image, Commit, Abort}
use Rattle.protocol.specs.declared.assumptions.Execution.{Execution}
use Rattle.protocol.specs.Holdings.{holds, held_by, opened, begins, waits, new_waits, reach}
use Rattle.protocol.specs.Lists.{is_nil, first, In}
use Rattle.protocol.specs.Model.{Model, executions_of, holding_count, names}
use Rattle.protocol.specs.Places.{has}
use Rattle.protocol.specs.Step.{answer, refusals}
use Rattle.terms.specs.Rule.{Rule}
use Rattle.protocol.proofs.Running.{Runs}
use Rattle.protocol.proofs.Lists.{any_in, none_passes, in_filter}

-- where no refusal is answered, every test fails
pub none_first : {A : Type 0} (ts : List (Bool × A)) → first ts ≡ None → AllByRecursion (λ (t : Bool × A). t.0 ≡ false) ts
none_first [] e = tt
none_first {A} (t ∷ ts) e = grind (arith, e, none_first ts)

-- of an accepted begin
pub record Begins (m : Model) (p : ℕ) : Type 0 where
  -- there is that place
  pub small : p < 16
  -- no job runs there
  pub idle : Runs m p → ⊥

-- of an accepted lock
pub record Locks (m : Model) (p o : ℕ) (mode : Mode) : Type 0 where
  -- the job runs
  pub runs : Runs m p
  -- there is that object
  pub object : o < length m.values
  -- the job does not hold the object
  pub new : (h : Holding) → In h m.holdings → h.job ≡ p → h.object ≡ o → ⊥
  -- it holds fewer than eight
  pub few : holding_count m p < 8
  -- nobody has the object open
  pub shut : (h : Holding) → In h m.holdings → h.object ≡ o → opened h.state ≡ true → ⊥
  -- the job is not reached from what it will wait for
  pub ring : has (reach (waits m.holdings) (new_waits m.holdings (record { job = p; object = o; state = begins mode }))) p ≡ false

-- of an accepted image
pub record Images (m : Model) (p o : ℕ) : Type 0 where
  pub runs : Runs m p
  -- there is that object
  pub object : o < length m.values
  -- the job has the object open
  pub opens : (h : Holding) × In h m.holdings × (h.job ≡ p) × (h.object ≡ o) × (opened h.state ≡ true)

-- of an accepted commit
pub record Commits (m : Model) (p : ℕ) : Type 0 where
  pub runs : Runs m p
  -- the job has an execution
  pub some : (e : Execution) × In e m.executions × (e.job ≡ p)
  -- none of its holdings is open
  pub shut : (h : Holding) → In h m.holdings → h.job ≡ p → opened h.state ≡ true → ⊥
  -- it waits for none
  pub free : waits m.holdings p ≡ 0

small : (p : ℕ) → ltb 15 p ≡ false → p < 16
small p e = omega (arith, ltb-false 15 p e)

pub begin_accepted : (r : Rule) (m : Model) (p k a : ℕ) → answer r m (Begin p k a) ≡ None → Begins m p
unfolding answer refusals
begin_accepted r m p k a e = let f = none_first (refusals r m (Begin p k a)) e in record { small = small p f.0; idle = λ i. both_ways _ f.1.0 i }

pub lock_accepted : (r : Rule) (m : Model) (p o : ℕ) (mode : Mode) → answer r m (Lock p o mode) ≡ None → Locks m p o mode
unfolding answer refusals
lock_accepted r m p o mode e =
    let f = none_first (refusals r m (Lock p o mode)) e in
    record {
      runs = not-false _ f.1.0;
      object = leb-false _ _ f.1.1.1.0;
      new = λ h i j k. none_passes (holds p o) m.holdings f.1.1.1.1.0 h i (and_from _ _ (eq-eqb _ _ j) (eq-eqb _ _ k));
      few = leb-false _ _ f.1.1.1.1.1.0;
      shut = λ h i k j. none_passes (λ g. eqb g.object o && opened g.state) m.holdings f.1.1.1.1.1.1.0 h i (and_from _ _ (eq-eqb _ _ k) j);
      ring = f.1.1.1.1.1.1.1.0;
    }

pub image_accepted : (r : Rule) (m : Model) (p o : ℕ) → answer r m (Image p o) ≡ None → Images m p o
unfolding answer refusals
image_accepted r m p o e =
    let f = none_first (refusals r m (Image p o)) e in
    let a = any_in (λ h. holds p o h && opened h.state) m.holdings (not-false _ f.1.1.1.1.0) in
    let b = and_parts _ _ a.2 in
    let c = and_parts _ _ b.0 in
    record {
      runs = not-false _ f.1.0;
      object = leb-false _ _ f.1.1.1.0;
      opens = (a.0, a.1, eqb-true _ _ c.0, eqb-true _ _ c.1, b.1);
    }

not_nil : {A : Type 0} (xs : List A) → is_nil xs ≡ false → (x : A) × In x xs
not_nil [] e = absurd (both_ways true e refl)
not_nil (x ∷ xs) e = (x, inl refl)

pub commit_accepted : (r : Rule) (m : Model) (p : ℕ) → answer r m (Commit p) ≡ None → Commits m p
unfolding answer refusals
commit_accepted r m p e =
    let f = none_first (refusals r m (Commit p)) e in
    let x = not_nil (executions_of p m) f.1.1.0 in
    let i = in_filter (names p) m.executions x.0 x.1 in
    record {
      runs = not-false _ f.1.0;
      some = (x.0, i.0, eqb-true _ _ i.1);
      shut = λ h i j k. none_passes (λ h. held_by p h && opened h.state) m.holdings f.1.1.1.0 h i (and_from _ _ (eq-eqb _ _ j) k);
      free = eqb-true _ _ (not-false _ f.1.1.1.1.0);
    }

pub abort_accepted : (r : Rule) (m : Model) (p : ℕ) → answer r m (Abort p) ≡ None → Runs m p
unfolding answer refusals
abort_accepted r m p e = not-false _ (none_first (refusals r m (Abort p)) e).1.0
