-- Chains: a job that is assumed about is reached by waits that go on only through jobs assumed to commit. So who waits for none assumes nothing.
-- Conflicts: two assumptions that cannot both come true.
use Rattle.std.proofs.Common.{◌≡◌, ℕ, ◌<◌, Bool, true, false, ◌||◌, eqb, ltb, ◌⊎◌, List, [], ◌∷◌, ◌++◌, sym, refl, ap, ◌∙◌, inl, inr, arith}
use Rattle.std.proofs.lemmas.Bool.{both_ways, eqb-true, eq-eqb, or_left, or_right, cases_eq, ltb-true, lt-ltb}
use Rattle.protocol.specs.Assumptions.{commits_of, aborts_of, assume}
use Rattle.protocol.specs.declared.holdings.Holding.{Holding}
use Rattle.protocol.specs.declared.assumptions.Assumption.{Assumption}
use Rattle.protocol.specs.Holdings.{waits, new_waits}
use Rattle.protocol.specs.Places.{has, single, join}
use Rattle.protocol.specs.Settling.{survives, settled}
use Rattle.protocol.specs.declared.jobs.Ending.{Ending}
use Rattle.protocol.specs.declared.jobs.Ending.TheVariants.{Committed, Aborted}
use Rattle.protocol.proofs.Membership.{none_in, join_left, join_right, join_cases, single_in, in_single, in_without_one, without_one_in}
use Rattle.protocol.proofs.Waiting.{waits_more, new_waits_wait, rest, rest_waits}

-- a takes k to commit
abbrev pub CommitIn : Assumption → ℕ → Type 0
CommitIn a k = has (commits_of a) k ≡ true

-- a takes k to abort
abbrev pub AbortIn : Assumption → ℕ → Type 0
AbortIn a k = has (aborts_of a) k ≡ true

-- a takes k to end one way or the other
abbrev pub AssumedIn : Assumption → ℕ → Type 0
AssumedIn a k = CommitIn a k ⊎ AbortIn a k

-- where T has a job that a takes to commit, T has all that this job waits for
abbrev pub Closes : List Holding → Assumption → (ℕ → Bool) → Type 0
Closes hs a T = (c q : ℕ) → CommitIn a c → T c ≡ true → has (waits hs c) q ≡ true → T q ≡ true

-- a follows from the jobs of a start: each test that has these, and is so closed, has all of a
pub Follows : List Holding → (ℕ → Type 0) → Assumption → Type 0
Follows hs Start a = (T : ℕ → Bool) → ((q : ℕ) → Start q → T q ≡ true) → Closes hs a T → (k : ℕ) → AssumedIn a k → T k ≡ true

-- a is chained to job j: it follows from those for whom j waits
abbrev pub Chained : List Holding → ℕ → Assumption → Type 0
Chained hs j = Follows hs (λ q. has (waits hs j) q ≡ true)

-- a version's is linked to its maker m: it follows from m
abbrev pub Linked : List Holding → ℕ → Assumption → Type 0
Linked hs m = Follows hs (λ q. m ≡ q)

-- an offer's follows from those for whom the new holding h waits
abbrev pub Offered : List Holding → Holding → Assumption → Type 0
Offered hs h = Follows hs (λ q. has (new_waits hs h) q ≡ true)

-- what both take
abbrev pub joined : Assumption → Assumption → Assumption
joined a b = assume (join (commits_of a) (commits_of b)) (join (aborts_of a) (aborts_of b))

assumed_joined : (a b : Assumption) (k : ℕ) → AssumedIn (joined a b) k → AssumedIn a k ⊎ AssumedIn b k
assumed_joined a b k c = grind (arith, c, join_cases (commits_of a) (commits_of b) k, join_cases (aborts_of a) (aborts_of b) k)

pub chained_none : (hs : List Holding) (j : ℕ) → Chained hs j (assume 0 0)
unfolding Follows
chained_none hs j T start step k (inl e) = none_in k e
chained_none hs j T start step k (inr e) = none_in k e

-- ---- more waits keep a chain
module _ (hs gs : List Holding) (more : (a b : ℕ) → has (waits hs a) b ≡ true → has (waits gs a) b ≡ true) where
  follows_more : (S U : ℕ → Type 0) (a : Assumption) → ((q : ℕ) → S q → U q) → Follows hs S a → Follows gs U a
  unfolding Follows
  follows_more S U a f c T start step = c T (λ q e. start q (f q e)) (λ d q i t e. step d q i t (more d q e))

  pub chained_more : (j : ℕ) (a : Assumption) → Chained hs j a → Chained gs j a
  chained_more j a = follows_more _ _ a (more j)

  pub linked_more : (m : ℕ) (a : Assumption) → Linked hs m a → Linked gs m a
  linked_more m a = follows_more _ _ a (λ q e. e)

-- ---- a lock
pub chained_pair : (hs : List Holding) (h : Holding) (a x : Assumption) → Chained hs h.job a → Offered hs h x → Chained (hs ++ h ∷ []) h.job (joined a x)
unfolding Follows
chained_pair hs h a x c f T start step k s =
    elim (assumed_joined a x k s) [
      | inl i ↦ c T (λ q e. start q (waits_more hs h _ q e)) (λ d q j t e. step d q (join_left _ _ d j) t (waits_more hs h _ q e)) k i
      | inr i ↦ f T (λ q e. start q (new_waits_wait hs h q e)) (λ d q j t e. step d q (join_right _ _ d j) t (waits_more hs h _ q e)) k i
    ]

-- the stored value
pub offered_stored : (hs : List Holding) (h : Holding) (x : Assumption) → commits_of x ≡ 0 → ((k : ℕ) → AbortIn x k → has (new_waits hs h) k ≡ true) → Offered hs h x
unfolding Follows
offered_stored hs h x none d T start step k (inl c) = none_in k (ap (λ n. has n k) (sym none) ∙ c)
offered_stored hs h x none d T start step k (inr c) = start k (d k c)

-- a version v of the maker m, and the makers after it
pub offered_version : (hs : List Holding) (h : Holding) (m l : ℕ) (v : Assumption) → Linked hs m v → has (new_waits hs h) m ≡ true → ((k : ℕ) → has l k ≡ true → has (new_waits hs h) k ≡ true)
    → Offered hs h (assume (commits_of v) (join (aborts_of v) l))
unfolding Follows
offered_version hs h m l v c i d T start step k (inl e) = c T (λ q f. start q (grind (arith, i, f))) step k (inl e)
offered_version hs h m l v c i d T start step k (inr e) = elim (join_cases _ _ k e) [ inl f ↦ c T (λ q n. start q (grind (arith, i, n))) step k (inr f) | inr f ↦ start k (d k f) ]

-- ---- an image
pub linked_version : (hs : List Holding) (j : ℕ) (a : Assumption) → Chained hs j a → Linked hs j (assume (join (commits_of a) (single j)) (aborts_of a))
unfolding Follows
linked_version hs j a c T start step k s =
    let own : has (join (commits_of a) (single j)) j ≡ true = join_right _ _ j (single_in j j refl) in
    let all : AssumedIn a k → T k ≡ true = c T (λ q e. step j q own (start j refl) e) (λ d q i t e. step d q (join_left _ _ d i) t e) k in
    grind (arith, s, all, join_cases (commits_of a) (single j) k, in_single j k, start j refl)

-- ---- the end of job k
module _ (hs : List Holding) (k : ℕ) where
  -- k is none of a's commits, or waits for none
  abbrev pub Stops : Assumption → Type 0
  Stops a = CommitIn a k → (q : ℕ) → has (waits hs k) q ≡ true → ⊥

  abbrev with : (ℕ → Bool) → ℕ → Bool
  with T q = eqb q k || T q

  assumed_settled : (a : Assumption) (q : ℕ) → AssumedIn (settled k a) q → AssumedIn a q × (q ≡ k → ⊥)
  assumed_settled a q i = grind (arith, i, in_without_one (commits_of a) k q, in_without_one (aborts_of a) k q)

  closes_with : (a : Assumption) (T : ℕ → Bool) → Stops a → Closes (rest k hs) (settled k a) T → Closes hs a (with T)
  closes_with a T s step c q i t e = grind (arith, s, i, t, e, step c q, without_one_in (commits_of a) k c, rest_waits k hs c q)

  follows_settled : (S U : ℕ → Type 0) (a : Assumption) → ((q : ℕ) → S q → (q ≡ k → ⊥) → U q) → Stops a → Follows hs S a → Follows (rest k hs) U (settled k a)
  unfolding Follows
  follows_settled S U a f s c T start step q i =
      let b = assumed_settled a q i in
      let new : (d : ℕ) → S d → with T d ≡ true = λ d e. elim (cases_eq d k) [ inl n ↦ or_left _ _ (eq-eqb d k n) | inr n ↦ or_right _ _ (start d (f d e n)) ] in
      grind (arith, b.1, c (with T) new (closes_with a T s step) q b.0)

  pub chained_settled : (j : ℕ) (a : Assumption) → (j ≡ k → ⊥) → Stops a → Chained hs j a → Chained (rest k hs) j (settled k a)
  chained_settled j a m = follows_settled _ _ a (λ q e n. rest_waits k hs j q m n e)

  pub linked_settled : (j : ℕ) (a : Assumption) → Stops a → Linked hs j a → Linked (rest k hs) j (settled k a)
  linked_settled j a = follows_settled _ _ a (λ q e n. e)

-- ---- a job that waits for none assumes nothing
pub waits_none_assumes_none : (hs : List Holding) (j : ℕ) (a : Assumption) → Chained hs j a → waits hs j ≡ 0 → (k : ℕ) → AssumedIn a k → ⊥
unfolding Follows
waits_none_assumes_none hs j a c none k s =
    both_ways false refl (c (λ q. false) (λ q e. none_in q (ap (λ n. has n q) (sym none) ∙ e)) (λ d q i t e. t) k s)

-- and its versions assume only itself
pub waits_none_assumes_itself : (hs : List Holding) (j : ℕ) (a : Assumption) → Linked hs j a → waits hs j ≡ 0 → (k : ℕ) → AssumedIn a k → k ≡ j
unfolding Follows
waits_none_assumes_itself hs j a c none k s =
    eqb-true k j (c (λ q. eqb q j) (λ q e. eq-eqb q j (sym e)) (λ d q i t e. none_in q (ap (λ n. has n q) (sym (ap (waits hs) (eqb-true d j t) ∙ none)) ∙ e)) k s)

-- where the waits have no ring, no job assumes anything of itself: all that it assumes about is of lower rank
pub never_assumes_itself : (hs : List Holding) (rank : ℕ → ℕ) → ((a k : ℕ) → has (waits hs a) k ≡ true → rank k < rank a) → (j : ℕ) (a : Assumption) → Chained hs j a → AssumedIn a j → ⊥
unfolding Follows
never_assumes_itself hs rank falls j a c i =
    let l = ltb-true _ _ (c (λ q. ltb (rank q) (rank j)) (λ q e. lt-ltb _ _ (falls j q e))
    (λ d q k t e. let u = ltb-true (rank d) (rank j) t in let v = falls d q e in lt-ltb _ _ (omega arith)) j i) in
    omega arith

-- ---- conflict
-- some job is taken to commit by one and to abort by the other
abbrev pub Conflict : Assumption → Assumption → Type 0
Conflict a b = (k : ℕ) × ((CommitIn a k × AbortIn b k) ⊎ (AbortIn a k × CommitIn b k))

-- b takes all that a takes
pub record Within (a b : Assumption) : Type 0 where
  pub on_commits : (k : ℕ) → CommitIn a k → CommitIn b k
  pub on_aborts : (k : ℕ) → AbortIn a k → AbortIn b k

pub conflict_within : (a b c d : Assumption) → Within a c → Within b d → Conflict a b → Conflict c d
conflict_within a b c d f g x = (x.0, grind (arith, x.1, f.on_commits x.0, f.on_aborts x.0, g.on_commits x.0, g.on_aborts x.0))

-- two that survive the end of k still conflict
pub conflict_settled : (w : Ending) (k : ℕ) (a b : Assumption) → survives w k a ≡ true → survives w k b ≡ true → Conflict a b → Conflict (settled k a) (settled k b)
conflict_settled Committed k a b s t x = (x.0, grind (arith, s, t, x.1, without_one_in (commits_of a) k x.0, without_one_in (commits_of b) k x.0, without_one_in (aborts_of a) k x.0, without_one_in (aborts_of b) k x.0))
conflict_settled Aborted k a b s t x = (x.0, grind (arith, s, t, x.1, without_one_in (commits_of a) k x.0, without_one_in (commits_of b) k x.0, without_one_in (aborts_of a) k x.0, without_one_in (aborts_of b) k x.0))

pub within_settled : (k : ℕ) (a b : Assumption) → Within a b → Within (settled k a) (settled k b)
within_settled k a b f = record {
  on_commits = λ q e. let l = in_without_one _ k q e in without_one_in _ k q (f.on_commits q l.0) l.1;
  on_aborts = λ q e. let l = in_without_one _ k q e in without_one_in _ k q (f.on_aborts q l.0) l.1;
}

-- what is within a survivor survives
pub within_survives : (w : Ending) (k : ℕ) (a b : Assumption) → Within a b → survives w k b ≡ true → survives w k a ≡ true
within_survives Committed k a b f s = grind (arith, s, f.on_aborts k)
within_survives Aborted k a b f s = grind (arith, s, f.on_commits k)
