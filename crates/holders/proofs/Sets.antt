-- The sets of jobs that holdings give, one holding after another.
use Rattle.std.proofs.Common.{◌≡◌, ℕ, Bool, cond, not, ◌&&◌, eqb, List, [], ◌∷◌, refl}
use Rattle.protocol.specs.declared.holdings.Holding.{Holding}
use Rattle.std.specs.List.{list_any}
use Rattle.protocol.specs.Holdings.{jobs_of, waits, clash}
use Rattle.protocol.specs.Places.{single, join}

module _ (t : Holding → Bool) where
  pub jobs_none : jobs_of t [] ≡ 0
  unfolding jobs_of
  jobs_none = refl

  pub jobs_more : (h : Holding) (hs : List Holding) → jobs_of t (h ∷ hs) ≡ join (cond (t h) (single h.job) 0) (jobs_of t hs)
  unfolding jobs_of
  jobs_more h hs = refl

-- job p waits for the job of holding g, another, on account of one of its own among those behind it
abbrev pub blocks : ℕ → Holding → List Holding → Bool
blocks p g hs = not (eqb g.job p) && list_any (λ h. eqb h.job p && clash g h) hs

module _ (p : ℕ) where
  pub waits_none : waits [] p ≡ 0
  unfolding waits
  waits_none = refl

  pub waits_more : (g : Holding) (hs : List Holding) → waits (g ∷ hs) p ≡ join (cond (blocks p g hs) (single g.job) 0) (waits hs p)
  unfolding waits
  waits_more g hs = refl
