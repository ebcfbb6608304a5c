-- The invariant of the book beside the plain run, kept by every call; and from it a running job that waits for none.
use Rattle.std.proofs.Common.{◌≡◌, ℕ, suc, List, [], None, sym, refl, subst, inl, inr, arith}
use Rattle.terms.specs.declared.calls.Call.{Call}
use Rattle.terms.specs.declared.calls.Call.TheVariants.{Begin, Lock, Image, Commit, Abort}
use Rattle.protocol.specs.Holdings.{waits, begins}
use Rattle.protocol.specs.Model.{Model, new}
use Rattle.protocol.specs.PlainRun.{Plain, plain_one}
use Rattle.protocol.specs.Settling.{settle}
use Rattle.protocol.specs.Step.{next, answer}
use Rattle.terms.specs.Rule.{Rule}
use Rattle.protocol.specs.declared.jobs.Ending.TheVariants.{Committed, Aborted}
use Rattle.protocol.specs.Ranks.{Acyclic}
use Rattle.protocol.specs.RingTest.{OfPlaces}
use Rattle.protocol.proofs.Running.{Runs}
use Rattle.protocol.proofs.Waiting.{waits_turn, waits_rest}
use Rattle.protocol.proofs.Ranks.{acyclic_none, acyclic_fewer, acyclic_push, free}
use Rattle.protocol.proofs.Accepted.{begin_accepted, lock_accepted, image_accepted, commit_accepted, abort_accepted}
use Rattle.protocol.proofs.WellFormed.{WellFormed, runs_small, well_formed_new, well_formed_begin, well_formed_lock, well_formed_image, well_formed_settle}
use Rattle.protocol.proofs.Writing.{length_written}
use Rattle.protocol.proofs.Consistent.{Consistent, consistent_new, consistent_begin, consistent_lock, consistent_image, consistent_settle}
use Rattle.protocol.proofs.Faithful.{Faithful, faithful_new, faithful_begin}
use Rattle.protocol.proofs.FaithfulLock.{faithful_lock}
use Rattle.protocol.proofs.FaithfulImage.{faithful_image}
use Rattle.protocol.proofs.FaithfulEnd.{faithful_abort, faithful_commit}

-- the book m, and the plain run s of the same past
pub record Invariant (r : Rule) (m : Model) (s : Plain) : Type 0 where
  -- the records fit together
  pub well_formed : WellFormed m
  -- acyclic: no ring of waits
  pub acyclic : Acyclic m.holdings
  -- sound, chained and apart
  pub consistent : Consistent m
  -- plain, work, made and met
  pub faithful : Faithful r m s

pub invariant_new : (r : Rule) (x l : ℕ) (values : List ℕ) → Invariant r (new x l values) (record { values = values; pending = [] })
unfolding new
invariant_new r x l values = record { well_formed = well_formed_new x l values; acyclic = acyclic_none; consistent = consistent_new x l values; faithful = faithful_new r x l values }

-- holdings are of jobs at the sixteen places
pub of_places : (m : Model) → WellFormed m → OfPlaces m.holdings
of_places m s h i = runs_small m s h.job (s.held_by h i).0

-- an accepted call keeps it
pub invariant_next : (r : Rule) (m : Model) (s : Plain) (c : Call) → answer r m c ≡ None → Invariant r m s → Invariant r (next r m c) (plain_one r s c)
unfolding next settle
invariant_next r m s (Begin p k a) e i =
    let b = begin_accepted r m p k a e in
    record { well_formed = well_formed_begin r m p k a b i.well_formed; acyclic = i.acyclic; consistent = consistent_begin r m p k a b i.well_formed i.consistent; faithful = faithful_begin r m s p k a b i.well_formed i.faithful }
invariant_next r m s (Lock p o mode) e i =
    let b = lock_accepted r m p o mode e in
    record {
      well_formed = well_formed_lock r m p o mode b i.well_formed;
      acyclic = acyclic_push m.holdings (record { job = p; object = o; state = begins mode }) (of_places m i.well_formed) b.ring i.acyclic;
      consistent = consistent_lock r m p o mode b i.well_formed i.consistent;
      faithful = faithful_lock r m s p o mode b i.well_formed i.faithful;
    }
invariant_next r m s (Image p o) e i =
    let b = image_accepted r m p o e in
    record {
      well_formed = well_formed_image r m p o b i.well_formed;
      acyclic = acyclic_fewer m.holdings _ (waits_turn p o m.holdings) i.acyclic;
      consistent = consistent_image r m p o b i.well_formed i.acyclic i.consistent;
      faithful = faithful_image r m s p o b i.well_formed i.faithful;
    }
invariant_next r m s (Commit p) e i =
    let b = commit_accepted r m p e in
    record {
      well_formed = well_formed_settle Committed p _ m (length_written p m.versions m.holdings m.values) i.well_formed;
      acyclic = acyclic_fewer m.holdings _ (waits_rest p m.holdings) i.acyclic;
      consistent = consistent_settle Committed p _ m i.consistent b.free;
      faithful = faithful_commit r m s p b i.well_formed i.consistent i.faithful;
    }
invariant_next r m s (Abort p) e i =
    record {
      well_formed = well_formed_settle Aborted p m.values m refl i.well_formed;
      acyclic = acyclic_fewer m.holdings _ (waits_rest p m.holdings) i.acyclic;
      consistent = consistent_settle Aborted p m.values m i.consistent tt;
      faithful = faithful_abort r m s p (abort_accepted r m p e) i.well_formed i.consistent i.faithful;
    }

-- where a job runs, some running job waits for none
pub free_job : (r : Rule) (m : Model) (s : Plain) → Invariant r m s → (p : ℕ) → Runs m p → (q : ℕ) × Runs m q × (waits m.holdings q ≡ 0)
free_job r m s i p h =
    let f = free m.holdings (of_places m i.well_formed) i.acyclic (suc (i.acyclic.rank p)) p (omega arith) in
    (f.0, elim f.2 [ inl e ↦ subst (Runs m) (sym e) h | inr g ↦ subst (Runs m) g.2 (i.well_formed.held_by g.0 g.1).0 ], f.1)
