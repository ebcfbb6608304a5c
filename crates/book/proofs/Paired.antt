-- The model's pairs, from what the code has at hand.
use Rattle.std.proofs.Common.{◌≡◌, ℕ, List, [], ◌∷◌, ◌++◌, map, get_or, Some, Option, sym, ap, ◌∙◌}
use Rattle.std.specs.Prelude.{filter}
use Rattle.protocol.specs.declared.assumptions.Execution.{Execution}
use Rattle.protocol.specs.declared.holdings.Holding.{Holding}
use Rattle.protocol.specs.declared.jobs.Job.{Job}
use Rattle.terms.specs.declared.modes.Mode.{Mode}
use Rattle.protocol.specs.declared.assumptions.Offer.{Offer}
use Rattle.protocol.specs.declared.assumptions.Version.{Version}
use Rattle.protocol.specs.Holdings.{makers}
use Rattle.protocol.specs.Assumptions.{assume}
use Rattle.protocol.specs.Model.{Model, names, holding_count, job_at, kind_of, argument_of}
use Rattle.protocol.specs.Pairing.{pairs, pair, pairing, kept_pairs, offers, offer, of_object}
use Rattle.terms.specs.Rule.{Rule}

offers_by : (m : Model) (o v : ℕ) (hs : List Holding) (vs : List Version) → v ≡ get_or m.values o 0 → hs ≡ m.holdings → vs ≡ m.versions
    → (record { value = v; assumes = assume 0 (makers o hs) }) ∷ map (offer hs o) (filter (of_object o) vs) ≡ offers m o
unfolding offers
offers_by m o v hs vs a b c =
    ap (λ (v : ℕ). (record { value = v; assumes = assume 0 (makers o hs) }) ∷ map (offer hs o) (filter (of_object o) vs)) a
    ∙ ap (λ hs. (record { value = get_or m.values o 0; assumes = assume 0 (makers o hs) }) ∷ map (offer hs o) (filter (of_object o) vs)) b
    ∙ ap (λ vs. (record { value = get_or m.values o 0; assumes = assume 0 (makers o m.holdings) }) ∷ map (offer m.holdings o) (filter (of_object o) vs)) c

paired_by : (r : Rule) (m : Model) (p o : ℕ) (mode : Mode) (j : Job) (n : ℕ) (xs : List Offer) (es : List Execution)
    → job_at m p ≡ Some j → n ≡ holding_count m p → xs ≡ offers m o → es ≡ m.executions
    → pairs m.robustness (pair n (λ w v. r.take j.kind j.argument w o mode v)) xs (filter (names p) es) ≡ kept_pairs r m p o mode
unfolding kept_pairs
paired_by r m p o mode j n xs es a b c d =
    ap (λ n. pairs m.robustness (pair n (λ w v. r.take j.kind j.argument w o mode v)) xs (filter (names p) es)) b
    ∙ ap (λ (j : Option Job). pairs m.robustness (pair (holding_count m p) (λ w v. r.take (kind_of j) (argument_of j) w o mode v)) xs (filter (names p) es)) (sym a)
    ∙ ap (λ xs. pairs m.robustness (pairing r m p o mode) xs (filter (names p) es)) c
    ∙ ap (λ es. pairs m.robustness (pairing r m p o mode) (offers m o) (filter (names p) es)) d

-- the same, from the records that were at hand
pub weighed : (r : Rule) (m : Model) (p o : ℕ) (mode : Mode) (j : Job) (n v : ℕ) (hs : List Holding) (vs : List Version) (xs : List Offer) (es before : List Execution)
    → job_at m p ≡ Some j → n ≡ holding_count m p → v ≡ get_or m.values o 0 → hs ≡ m.holdings → vs ≡ m.versions → es ≡ m.executions → before ≡ []
    → xs ≡ (record { value = v; assumes = assume 0 (makers o hs) }) ∷ map (offer hs o) (filter (of_object o) vs)
    → before ++ pairs m.robustness (pair n (λ w v. r.take j.kind j.argument w o mode v)) xs (filter (names p) es) ≡ kept_pairs r m p o mode
weighed r m p o mode j n v hs vs xs es before a b d e f h i k =
    ap (λ l. l ++ pairs m.robustness (pair n (λ w v. r.take j.kind j.argument w o mode v)) xs (filter (names p) es)) i ∙ paired_by r m p o mode j n xs es a b (k ∙ offers_by m o v hs vs d e f) h
