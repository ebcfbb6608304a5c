-- The objects of an image.
use Rattle.std.proofs.Common.{◌≡◌, ℕ, zero, suc, ◌+◌, ◌*◌, ◌/◌, ◌^◌, ◌<◌, ◌≤◌, min, List, ◌∷◌, ◌++◌, map, length, take, drop, set, replicate, sym, refl, ap, ap₂, ◌∙◌, append_assoc, length-append, length-take, length-drop, arith}
use Rattle.std.specs.Int.{from_be_bytes, to_be_bytes, w64}
use Rattle.std.specs.Simd.{first_chunks}
use Rattle.std.proofs.lemmas.List.{length-map, map-set, take-append-drop, take-take, drop-take, drop-drop, length-take-le, length-replicate, replicate-append-replicate}
use Rattle.std.proofs.Math.Seq.{take-append_seam, drop-append_seam}
use Rattle.std.proofs.lemmas.Nat.{from_be_bytes-to_be_bytes_8}
use Rattle.stores.specs.Image.{image_words, image_values, word_put}
use Rattle.stores.proofs.Firsts.{take_set, take_alike, map_alike}

chunks_many : {X : Type 0} (n k : ℕ) (xs : List X) → length (first_chunks n k xs) ≡ k
chunks_many n zero xs = refl
chunks_many n (suc k) xs = ap (λ (j : ℕ). suc j) (chunks_many n k (drop n xs))

pub image_length : (bs : List ℕ) → length (image_values bs) ≡ min 65536 (length bs / 8)
unfolding image_words image_values
image_length bs =
    let chunks = first_chunks 8 (length bs / 8) bs in
    length-map (take 65536 chunks) (from_be_bytes w64) ∙ length-take 65536 chunks ∙ ap (min 65536) (chunks_many 8 (length bs / 8) bs)

-- a word stands before the other chunks
chunks_after : (n : ℕ) (word rest : List ℕ) → length word ≡ 8 → first_chunks 8 (suc n) (word ++ rest) ≡ word ∷ first_chunks 8 n rest
chunks_after n word rest long =
    ap₂ ◌∷◌ (ap (λ k. take k (word ++ rest)) (sym long) ∙ take-append_seam word rest)
    (ap (first_chunks 8 n) (ap (λ k. drop k (word ++ rest)) (sym long) ∙ drop-append_seam word rest))

-- one chunk is replaced
chunks_put : (n k : ℕ) (bs word : List ℕ) → length word ≡ 8 → k < n → 8 * n ≤ length bs
    → first_chunks 8 n (take (8 * k) bs ++ (word ++ drop (8 * k + 8) bs)) ≡ set (first_chunks 8 n bs) k word
chunks_put zero k bs word long within fits = absurd (omega arith)
chunks_put (suc n) zero bs word long within fits = chunks_after n word (drop 8 bs) long
chunks_put (suc n) (suc k) bs word long within fits =
    let tail = drop 8 bs in
    let more : 8 * suc k ≡ 8 + 8 * k = omega arith in
    let past : 8 * suc k + 8 ≡ 8 + (8 * k + 8) = omega arith in
    let front : take (8 * suc k) bs ≡ take 8 bs ++ take (8 * k) tail =
    ap (λ m. take m bs) more ∙ sym (take-append-drop 8 (take (8 + 8 * k) bs)) ∙ ap₂ ◌++◌ (take-take 8 (8 + 8 * k) bs (omega arith)) (drop-take 8 (8 * k) bs) in
    let back : drop (8 * suc k + 8) bs ≡ drop (8 * k + 8) tail = ap (λ m. drop m bs) past ∙ sym (drop-drop (8 * k + 8) 8 bs) in
    ap₂ (λ f b. first_chunks 8 (suc n) (f ++ (word ++ b))) front back
    ∙ ap (first_chunks 8 (suc n)) (append_assoc (take 8 bs) (take (8 * k) tail) (word ++ drop (8 * k + 8) tail))
    ∙ chunks_after n (take 8 bs) (take (8 * k) tail ++ (word ++ drop (8 * k + 8) tail)) (length-take-le 8 bs (omega arith))
    ∙ ap (λ l. take 8 bs ∷ l) (chunks_put n k tail word long (omega arith) (omega (arith, length-drop 8 bs)))

put_long : (bs word : List ℕ) (p : ℕ) → length word ≡ 8 → p + 8 ≤ length bs → length (take p bs ++ (word ++ drop (p + 8) bs)) ≡ length bs
put_long bs word p long fits = simp (length-append, length-take, length-drop) (omega arith)

-- the bytes of the objects are the image's
pub values_fit : (bs : List ℕ) → 8 * length (image_values bs) ≤ length bs
values_fit bs = omega (arith, image_length bs)

values_put : (bs : List ℕ) (k v : ℕ) → k < length (image_values bs) → v < 2 ^ 64 → image_values (word_put bs (8 * k) v) ≡ set (image_values bs) k v
unfolding image_words image_values
values_put bs k v within small =
    let n = length bs / 8 in
    let word = to_be_bytes w64 v in
    let put = word_put bs (8 * k) v in
    let inside : k < n = omega (arith, image_length bs) in
    let same : length put / 8 ≡ n = ap (λ m. m / 8) (put_long bs word (8 * k) refl (omega arith)) in
    ap (λ m. map (from_be_bytes w64) (take 65536 (first_chunks 8 m put))) same
    ∙ ap (λ l. map (from_be_bytes w64) (take 65536 l)) (chunks_put n k bs word refl inside (omega arith))
    ∙ ap (map (from_be_bytes w64)) (take_set 65536 (first_chunks 8 n bs) k word)
    ∙ map-set (from_be_bytes w64) (take 65536 (first_chunks 8 n bs)) k word
    ∙ ap (set (map (from_be_bytes w64) (take 65536 (first_chunks 8 n bs))) k) (from_be_bytes-to_be_bytes_8 v small)

-- what an image holds once the word of an object is replaced
pub values_written : (bs written : List ℕ) (k v : ℕ) → written ≡ word_put bs (8 * k) v → k < length (image_values bs) → v < 2 ^ 64 → image_values written ≡ set (image_values bs) k v
values_written bs written k v e within small = ap image_values e ∙ values_put bs k v within small

chunks_zeros : (n : ℕ) → first_chunks 8 n (replicate {A = ℕ} (n * 8) 0) ≡ replicate n (replicate 8 0)
chunks_zeros zero = refl
chunks_zeros (suc n) =
    let more : suc n * 8 ≡ 8 + n * 8 = omega arith in
    ap (λ m. first_chunks 8 (suc n) (replicate m 0)) more ∙ ap (first_chunks 8 (suc n)) (sym (replicate-append-replicate 8 (n * 8) 0))
    ∙ chunks_after n (replicate 8 0) (replicate (n * 8) 0) refl ∙ ap (λ l. replicate 8 0 ∷ l) (chunks_zeros n)

-- the objects of an image of zeros
pub image_zeros : (n : ℕ) → image_values (replicate (n * 8) 0) ≡ replicate (min 65536 n) 0
unfolding image_words image_values
image_zeros n =
    let long : length (replicate {A = ℕ} (n * 8) 0) ≡ n * 8 = length-replicate (n * 8) 0 in
    let many : length (replicate {A = ℕ} (n * 8) 0) / 8 ≡ n = omega arith in
    ap (λ m. map (from_be_bytes w64) (take 65536 (first_chunks 8 m (replicate (n * 8) 0)))) many
    ∙ ap (λ l. map (from_be_bytes w64) (take 65536 l)) (chunks_zeros n)
    ∙ ap (map (from_be_bytes w64)) (take_alike 65536 n (replicate 8 0))
    ∙ map_alike (from_be_bytes w64) (min 65536 n) (replicate 8 0)
