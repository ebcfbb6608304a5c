-- The objects of an image of bytes: a word of eight bytes each, the highest first.
use Rattle.std.specs.Prelude.{ℕ, ◌+◌, ◌*◌, ◌/◌, ◌≤◌, cond, List, ◌++◌, map, length, take, drop, nat_lt}
use Rattle.std.specs.Int.{from_be_bytes, to_be_bytes, w64}
use Rattle.std.specs.Simd.{first_chunks}
use Rattle.std.proofs.Common.{length-take, arith}
use Rattle.std.proofs.lemmas.List.{length-map}

-- the words of the objects: one for each eight bytes, and at most 65,536
unfoldable pub image_words : List ℕ → List (List ℕ)
image_words image = take 65536 (first_chunks 8 (length image / 8) image)

-- the values of the objects: the numbers that the words spell
unfoldable pub image_values : List ℕ → List ℕ
image_values image = map (from_be_bytes w64) (image_words image)

-- the image with the eight bytes from a place on replaced by those that spell a number
abbrev pub word_put : List ℕ → ℕ → ℕ → List ℕ
word_put image place value = take place image ++ (to_be_bytes w64 value ++ drop (place + 8) image)

-- the image after a write: the object's eight bytes are replaced where there is that object
abbrev pub image_written : List ℕ → ℕ → ℕ → List ℕ
image_written image object value = cond (nat_lt object (length (image_values image))) (word_put image (8 * object) value) image

-- there are at most 65,536
few : (words : List (List ℕ)) → length (map (from_be_bytes w64) (take 65536 words)) ≤ 65536
few words = omega (arith, length-map (take 65536 words) (from_be_bytes w64), length-take 65536 words)

pub image_short : (image : List ℕ) → length (image_values image) ≤ 65536
unfolding image_words image_values
image_short image = few (first_chunks 8 (length image / 8) image)
