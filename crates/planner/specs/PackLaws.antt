-- What may be counted on in packs as text.
use Rattle.std.specs.Prelude.{◌≡◌, ℕ, ◌^◌, ◌<◌, ◌≤◌, List, [], ◌∷◌, ◌++◌, length, Ok, decimal}
use Rattle.std.specs.List.{AllByRecursion, flat_map}
use Rattle.planner.specs.Packs.{packs_of}

-- packs as text: each in decimal digits, ended by a line feed
abbrev pub written : List ℕ → List ℕ
written packs = flat_map (λ pack. decimal pack ++ (10 ∷ [])) packs

-- so many packs of 64 bits or fewer, written as text, are read back as they were
abbrev pub ReadsBack : ℕ → Type 0
ReadsBack most = (packs : List ℕ) → AllByRecursion (λ pack. pack < 2 ^ 64) packs → length packs ≤ most → packs_of (written packs) ≡ Ok packs
