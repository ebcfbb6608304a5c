-- How a call or a setup is written as a line, without the line feed. Numbers are in decimal.
use Rattle.std.specs.Prelude.{ℕ, List, [], ◌∷◌, ◌++◌, codes, decimal}
use Rattle.terms.specs.declared.calls.Call.{Call}
use Rattle.terms.specs.declared.calls.Call.TheVariants.{Begin, Lock, Image, Commit, Abort}
use Rattle.terms.specs.declared.modes.Mode.{Mode}
use Rattle.script.specs.Letters.{mode_letter, rule_letter, store_letter}
use Rattle.script.specs.declared.setups.RuleName.{RuleName}
use Rattle.script.specs.declared.setups.Setup.{Setup}
use Rattle.script.specs.declared.setups.StoreName.{StoreName}

-- the letter of a mode
abbrev pub mode_bytes : Mode → List ℕ
mode_bytes mode = mode_letter mode ∷ []

-- the line of a call
abbrev pub call_bytes : Call → List ℕ
call_bytes (Begin place kind argument) = codes "B," ++ (decimal place ++ (codes "," ++ (decimal kind ++ (codes "," ++ decimal argument))))
call_bytes (Lock place object mode) = codes "L," ++ (decimal place ++ (codes "," ++ (decimal object ++ (codes "," ++ mode_bytes mode))))
call_bytes (Image place object) = codes "I," ++ (decimal place ++ (codes "," ++ decimal object))
call_bytes (Commit place) = codes "C," ++ decimal place
call_bytes (Abort place) = codes "A," ++ decimal place

-- the letter of a rule
abbrev pub rule_bytes : RuleName → List ℕ
rule_bytes rule = rule_letter rule ∷ []

-- the letter of a store
abbrev pub store_bytes : StoreName → List ℕ
store_bytes store = store_letter store ∷ []

-- the line of a setup
abbrev pub setup_bytes : Setup → List ℕ
setup_bytes s =
    codes "S," ++ (rule_bytes s.rule ++ (codes "," ++ (store_bytes s.store ++ (codes "," ++ (decimal s.robustness ++ (codes "," ++ (decimal s.limit ++ (codes "," ++ decimal s.objects))))))))
