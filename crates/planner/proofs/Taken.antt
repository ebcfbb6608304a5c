-- What a job that reads every object meets.
use Rattle.std.proofs.Common.{◌≡◌, ℕ, zero, suc, ◌+◌, List, ◌∷◌, length, drop, get_or, Some, None, Option, option_map, cond, sym, ap, ◌∙◌, arith}
use Rattle.std.specs.List.{range_with_len, fold, filter_map, cons_option, enumerate_from}
use Rattle.std.proofs.lemmas.Bool.{lt-ltb}
use Rattle.std.proofs.lemmas.List.{at_drop_more, at_drop_all}
use Rattle.std.proofs.lemmas.List.Folds.{fold-map}
use Rattle.terms.specs.Objects.{value_at}
use Rattle.terms.specs.Rule.{Rule}
use Rattle.terms.specs.declared.modes.Mode.TheVariants.{Read}
use Rattle.house.specs.Work.{worked, reads_from}

-- an object and its value, where there is that object
abbrev pub met_at : List ℕ → ℕ → Option (ℕ × ℕ)
met_at values object = option_map (λ met. (object, met)) (value_at values object)

-- the working value after an object and its value
abbrev pub taken : Rule → ℕ → ℕ → ℕ → ℕ × ℕ → ℕ
taken rule kind argument work place = rule.take kind argument work place.0 Read place.1

-- from an object on, every value is met, in order
met_from : (values : List ℕ) (n object : ℕ) → object + n ≡ length values → filter_map (met_at values) (range_with_len object n) ≡ enumerate_from object (drop object values)
met_from values zero object e = sym (at_drop_all (enumerate_from object) values object (omega arith))
met_from values (suc n) object e =
    ap (λ there. cons_option (option_map (λ met. (object, met)) (cond there (Some (get_or values object 0)) None)) (filter_map (met_at values) (range_with_len (object + 1) n))) (lt-ltb object (length values) (omega arith))
    ∙ ap (λ l. (object, get_or values object 0) ∷ l) (met_from values n (object + 1) (omega arith))
    ∙ sym (at_drop_more (enumerate_from object) values object 0 (omega arith))

pub all_taken : (rule : Rule) (kind argument work : ℕ) (values : List ℕ)
    → fold (taken rule kind argument) work (filter_map (met_at values) (range_with_len 0 (length values))) ≡ worked rule kind argument work (reads_from 0 values)
all_taken rule kind argument work values =
    ap (fold (taken rule kind argument) work) (met_from values (length values) 0 (omega arith))
    ∙ sym (fold-map _ _ work (enumerate_from 0 values))
