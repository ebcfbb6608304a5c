-- The versions of an object that is there.
use Rattle.std.proofs.Common.{◌≡◌, ℕ, Bool, true, false, cond, ltb, List, [], ◌∷◌, length, get_or, Some, None, ap, arith}
use Rattle.terms.specs.Objects.{value_at}
use Rattle.book.specs.Questions.{stored_version}
use Rattle.book.specs.declared.state.questions.ObjectVersion.{ObjectVersion}

pub listed : (values : List ℕ) (o value : ℕ) (made : List ObjectVersion) → Some value ≡ value_at values o → stored_version value ∷ made ≡ cond (ltb o (length values)) (stored_version (get_or values o 0) ∷ made) []
listed values o value made e = go (ltb o (length values)) e
  where
    go : (b : Bool) → Some value ≡ cond b (Some (get_or values o 0)) None → stored_version value ∷ made ≡ cond b (stored_version (get_or values o 0) ∷ made) []
    go true e = let q : value ≡ get_or values o 0 = cc in ap (λ v. stored_version v ∷ made) q
    go false e = let z : ◌≡◌ {A = ℕ} 0 1 = cc in absurd (omega arith)
