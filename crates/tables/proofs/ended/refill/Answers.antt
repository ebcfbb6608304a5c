use Rattle.std.proofs.Common.{rules, ◌≡◌, List, [], ◌∷◌, length, replicate, refl, ap, ◌∙◌, subst}
use Rattle.std.specs.List.{FoldsTo}
use Rattle.tables.proofs.ended.refill.Goals as goal

-- where each call gives the same and changes nothing, all is the same
filled : {F T : Type 0} (R : F → T → F → Type 0) (f : F) (empty : T) → ((x : T) (f' : F) → R f x f' → (x ≡ empty) × (f' ≡ f)) → (xs : List T) (last : F) → FoldsTo R f xs last → xs ≡ replicate (length xs) empty
filled R f empty h [] last e = refl
filled {F} {T} R f empty h (x ∷ xs) last (j, step, rest) =
    let here = h x j step in
    ap (λ k. k ∷ xs) here.0 ∙ ap (λ l. empty ∷ l) (filled R f empty h xs last (subst (λ s. FoldsTo R s xs last) here.1 rest))

pub returns : goal.returns
returns g c =
    filled _ _ c.args.empty (λ x k s. search rules) _ _ c.fill_with.ensures.ran.1 ∙ ap (λ n. replicate n c.args.empty) c.fill_with.ensures.len
