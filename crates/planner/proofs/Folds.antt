-- What `try_fold` returns where its closure tells, of the total so far and an item, the next total.
use Rattle.std.proofs.Common.{◌≡◌, List, [], ◌∷◌, Some, None, Option, ControlFlow, sym, refl, subst, ap, ◌∙◌}
use Rattle.std.specs.Fn.{Called}
use Rattle.std.specs.ControlFlow.{continue_value}
use Rattle.std.specs.Iterator.{AlwaysYields, Yields, TryFoldsItems}
use Rattle.std.specs.List.{FoldsTo}
use Rattle.std.specs.Option.{option_and_then, MatchOption}
use Rattle.std.proofs.lemmas.Iterator.{YieldsList}
use denote.Param.Members.{Mut}

-- the total over the items, unless one is refused
abbrev pub tried : {B C : Type 0} → (C → B → Option C) → C → List B → Option C
tried h a [] = Some a
tried h a (x ∷ xs) = option_and_then (λ b. tried h b xs) (h a x)

module _ {S A B C F : Type 0} (E : Type 0) (steps : S → Option A → S → Type 0) (v : A → B) (g : Mut F (C × (A × Unit {0})) (Option C)) (h : C → B → Option C) (f : F)
    (k : (a : C) (x : A) (r : Option C) (q : F) → Called g f (a, (x, tt)) r q → (q ≡ f) × (r ≡ h a (v x))) where
  abbrev Turn : F × C → A → F × C → Type 0
  Turn p x q = (r : Option C) × Called g p.0 (p.1, (x, tt)) r q.0 × (r ≡ Some q.1)

  -- what follows the turns that went on: no item, or one that is refused
  abbrev Ends : Option A → F × C → Option C → Type 0
  Ends o q r = MatchOption o (r ≡ Some q.1) (λ x. (w : Option C) × (j : F) × (e : E) × Called g q.0 (q.1, (x, tt)) w j × (w ≡ None) × (r ≡ None))

  told : (p : F) (a : C) (x : A) (r : Option C) (q : F) → p ≡ f → Called g p (a, (x, tt)) r q → (q ≡ f) × (r ≡ h a (v x))
  told p a x r q e c = k a x r q (subst (λ w. Called g w (a, (x, tt)) r q) e c)

  over : (xs : List A) (all : List B) (s t u : S) (o : Option A) (p q : F × C) (r : Option C) → p.0 ≡ f → AlwaysYields steps v s all → Yields steps s xs t → FoldsTo Turn p xs q → steps t o u → Ends o q r → r ≡ tried h p.1 all
  over [] [] s t u None p q r e y w c n d = d ∙ ap (λ (z : F × C). Some z.1) (sym c)
  over [] [] s t u (Some x) p q r e y w c n d = absurd (y x u (subst (λ z. steps z (Some x) u) (sym w) n))
  over [] (z ∷ all) s t u None p q r e y w c n d = absurd (y.0 u (subst (λ z. steps z None u) (sym w) n))
  over [] (z ∷ all) s t u (Some x) p q r e y w c n d =
      let end = subst (λ (j : F × C). Ends (Some x) j r) (sym c) d in
      let is = (y.1 x u (subst (λ z. steps z (Some x) u) (sym w) n)).0 in
      let one = (told p.0 p.1 x end.0 end.1 e end.3).1 in
      end.5 ∙ ap (option_and_then (λ b. tried h b all)) (sym end.4 ∙ one ∙ ap (h p.1) is)
  over (x ∷ xs) [] s t u o p q r e y w c n d = absurd (y x w.0 w.1)
  over (x ∷ xs) (z ∷ all) s t u o p q r e y w c n d =
      let next = y.1 x w.0 w.1 in
      let one = told p.0 p.1 x c.1.0 c.0.0 e c.1.1 in
      over xs all w.0 t u o c.0 q r one.0 next.1 w.2 c.2 n d ∙ ap (option_and_then (λ b. tried h b all)) (sym c.1.2 ∙ one.1 ∙ ap (h p.1) next.0)

pub try_fold_from_yields_List : {S A B C F E : Type 0} {steps : S → Option A → S → Type 0} {v : A → B} {s : S} {all : List B} (g : Mut F (C × (A × Unit {0})) (Option C)) (h : C → B → Option C) {f : F} (init : C) (r : Option C) (u : S)
    → TryFoldsItems steps g (λ w (c : ControlFlow E C). w ≡ continue_value c) (λ (_ : E) w. w ≡ None) s f init r u → YieldsList steps v s all
    → ((a : C) (x : A) (w : Option C) (q : F) → Called g f (a, (x, tt)) w q → (q ≡ f) × (w ≡ h a (v x))) → r ≡ tried h init all
try_fold_from_yields_List {S} {A} {B} {C} {F} {E} {steps} {v} {s} {all} g h {f} init r u d y k = over E steps v g h f k d.0 all s d.4.0 u d.1 (f, init) (d.2, d.3) r refl y.runs d.4.1 d.5 d.4.2 d.6
