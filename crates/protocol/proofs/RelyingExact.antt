-- Who comes to rely on whom by one accepted call.
use Rattle.std.proofs.Common.{◌≡◌, ℕ, Bool, true, not, ◌&&◌, eqb, ◌⊎◌, ◌↔◌, List, [], ◌∷◌, sym, refl, ap, ◌∙◌, subst, inl, inr, arith}
use Rattle.std.specs.Prelude.{flat_map, filter}
use Rattle.std.proofs.lemmas.List.Folds.{list_any-append}
use Rattle.std.proofs.lemmas.Bool.{eqb-true, eqb-false, eq-eqb, ne_eqb, not-true, and_parts, and_from}
use Rattle.terms.specs.declared.calls.Call.TheVariants.{Lock}
use Rattle.terms.specs.declared.modes.Mode.{Mode}
use Rattle.protocol.specs.declared.holdings.Holding.{Holding}
use Rattle.protocol.specs.declared.jobs.Ending.{Ending}
use Rattle.protocol.specs.History.{History, Rely, Ended, history_one, relies_on, has_ended, gains, ends}
use Rattle.protocol.specs.Holdings.{makes}
use Rattle.protocol.specs.Lists.{In}
use Rattle.protocol.specs.PairingLaws.{Makes}
use Rattle.protocol.specs.RelyingLaws.{ComesToRely, RelyingLaws}
use Rattle.protocol.proofs.Lists.{in_each, in_filter, filter_in, in_map, map_in, any_in, in_any, each_in, append_left, append_right, append_cases}

-- a rely is of job i on job x
abbrev is_rely : ℕ → ℕ → Rely → Bool
is_rely i x r = eqb r.job i && eqb r.on x

rely_in : (rs : List Rely) (i x : ℕ) → relies_on rs i x ≡ true → (r : Rely) × In r rs × (r.job ≡ i) × (r.on ≡ x)
unfolding relies_on
rely_in rs i x e = grind (arith, any_in (is_rely i x) rs e)

in_rely : (rs : List Rely) (i x : ℕ) (r : Rely) → In r rs → r.job ≡ i → r.on ≡ x → relies_on rs i x ≡ true
unfolding relies_on
in_rely rs i x r j e f = in_any (is_rely i x) rs r j (and_from _ _ (eq-eqb _ _ e) (eq-eqb _ _ f))

module _ (h : History) (o i : ℕ) where
  -- what is handed on by the maker of holding g
  abbrev passes : Holding → Rely → Bool
  passes g r = eqb r.job (h.ids g.job) && (not (has_ended h.ended r.on) && not (eqb r.on i))

  gained : List Rely
  gained = flat_map (gains h i) (filter (makes o) h.holdings)

  gained_why : (r : Rely) → In r gained → (r.job ≡ i) × ComesToRely h o i r.on
  unfolding gained
  gained_why r j =
      let a = in_each (gains h i) (filter (makes o) h.holdings) r j in
      let g = a.0 in
      let k = in_filter (makes o) h.holdings g a.1 in
      let b = and_parts _ _ k.1 in
      let m : Makes h.holdings o g.job = record { holding = g; there = k.0; job = refl; object = eqb-true _ _ b.0; turns = b.1 } in
      elim a.2 [
        | inl e ↦ (sym (ap (λ s. s.job) e), record { maker = g.job; makes = m; on = inl (sym (ap (λ s. s.on) e)) })
        | inr l ↦
            let s = in_map (λ (r : Rely). record { job = i; on = r.on }) (filter (passes g) h.relied) r l in
            let t = in_filter (passes g) h.relied s.0 s.1 in
            let u = and_parts _ _ t.1 in
            let v = and_parts _ _ u.1 in
            let on : s.0.on ≡ r.on = ap (λ z. z.on) s.2 in (
              sym (ap (λ z. z.job) s.2),
              record {
                maker = g.job;
                makes = m;
                on = inr (
                  in_rely h.relied (h.ids g.job) r.on s.0 t.0 (eqb-true _ _ u.0) on,
                  ap (has_ended h.ended) (sym on) ∙ not-true _ v.0,
                  λ e. eqb-false _ _ (not-true _ v.1) (on ∙ e),
                );
              },
            )
      ]

  why_gained : (x : ℕ) → ComesToRely h o i x → relies_on gained i x ≡ true
  unfolding gained
  why_gained x c =
      let g = c.makes.holding in
      let id : h.ids g.job ≡ h.ids c.maker = ap h.ids c.makes.job in
      let kept : In g (filter (makes o) h.holdings) = filter_in (makes o) h.holdings g c.makes.there (and_from _ _ (eq-eqb _ _ c.makes.object) c.makes.turns) in
      elim c.on [
        | inl e ↦ in_rely _ i x (record { job = i; on = h.ids g.job }) (each_in (gains h i) _ g kept _ (inl refl)) refl (id ∙ sym e)
        | inr w ↦
            let r = rely_in h.relied (h.ids c.maker) x w.0 in
            let pass : passes g r.0 ≡ true = and_from _ _ (eq-eqb _ _ (r.2 ∙ sym id)) (and_from _ _ (ap not (ap (has_ended h.ended) r.3 ∙ w.1)) (ap not (ne_eqb _ _ (λ e. w.2 (sym r.3 ∙ e))))) in
            in_rely _ i x (record { job = i; on = r.0.on }) (each_in (gains h i) _ g kept _ (inr (map_in (λ (r : Rely). record { job = i; on = r.on }) (filter (passes g) h.relied) r.0 (filter_in (passes g) h.relied r.0 r.1 pass)))) refl r.3
      ]

lock_relies : (h : History) (p o : ℕ) (mode : Mode) (i x : ℕ) → (relies_on (history_one h (Lock p o mode)).relied i x ≡ true) ↔ ((relies_on h.relied i x ≡ true) ⊎ ((i ≡ h.ids p) × ComesToRely h o i x))
unfolding gained
lock_relies h p o mode i x = (
  λ e.
      let r = rely_in _ i x e in
      elim (append_cases h.relied (gained h o (h.ids p)) r.0 r.1) [
        | inl j ↦ inl (in_rely h.relied i x r.0 j r.2 r.3)
        | inr j ↦
            let w = gained_why h o (h.ids p) r.0 j in
            let same : i ≡ h.ids p = sym r.2 ∙ w.0 in
            inr (same, subst (λ k. ComesToRely h o k x) (sym same) (subst (ComesToRely h o (h.ids p)) r.3 w.1))
      ],
  elim [
    | inl e ↦ let r = rely_in h.relied i x e in in_rely _ i x r.0 (append_left h.relied (gained h o (h.ids p)) r.0 r.1) r.2 r.3
    | inr w ↦
        let r = rely_in (gained h o (h.ids p)) (h.ids p) x (why_gained h o (h.ids p) x (subst (λ k. ComesToRely h o k x) w.0 w.1)) in
        in_rely _ i x r.0 (append_right h.relied (gained h o (h.ids p)) r.0 r.1) (r.2 ∙ sym w.0) r.3
  ],
)

ends_job : (how : Ending) (h : History) (p x : ℕ) → (has_ended (ends how p h).ended x ≡ true) ↔ ((has_ended h.ended x ≡ true) ⊎ (x ≡ h.ids p))
unfolding has_ended
ends_job how h p x =
    let e = list_any-append (λ (y : Ended). eqb y.job x) h.ended (record { job = h.ids p; how = how } ∷ []) in
    (λ a. grind (arith, a, e), λ a. grind (arith, a, e))

pub relying_laws : RelyingLaws
relying_laws = record {
  lock = lock_relies;
  begin = λ h p k a i x. refl;
  image = λ h p o i x. refl;
  commit = λ h p i x. refl;
  abort = λ h p i x. refl;
  committed = λ h p x. ends_job _ h p x;
  aborted = λ h p x. ends_job _ h p x;
}
