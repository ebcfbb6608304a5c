use Rattle.std.proofs.Common.{[], ◌∷◌, ◌++◌, length, true≢false, sym, ap, ◌∙◌, subst, arith}
use Rattle.std.specs.Iterator.{Yields}
use Rattle.std.specs.Result.{IsOk}
use Rattle.std.proofs.iter.Next.{Yields-more}
use Rattle.std.proofs.lemmas.List.{append_assoc}
use Rattle.std.proofs.lemmas.Result.{err_from_is_err_and}
use Rattle.tables.specs.Items.{items}
use Rattle.book.proofs.request.Found.add_all.Goals as goal

pub returns-in_err-add : goal.returns-in_err-add
returns-in_err-add g c =
    let gives = g.I.Iterator.next_gives in
    let before = items c.args.self.now.pairs in
    let came = c.loop-pair.yielded in
    let one = c.in-Some.pair in
    let inv = c.loop-pair.invariant in
    let e = err_from_is_err_and c.from_residual.result c.from_residual.ensures.1 in
    let y = Yields-more gives _ came _ one _ c.loop-pair.yielded_by c.in-Some.ensures.steps in
    let all = ap (λ l. l ++ one ∷ []) inv.adds ∙ append_assoc before came (one ∷ []) in (
      came ++ one ∷ [],
      (c.next.new.self, subst (λ s. Yields gives s (came ++ one ∷ []) c.next.new.self) c.into_iter-pair-iterator.ensures.into_iter_gives y, λ k. absurd (true≢false (sym (subst IsOk e.1 k)))),
      rw (e.1, e.2) record {
        added = (c.in_err-add.ensures.added.0, omega (arith, ap length all, c.in_err-add.ensures.added.1, inv.within));
        within = c.add.ensures.within ∙ inv.within;
      },
    )
