use Rattle.std.proofs.Common.{◌≡◌, length, sym, ap, ◌∙◌, subst, arith}
use Rattle.std.proofs.lemmas.List.{length-take-le}
use Rattle.std.proofs.lemmas.Result.{err_from_is_err_and}
use Rattle.std.proofs.lemmas.Bool.{eqb-true, eqb-false}
use Rattle.protocol.specs.Pairing.{kept_pairs}
use Rattle.tables.specs.Items.{items}
use Rattle.holders.specs.Placed.{Placed}
use Rattle.book.specs.View.{view}
use Rattle.book.proofs.Locking.{refused_absent, refused_barred, refused_none, refused_many, refused_never}
use Rattle.book.proofs.Paired.{weighed}
use Rattle.book.proofs.Places.{within_placed}
use Rattle.book.proofs.state.Book.weigh.Goals as goal

pub returns-in_err-job : goal.returns-in_err-job
returns-in_err-job g c =
    let r = g.R.JobRule.means c.args.rule.now in
    let m = view (g.S.Store.values c.args.store.now) c.args.self.now in
    let q = err_from_is_err_and c.from_residual.result c.from_residual.ensures.1 in
    rw (q.1, q.2) (refused_absent r m c.args.wanted.place.number c.args.wanted.object c.args.wanted.mode c.in_err-job.field-0.0 c.in_err-job.ensures)

pub returns-in_err-stored : goal.returns-in_err-stored
returns-in_err-stored g c =
    let r = g.R.JobRule.means c.args.rule.now in
    let m = view (g.S.Store.values c.args.store.now) c.args.self.now in
    let q = err_from_is_err_and c.from_residual-in_err-stored.result c.from_residual-in_err-stored.ensures.1 in
    rw (q.1, q.2) (refused_barred r m c.args.wanted.place.number c.args.wanted.object c.args.wanted.mode c.in_err-stored.field-0.0 c.in_ok-job.ensures.0 c.in_err-stored.ensures)

pub invariant_of-offering : goal.invariant_of-offering
invariant_of-offering g c =
    let b = c.args.self.now in
    record { placed = subst Placed (sym c.in_use-holdings.ensures) (within_placed b.jobs (items b.holdings) b.places b.holds) }

pub offers-offers-requires : goal.offers-offers-requires
offers-offers-requires g c =
    let b = c.args.self.now in
    omega (arith, ap length c.in_use.ensures, length-take-le b.versions.count b.versions.records (omega arith))

pub returns-in_err-pair_up : goal.returns-in_err-pair_up
returns-in_err-pair_up g c =
    let r = g.R.JobRule.means c.args.rule.now in
    let b = c.args.self.now in
    let m = view (g.S.Store.values c.args.store.now) b in
    let p = c.args.wanted.place.number in
    let o = c.args.wanted.object in
    let mode = c.args.wanted.mode in
    let ran = c.in_ok-job.ensures in
    let may = c.in_ok-stored.ensures in
    let is =
    weighed r m p o mode c.in_ok-job.job c.in_ok-stored.held c.in_ok-stored.stored c.in_use-holdings.result.now c.in_use.result.now c.in_use-3.result.now c.in_use-2.result.now (items c.new.result)
    ran.1 may.1.1 may.1.0 c.in_use-holdings.ensures c.in_use.ensures c.in_use-2.ensures c.new.ensures.starts (c.in_use-3.ensures ∙ c.offers-offers.ensures) in
    let q = err_from_is_err_and c.from_residual-in_err-pair_up.result c.from_residual-in_err-pair_up.ensures.1 in
    let over = c.in_err-pair_up.ensures.added in
    rw (q.1, q.2, over.0) (refused_many r m p o mode ran.0 may.0 (omega (arith, over.1, ap length is)))

pub returns-then-is_empty : goal.returns-then-is_empty
returns-then-is_empty g c =
    let r = g.R.JobRule.means c.args.rule.now in
    let b = c.args.self.now in
    let m = view (g.S.Store.values c.args.store.now) b in
    let p = c.args.wanted.place.number in
    let o = c.args.wanted.object in
    let mode = c.args.wanted.mode in
    let ran = c.in_ok-job.ensures in
    let may = c.in_ok-stored.ensures in
    let is =
    weighed r m p o mode c.in_ok-job.job c.in_ok-stored.held c.in_ok-stored.stored c.in_use-holdings.result.now c.in_use.result.now c.in_use-3.result.now c.in_use-2.result.now (items c.new.result)
    ran.1 may.1.1 may.1.0 c.in_use-holdings.ensures c.in_use.ensures c.in_use-2.ensures c.new.ensures.starts (c.in_use-3.ensures ∙ c.offers-offers.ensures) in
    let found : items c.pair_up.new.found.pairs ≡ kept_pairs r m p o mode = c.in_ok-pair_up.ensures.added.0 ∙ is in
    let none : length c.in_use-4.result.now ≡ 0 = eqb-true (length c.in_use-4.result.now) 0 (sym c.if-is_empty.ensures) in
    refused_none r m p o mode ran.0 may.0 (ap length (sym (c.in_use-4.ensures ∙ found)) ∙ none)

pub returns : goal.returns
returns g c =
    let r = g.R.JobRule.means c.args.rule.now in
    let b = c.args.self.now in
    let m = view (g.S.Store.values c.args.store.now) b in
    let p = c.args.wanted.place.number in
    let o = c.args.wanted.object in
    let mode = c.args.wanted.mode in
    let ran = c.in_ok-job.ensures in
    let may = c.in_ok-stored.ensures in
    let is =
    weighed r m p o mode c.in_ok-job.job c.in_ok-stored.held c.in_ok-stored.stored c.in_use-holdings.result.now c.in_use.result.now c.in_use-3.result.now c.in_use-2.result.now (items c.new.result)
    ran.1 may.1.1 may.1.0 c.in_use-holdings.ensures c.in_use.ensures c.in_use-2.ensures c.new.ensures.starts (c.in_use-3.ensures ∙ c.offers-offers.ensures) in
    let found : items c.pair_up.new.found.pairs ≡ kept_pairs r m p o mode = c.in_ok-pair_up.ensures.added.0 ∙ is in
    let some : (length c.in_use-4.result.now ≡ 0 → ⊥) = eqb-false (length c.in_use-4.result.now) 0 (sym c.if-is_empty.ensures) in (
      refused_never r m p o mode ran.0 may.0 (λ e. some (ap length (c.in_use-4.ensures ∙ found) ∙ e)) (omega (arith, ap length found, c.in_ok-pair_up.ensures.added.1)),
      found,
    )
