use Rattle.std.proofs.Common.{◌≡◌, ℕ, List, Some, None, sym, ap, ◌∙◌, subst}
use Rattle.terms.specs.declared.calls.Call.TheVariants.{Commit}
use Rattle.protocol.specs.declared.jobs.Ending.TheVariants.{Committed}
use Rattle.protocol.specs.Ending.{written}
use Rattle.protocol.specs.Settling.{settle}
use Rattle.protocol.specs.Step.{answer, next}
use Rattle.tables.specs.Items.{items}
use Rattle.book.specs.View.{view}
use Rattle.book.proofs.Locking.{no_place}
use Rattle.book.proofs.Steps.{refused}
use Rattle.book.proofs.Written.{commit_answer, committed_is}
use Rattle.book.proofs.state.Book.commit.Goals as goal

pub returns-in_err-here : goal.returns-in_err-here
returns-in_err-here g c = λ rule.
    let m = view (g.S.Store.values c.args.store.now) c.args.self.now in
    let a = Commit c.args.place in
    refused rule m a c.from_residual.result c.in_err-here.field-0.0 c.from_residual.ensures.1 (subst (λ e. answer rule m a ≡ Some e) (sym c.in_err-here.ensures.0) (no_place rule m a c.in_err-here.ensures.1))

pub returns-in_err-may_commit : goal.returns-in_err-may_commit
returns-in_err-may_commit g c = λ rule.
    let m = view (g.S.Store.values c.args.store.now) c.args.self.now in
    refused rule m (Commit c.args.place) c.from_residual-in_err-may_commit.result c.in_err-may_commit.field-0.0 c.from_residual-in_err-may_commit.ensures.1
    (subst (λ p. answer rule m (Commit p) ≡ Some c.in_err-may_commit.field-0.0) c.in_ok-here.ensures (commit_answer rule m c.in_ok-here.here.number ∙ sym c.in_err-may_commit.ensures))

pub returns : goal.returns
returns g c = λ rule.
    let b = c.args.self.now in
    let xs = g.S.Store.values c.args.store.now in
    let ys = g.S.Store.values c.write.new.store in
    let m = view xs b in
    let p = c.in_ok-here.here.number in
    let vs : ys ≡ written p (items b.versions) (items b.holdings) xs =
    c.write.ensures ∙ ap (λ l. written p l c.in_use-2.result.now xs) c.in_use.ensures ∙ ap (λ l. written p (items b.versions) l xs) c.in_use-2.ensures in
    subst (λ p. (answer rule m (Commit p) ≡ None) × (view ys c.end.new.self ≡ next rule m (Commit p))) c.in_ok-here.ensures (
      commit_answer rule m p ∙ sym c.in_ok-may_commit.ensures,
      c.end.ensures xs ys ∙ ap (λ (l : List ℕ). settle Committed p l m) vs ∙ committed_is rule m p,
    )
