use Rattle.std.proofs.Common.{◌≡◌, None, sym, ap, ◌∙◌, rules}
use Rattle.std.specs.Prelude.{filter}
use Rattle.std.specs.List.{slice_get}
use Rattle.protocol.specs.Model.{names}
use Rattle.tables.specs.Items.{items}
use Rattle.tables.specs.Within.{job_of_execution}
use Rattle.book.proofs.Absent.{none_there, there, not_there}
use Rattle.book.proofs.state.Book.execution.Goals as goal

pub returns-in_err-here : goal.returns-in_err-here
returns-in_err-here c =
    let b = c.args.self.now in
    let p = c.args.place in
    let none : c.from_residual.result ≡ None = search rules in
    none ∙ sym (ap (λ l. slice_get l c.args.n) (none_there 16 job_of_execution b.jobs (items b.executions) b.places b.runs p (not_there p c.try_from.result c.try_from.ensures c.in_err-here.ensures.value)))

pub returns : goal.returns
returns c =
    c.nth_of.ensures
    ∙ ap (λ p. slice_get (filter (names p) c.in_use.result.now) c.args.n) (there c.args.place c.try_from.result c.try_from.ensures c.in_ok-here.here c.in_ok-here.ensures.value)
    ∙ ap (λ l. slice_get (filter (names c.args.place) l) c.args.n) c.in_use.ensures
