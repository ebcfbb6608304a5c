use Rattle.std.proofs.Common.{◌≡◌, true, ◌&&◌, eqb, [], sym, ap, ◌∙◌, rules}
use Rattle.std.specs.Prelude.{is_some}
use Rattle.protocol.specs.Holdings.{waits}
use Rattle.protocol.specs.Model.{job_at}
use Rattle.protocol.specs.Places.{placed}
use Rattle.holders.proofs.Cut.{waits_placed}
use Rattle.tables.specs.Items.{items}
use Rattle.book.specs.View.{view}
use Rattle.book.proofs.Places.{within_placed}
use Rattle.book.proofs.state.Book.is_free.Goals as goal

pub returns-then-is_some : goal.returns-then-is_some
returns-then-is_some c =
    let b = c.args.self.now in
    let p = c.args.place in
    let hs = items b.holdings in
    let runs : is_some (job_at (view [] b) p) ≡ true = search rules in
    let w : c.waits_of.result.mask ≡ waits hs p = c.waits_of.ensures ∙ ap (λ l. placed (waits l p)) c.in_use.ensures ∙ waits_placed hs p (within_placed b.jobs hs b.places b.holds) in
    c.is_empty.ensures ∙ ap (λ n. eqb n 0) w ∙ ap (λ a. a && eqb (waits hs p) 0) (sym runs)
