use Rattle.std.proofs.Common.{◌≡◌, ◌&&◌, eqb, [], sym, ap, ◌∙◌}
use Rattle.std.specs.List.{list_any}
use Rattle.protocol.specs.Ending.{commit_barred}
use Rattle.protocol.specs.Holdings.{held_by, opened, waits}
use Rattle.protocol.specs.Lock.{no_live_job}
use Rattle.protocol.specs.Places.{placed}
use Rattle.holders.proofs.Cut.{waits_placed}
use Rattle.tables.specs.Items.{items}
use Rattle.book.specs.View.{view}
use Rattle.book.proofs.Chains.{commit_open, commit_waits, commit_free}
use Rattle.book.proofs.Locking.{first_append}
use Rattle.book.proofs.Places.{within_placed}
use Rattle.book.proofs.state.Book.may_commit.Goals as goal

pub returns-then-has_open : goal.returns-then-has_open
returns-then-has_open c =
    let b = c.args.self.now in
    let m = view [] b in
    let p = c.args.place.number in
    sym (
    first_append (no_live_job m p) (commit_barred m p) c.in_ok-live_job.ensures.0
    ∙ commit_open m p (sym (c.if-has_open.ensures ∙ ap (list_any (λ h. held_by p h && opened h.state)) c.in_use-holdings.ensures))
    )

pub returns-then-not-is_empty : goal.returns-then-not-is_empty
returns-then-not-is_empty c =
    let b = c.args.self.now in
    let m = view [] b in
    let p = c.args.place.number in
    let hs = items b.holdings in
    let w : c.waits_of.result.mask ≡ waits hs p = c.waits_of.ensures ∙ ap (λ l. placed (waits l p)) c.in_use-holdings.ensures ∙ waits_placed hs p (within_placed b.jobs hs b.places b.holds) in
    sym (
    first_append (no_live_job m p) (commit_barred m p) c.in_ok-live_job.ensures.0
    ∙ commit_waits m p (sym (c.if-has_open.ensures ∙ ap (list_any (λ h. held_by p h && opened h.state)) c.in_use-holdings.ensures)) (sym (c.if-not-is_empty.ensures ∙ ap (λ n. eqb n 0) w))
    )

pub returns : goal.returns
returns c =
    let b = c.args.self.now in
    let m = view [] b in
    let p = c.args.place.number in
    let hs = items b.holdings in
    let w : c.waits_of.result.mask ≡ waits hs p = c.waits_of.ensures ∙ ap (λ l. placed (waits l p)) c.in_use-holdings.ensures ∙ waits_placed hs p (within_placed b.jobs hs b.places b.holds) in
    sym (
    first_append (no_live_job m p) (commit_barred m p) c.in_ok-live_job.ensures.0
    ∙ commit_free m p (sym (c.if-has_open.ensures ∙ ap (list_any (λ h. held_by p h && opened h.state)) c.in_use-holdings.ensures)) (sym (c.if-not-is_empty.ensures ∙ ap (λ n. eqb n 0) w))
    )
