use Rattle.std.proofs.Common.{◌≡◌, ◌<◌, Some, ◌&&◌, ◌++◌, length, sym, ap, ◌∙◌, arith}
use Rattle.std.specs.Prelude.{filter}
use Rattle.std.specs.List.{list_any}
use Rattle.std.proofs.lemmas.Bool.Decides.{nat_tests}
use Rattle.std.proofs.lemmas.List.{length-take-le}
use Rattle.std.proofs.lemmas.Result.{err_from_is_err_and}
use Rattle.protocol.specs.declared.refusals.Refusal.TheVariants.{NotOpen}
use Rattle.protocol.specs.Holdings.{holds, opened}
use Rattle.protocol.specs.Image.{image_barred, image_crowded}
use Rattle.protocol.specs.Lock.{no_live_job}
use Rattle.protocol.specs.Model.{names}
use Rattle.tables.specs.Items.{items}
use Rattle.book.specs.View.{view}
use Rattle.book.proofs.Chains.{image_shut, image_free, image_full, image_fits}
use Rattle.book.proofs.Imaged.{not_found, was_found}
use Rattle.book.proofs.Locking.{first_append, first_found}
use Rattle.book.proofs.state.Book.may_image.Goals as goal

pub returns-in_err-find_open : goal.returns-in_err-find_open
returns-in_err-find_open g c =
    let xs = g.S.Store.values c.args.store.now in
    let m = view xs c.args.self.now in
    let p = c.args.place.number in
    let o = c.args.object in
    let read : c.read.result ≡ Some c.in_ok-ok_or.field-0 = grind arith in
    let here : o < length xs = grind (arith, nat_tests) in
    let q = err_from_is_err_and c.from_residual-in_err-find_open.result c.from_residual-in_err-find_open.ensures.1 in
    let f = not_found _ _ c.in_err-find_open.ensures in
    rw (q.1, q.2, f.1) (
    first_found (no_live_job m p ++ image_barred m p o) (image_crowded m p) NotOpen
    (first_append (no_live_job m p) (image_barred m p o) c.in_ok-job.ensures.0
    ∙ image_shut m p o here (sym (ap (list_any (λ h. holds p o h && opened h.state)) c.in_use.ensures) ∙ f.0))
    )

pub returns-then-count-len : goal.returns-then-count-len
returns-then-count-len g c =
    let xs = g.S.Store.values c.args.store.now in
    let b = c.args.self.now in
    let m = view xs b in
    let p = c.args.place.number in
    let o = c.args.object in
    let found = sym (ap (list_any (λ h. holds p o h && opened h.state)) c.in_use.ensures) ∙ was_found _ _ c.in_ok-find_open.ensures in
    let read : c.read.result ≡ Some c.in_ok-ok_or.field-0 = grind arith in
    let here : o < length xs = grind (arith, nat_tests) in
    let count : c.count_of-count.result ≡ length (filter (names p) (items b.executions)) = c.count_of-count.ensures ∙ ap (λ l. length (filter (names p) l)) c.in_use-2.ensures in
    first_append (no_live_job m p ++ image_barred m p o) (image_crowded m p) (first_append (no_live_job m p) (image_barred m p o) c.in_ok-job.ensures.0 ∙ image_free m p o here found)
    ∙ image_full m p (omega (arith, count, c.len.ensures, c.if-count-len.true))

pub returns : goal.returns
returns g c =
    let xs = g.S.Store.values c.args.store.now in
    let b = c.args.self.now in
    let m = view xs b in
    let p = c.args.place.number in
    let o = c.args.object in
    let found = sym (ap (list_any (λ h. holds p o h && opened h.state)) c.in_use.ensures) ∙ was_found _ _ c.in_ok-find_open.ensures in
    let read : c.read.result ≡ Some c.in_ok-ok_or.field-0 = grind arith in
    let here : o < length xs = grind (arith, nat_tests) in
    let count : c.count_of-count.result ≡ length (filter (names p) (items b.executions)) = c.count_of-count.ensures ∙ ap (λ l. length (filter (names p) l)) c.in_use-2.ensures in
    let few = length-take-le b.versions.count b.versions.records (omega (arith, b.versions.within, b.versions.long)) in (
      first_append (no_live_job m p ++ image_barred m p o) (image_crowded m p) (first_append (no_live_job m p) (image_barred m p o) c.in_ok-job.ensures.0 ∙ image_free m p o here found)
          ∙ image_fits m p (omega (arith, count, c.len.ensures, c.if-count-len.false, few, b.versions.within)),
      c.in_ok-job.ensures.1,
    )
