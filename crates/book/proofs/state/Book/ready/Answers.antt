use Rattle.std.proofs.Common.{◌≡◌, true, false, [], rules}
use Rattle.std.proofs.lemmas.Iterator.{first_from_Range}
use borrow.Author.Tests.{tests}
use Rattle.book.specs.Ready.{is_free}
use Rattle.book.specs.View.{view}
use Rattle.book.proofs.Freed.{ready_is}
use Rattle.book.proofs.state.Book.ready.Goals as goal

pub returns : goal.returns
returns c =
    let b = c.args.self.now in
    let m = view [] b in
    ready_is m b.places b.holds b.ringless c.find.result
    (first_from_Range _ _ _ c.find.result (λ q. is_free m q ≡ true) (λ q. is_free m q ≡ false) c.find.ensures.ran (λ x q k. search (rules, tests)) (λ x q k. search (rules, tests)))
