use Rattle.std.proofs.Common.{◌+◌, ◌≤◌, [], ◌∷◌, ◌++◌, length, ap, subst, arith}
use Rattle.std.specs.Iterator.{Yields}
use Rattle.std.proofs.iter.Next.{Yields-more}
use Rattle.std.proofs.lemmas.List.{length_push, length-append}
use Rattle.tables.specs.Items.{items}
use Rattle.book.proofs.Adding.{room_ok}
use Rattle.book.proofs.gathering.gather.Goals as goal

pub unwrap-requires : goal.unwrap-requires
unwrap-requires g c =
    let gives = g.I.Iterator.next_gives in
    let before = c.loop-one.yielded in
    let one = c.in-Some.one in
    let came = before ++ one ∷ [] in
    let first = items c.args.all.now in
    let y = Yields-more gives _ before _ one _ c.loop-one.yielded_by c.in-Some.ensures.steps in
    let fits : length first + length came ≤ g.row.N = c.requires.fits came c.next.new.self (subst (λ s. Yields gives s came c.next.new.self) c.into_iter-one-iterator.ensures.into_iter_gives y) in
    room_ok g.row.N (items c.loop-one.all) (one ∷ []) (items c.push.new.self) c.push.result c.push.ensures.added
    (omega (arith, fits, ap length c.loop-one.invariant.all, length-append first before, length_push before one))
