use Rattle.std.proofs.Common.{◌≡◌, ◌<◌, ◌&&◌, eqb, length, Some, sym, ap, ◌∙◌, arith}
use Rattle.std.specs.Prelude.{filter}
use Rattle.std.specs.List.{list_any}
use Rattle.std.proofs.lemmas.Bool.Decides.{nat_tests}
use Rattle.protocol.specs.Holdings.{held_by, holds, opened, locked, waits, new_waits, reach}
use Rattle.protocol.specs.Places.{has, placed}
use Rattle.holders.proofs.Cut.{would_ring_placed}
use Rattle.tables.specs.Items.{items}
use Rattle.book.specs.View.{view}
use Rattle.book.proofs.Chains.{lock_ring, lock_free}
use Rattle.book.proofs.state.Book.admit.Goals as goal

pub returns-then-would_ring : goal.returns-then-would_ring
returns-then-would_ring g c =
    let b = c.args.self.now in
    let xs = g.S.Store.values c.args.store.now in
    let p = c.args.wanted.place.number in
    let o = c.args.wanted.object in
    let hs = items b.holdings in
    let in_use = c.in_use-holdings.ensures in
    let read : c.read.result ≡ Some c.in_ok-stored.stored = grind arith in
    let here : o < length xs = grind (arith, nat_tests) in
    lock_ring (view xs b) p o c.args.wanted.mode here (sym (c.if-holds_object.ensures ∙ ap (list_any (holds p o)) in_use)) (omega (arith, c.count_held-held.ensures, ap (λ l. length (filter (held_by p) l)) in_use))
    (sym (c.if-is_open.ensures ∙ ap (list_any (λ h. eqb h.object o && opened h.state)) in_use))
    (sym (c.if-would_ring.ensures ∙ ap (λ h. has (placed (reach (waits c.in_use-holdings.result.now) (new_waits c.in_use-holdings.result.now h))) h.job) c.holding.ensures
    ∙ ap (λ l. has (placed (reach (waits l) (new_waits l (locked p o c.args.wanted.mode)))) p) in_use ∙ would_ring_placed hs (locked p o c.args.wanted.mode) c.args.wanted.place.below))

pub returns : goal.returns
returns g c =
    let b = c.args.self.now in
    let xs = g.S.Store.values c.args.store.now in
    let p = c.args.wanted.place.number in
    let o = c.args.wanted.object in
    let hs = items b.holdings in
    let in_use = c.in_use-holdings.ensures in
    let read : c.read.result ≡ Some c.in_ok-stored.stored = grind arith in
    let here : o < length xs = grind (arith, nat_tests) in
    let held : c.count_held-held.result ≡ length (filter (held_by p) hs) = c.count_held-held.ensures ∙ ap (λ l. length (filter (held_by p) l)) in_use in (
      lock_free (view xs b) p o c.args.wanted.mode here (sym (c.if-holds_object.ensures ∙ ap (list_any (holds p o)) in_use)) (omega (arith, held))
          (sym (c.if-is_open.ensures ∙ ap (list_any (λ h. eqb h.object o && opened h.state)) in_use))
          (sym (c.if-would_ring.ensures ∙ ap (λ h. has (placed (reach (waits c.in_use-holdings.result.now) (new_waits c.in_use-holdings.result.now h))) h.job) c.holding.ensures
          ∙ ap (λ l. has (placed (reach (waits l) (new_waits l (locked p o c.args.wanted.mode)))) p) in_use ∙ would_ring_placed hs (locked p o c.args.wanted.mode) c.args.wanted.place.below)),
      (grind (arith, nat_tests), held, omega arith),
    )
