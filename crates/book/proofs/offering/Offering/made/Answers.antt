use Rattle.std.proofs.Common.{ℕ, ap, ◌∙◌}
use Rattle.protocol.specs.declared.assumptions.Offer.{Offer}
use Rattle.protocol.specs.Assumptions.{commits_of, aborts_of, assume}
use Rattle.protocol.specs.Places.{join}
use Rattle.holders.proofs.Cut.{later_makers_placed}
use Rattle.book.proofs.offering.Offering.made.Goals as goal

pub returns : goal.returns
returns c =
    let o = c.args.self.now in
    let v = c.args.version.now in
    let F : ℕ → Offer = λ m. record { value = v.value; assumes = assume (commits_of v.assumes) m } in
    ap F (c.joined.ensures ∙ ap (join (aborts_of v.assumes)) (c.later_makers-later.ensures ∙ later_makers_placed o.object v.maker o.holdings.now o.placed))
