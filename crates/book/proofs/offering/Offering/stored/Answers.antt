use Rattle.std.proofs.Common.{ℕ, ap, ◌∙◌}
use Rattle.protocol.specs.declared.assumptions.Offer.{Offer}
use Rattle.protocol.specs.Assumptions.{assume}
use Rattle.holders.proofs.Cut.{makers_placed}
use Rattle.book.proofs.offering.Offering.stored.Goals as goal

pub returns : goal.returns
returns c =
    let o = c.args.self.now in
    let F : ℕ → Offer = λ m. record { value = c.args.value; assumes = assume 0 m } in
    ap F (c.makers.ensures ∙ makers_placed o.object o.holdings.now o.placed)
