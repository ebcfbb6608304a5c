use Rattle.std.proofs.Common.{◌≡◌, ℕ, ap, ◌∙◌, ap₂, arith}
use Rattle.protocol.specs.declared.assumptions.Version.{Version}
use Rattle.protocol.specs.Assumptions.{commits_of, assume, aborts_of}
use Rattle.protocol.specs.Places.{join, single}
use Rattle.protocol.proofs.SetDigits.{placed_same, single_below}
use Rattle.book.proofs.making.Making.version.Goals as goal

pub returns : goal.returns
returns g c =
    let e = c.args.execution.now in
    let own : c.only-own.result.mask ≡ single e.job = c.only-own.ensures ∙ placed_same (single e.job) (single_below e.job (omega (arith, c.args.self.now.place.below))) in
    let V : ℕ → ℕ → Version = λ v m. record { object = c.args.self.now.object; maker = e.job; value = v; assumes = assume m (aborts_of e.assumes) } in
    ap₂ V c.give-value.ensures.given (c.joined.ensures ∙ ap (join (commits_of e.assumes)) own)
