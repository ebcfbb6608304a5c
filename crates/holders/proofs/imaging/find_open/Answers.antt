use Rattle.std.proofs.Common.{◌≡◌, ◌&&◌, ℕ, Bool, true, false, Ok, Err, cond, rules, refl}
use Rattle.std.specs.Result.{is_ok}
use Rattle.std.proofs.lemmas.Iterator.{YieldsList-from_slice}
use Rattle.std.proofs.lemmas.Iterator.Search.{any_from_yields_List}
use borrow.Author.Tests.{tests}
use Rattle.terms.specs.declared.calls.Call.TheVariants.{Image}
use Rattle.protocol.specs.declared.holdings.Holding.{Holding}
use Rattle.protocol.specs.declared.refusals.Refusal.TheVariants.{NotOpen}
use Rattle.protocol.specs.Holdings.{opened, holds, turn}
use Rattle.holders.specs.Imaging.{image_of}
use Rattle.holders.proofs.imaging.find_open.Goals as goal

-- the image call turns the open holding and no other
turns : (p o : ℕ) (h : Holding) → is_ok (image_of h (Image p o)) ≡ (holds p o h && opened h.state)
turns p o h = go (holds p o h && opened h.state)
  where
    go : (b : Bool) → is_ok (cond b (Ok (turn p o h)) (Err NotOpen)) ≡ b
    go true = refl
    go false = refl

pub returns-then-any : goal.returns-then-any
returns-then-any c =
    let p = c.args.place in
    let o = c.args.object in
    let any = any_from_yields_List (λ h. holds p o h && opened h.state) _ _ _ c.any.ensures.ran (YieldsList-from_slice c.args.holdings.now cc) (λ x b q k. let t = turns p o x.now in search (rules, tests)) in
    rw (← any, c.if-any.true) refl

pub returns-else-any : goal.returns-else-any
returns-else-any c =
    let p = c.args.place in
    let o = c.args.object in
    let any = any_from_yields_List (λ h. holds p o h && opened h.state) _ _ _ c.any.ensures.ran (YieldsList-from_slice c.args.holdings.now cc) (λ x b q k. let t = turns p o x.now in search (rules, tests)) in
    rw (← any, c.if-any.false) refl
