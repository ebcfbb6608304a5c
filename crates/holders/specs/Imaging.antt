-- What an image call makes of one holding.
use Rattle.std.specs.Prelude.{cond, ◌&&◌, Ok, Err, Result}
use Rattle.terms.specs.declared.calls.Call.{Call}
use Rattle.terms.specs.declared.calls.Call.TheVariants.{Begin, Lock, Image, Commit, Abort}
use Rattle.protocol.specs.declared.holdings.Holding.{Holding}
use Rattle.protocol.specs.declared.refusals.Refusal.{Refusal}
use Rattle.protocol.specs.declared.refusals.Refusal.TheVariants.{NotOpen}
use Rattle.protocol.specs.Holdings.{opened, holds, turn}

-- an image call turns the open holding of its job and object; any other holding, or any other call, is refused
abbrev pub image_of : Holding → Call → Result Holding Refusal
image_of h (Begin p kind argument) = Err NotOpen
image_of h (Lock p o mode) = Err NotOpen
image_of h (Image p o) = cond (holds p o h && opened h.state) (Ok (turn p o h)) (Err NotOpen)
image_of h (Commit p) = Err NotOpen
image_of h (Abort p) = Err NotOpen
