-- Why a call is refused, by number.
use Rattle.std.specs.Prelude.{ℕ}
use Rattle.protocol.specs.declared.refusals.Refusal.{Refusal}
use Rattle.protocol.specs.declared.refusals.Refusal.TheVariants.{RobustnessTooLarge, LimitOutOfRange, NoSuchPlace, PlaceTaken, UnknownKind, NoJob, LostJob, NoSuchObject, AlreadyHeld, TooManyHeld, OpenElsewhere, WouldWaitForItself, NoExecution, TooManyExecutions, NotOpen, TooManyVersions, HasOpen, Waits}

-- the number that answers a refused call
abbrev pub refusal_number : Refusal → ℕ
-- a robustness over 120
refusal_number RobustnessTooLarge = 1
-- a limit that is not one of 1 to 16
refusal_number LimitOutOfRange = 2
-- there is no such place
refusal_number NoSuchPlace = 3
-- the place of a begin is not idle
refusal_number PlaceTaken = 4
-- there are no jobs of that kind
refusal_number UnknownKind = 5
-- the place of another call is idle
refusal_number NoJob = 6
-- all executions of the job are gone
refusal_number LostJob = 7
-- there is no such object
refusal_number NoSuchObject = 8
-- the job has locked the object before
refusal_number AlreadyHeld = 9
-- the job has eight objects already
refusal_number TooManyHeld = 10
-- somebody else has the object open
refusal_number OpenElsewhere = 11
-- the lock would close a ring of waits
refusal_number WouldWaitForItself = 12
-- no pair would stay
refusal_number NoExecution = 13
-- more pairs would stay than there may be
refusal_number TooManyExecutions = 14
-- what is to be imaged is not open to the job
refusal_number NotOpen = 15
-- the book would have more than 256 versions
refusal_number TooManyVersions = 16
-- who commits still has something open
refusal_number HasOpen = 17
-- who commits waits for somebody
refusal_number Waits = 18
