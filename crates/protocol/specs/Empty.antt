-- The empty records, which stand where there is none.
use Rattle.std.specs.Prelude.{replicate}
use Rattle.protocol.specs.declared.assumptions.Execution.{Execution}
use Rattle.protocol.specs.declared.assumptions.Version.{Version}
use Rattle.protocol.specs.declared.holdings.Holding.{Holding}
use Rattle.protocol.specs.declared.holdings.HoldingState.TheVariants.{Reading}
use Rattle.protocol.specs.Assumptions.{assume}

-- an execution of nothing: no assumption, nothing met
abbrev pub no_execution : Execution
no_execution = record { job = 0; assumes = assume 0 0; work = 0; tally = 0; met = replicate 8 0 }

-- a version of nothing
abbrev pub no_version : Version
no_version = record { object = 0; maker = 0; value = 0; assumes = assume 0 0 }

-- a holding of nothing
abbrev pub no_holding : Holding
no_holding = record { job = 0; object = 0; state = Reading }
