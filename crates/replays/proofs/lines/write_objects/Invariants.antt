use Rattle.std.proofs.Common.{◌≡◌, ◌++◌, drop, string_bytes}
use Rattle.script.specs.Outputs.{object_bytes}
use Rattle.replays.specs.Output.{lines_from}
use Rattle.replays.proofs.lines.write_objects.Given as goal

abbrev pub invariant-loop-object : goal.invariant-loop-object
invariant-loop-object g l =
    string_bytes l.out ++ lines_from object_bytes l.object (drop l.object (g.S.Store.values l.store))
    ≡ string_bytes l.initial.out ++ lines_from object_bytes 0 (g.S.Store.values l.store)
