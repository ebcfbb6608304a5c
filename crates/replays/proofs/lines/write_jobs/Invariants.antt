use Rattle.std.proofs.Common.{◌≡◌, [], ◌++◌, drop, string_bytes}
use Rattle.book.specs.View.{view}
use Rattle.replays.specs.Output.{lines_from, place_bytes}
use Rattle.replays.proofs.lines.write_jobs.Given as goal

abbrev pub invariant-loop-place : goal.invariant-loop-place
invariant-loop-place l =
    string_bytes l.out ++ lines_from (place_bytes (view [] l.book).executions) l.place (drop l.place (view [] l.book).jobs)
    ≡ string_bytes l.initial.out ++ lines_from (place_bytes (view [] l.book).executions) 0 (view [] l.book).jobs
