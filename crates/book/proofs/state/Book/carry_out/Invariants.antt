use Rattle.std.proofs.Common.{◌≡◌, ◌+◌, ◌≤◌, ◌++◌, length, drop, vec_items, vec_len, vec_capacity}
use Rattle.protocol.specs.Step.{run}
use Rattle.book.specs.Told.{answers_of}
use Rattle.book.specs.View.{view}
use Rattle.book.proofs.state.Book.carry_out.Given as goal

abbrev pub invariant-loop-call : goal.invariant-loop-call
invariant-loop-call g l =
    (run (g.R.JobRule.means l.rule) (view (g.S.Store.values l.store) l.self) (drop l.call-index l.calls)
    ≡ run (g.R.JobRule.means l.rule) (view (g.S.Store.values l.initial.store) l.initial.self) l.calls)
    × (vec_items l.answers ++ answers_of (g.R.JobRule.means l.rule) (view (g.S.Store.values l.store) l.self) (drop l.call-index l.calls)
    ≡ vec_items l.initial.answers ++ answers_of (g.R.JobRule.means l.rule) (view (g.S.Store.values l.initial.store) l.initial.self) l.calls)
    × (vec_len l.answers + length l.calls ≤ vec_capacity l.answers + l.call-index)
