use Rattle.std.proofs.Common.{IfOk, Ok, Err, vec_items, string_bytes, Result, ◌∙◌}
use Rattle.book.specs.View.{view}
use Rattle.replays.proofs.Telling.{replay_is}
use Rattle.replays.proofs.asked.Asked.over.Goals as goal

made_map : {X Y : Type 0} {P Q : X → Type 0} (r : Result X Y) → ((x : X) → P x → Q x) → IfOk r P → IfOk r Q
made_map (Ok x) f p = f x p
made_map (Err e) f p = tt

pub returns-in-Ok : goal.returns-in-Ok
returns-in-Ok g c =
    let m = c.in-Ok.ensures.model in
    made_map c.tell.result
    (λ out e. replay_is (g.R.JobRule.means c.args.rule.now) c.args.self.now.setup (g.S.Store.values c.args.store.now) c.args.self.now.readings.now c.as_slice.result.now
    (c.as_slice.ensures.value ∙ c.in_ok-calls.ensures) (vec_items c.in-Ok.done.answers) (view (g.S.Store.values c.run.new.store) c.in-Ok.done.book) (string_bytes out) m.0 m.1 m.2 e)
    c.tell.ensures
