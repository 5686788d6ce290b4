use Rattle.std.proofs.Common.{◌++◌, ◌∙◌, ap, length, subst, sym}
use Rattle.ow_floor.specs.Calls.{answered_items, moved}
use Rattle.ow_floor.specs.Laws.{Stands}
use Rattle.ow_floor.specs.Trace.{Trace}
use Rattle.ow_trees.proofs.Following.{after_grows, after_moved, is_busy, next_told, on_err, unanswered}
use Rattle.ow_trees.proofs.driver.answered.Goals as goal

pub returns-clause-ok : goal.returns-clause-ok
returns-clause-ok g c =
    after_grows (g.L.Lookup.found c.args.rows.now) c.args.at (λ T. answered_items c.args.at c.args.run c.args.reply.now T) c.last_next-next.result c.args.floor.now.now c.replied_into.new.self.now c.follow.new.floor.now
    c.in_ok-recorded.ensures.ok c.in_ok-follow.ensures.ok
    (λ T st. next_told c.args.moves.now c.replied_into.new.moves (answered_items c.args.at c.args.run c.args.reply.now T) (length c.items-before.result.now) c.last_next-next.result (ap length c.items-before.ensures) (c.in_ok-recorded.ensures.moved T st) c.last_next-next.ensures)

pub returns-clause-moved : goal.returns-clause-moved
returns-clause-moved g c =
    after_moved (g.L.Lookup.found c.args.rows.now) c.args.at (λ T. answered_items c.args.at c.args.run c.args.reply.now T) c.last_next-next.result c.args.floor.now.now c.replied_into.new.self.now c.args.moves.now c.replied_into.new.moves c.follow.new.moves
    c.in_ok-recorded.ensures.ok c.in_ok-recorded.ensures.moved c.in_ok-follow.ensures.moved
    (λ T st. next_told c.args.moves.now c.replied_into.new.moves (answered_items c.args.at c.args.run c.args.reply.now T) (length c.items-before.result.now) c.last_next-next.result (ap length c.items-before.ensures) (c.in_ok-recorded.ensures.moved T st) c.last_next-next.ensures)

pub returns-in_err-follow-clause-live : goal.returns-in_err-follow-clause-live
returns-in_err-follow-clause-live g c = on_err c.from_residual-in_err-follow.result _ (λ T st. is_busy c.args.run c.in-Some.recorded T (sym c.in-Some.is ∙ c.in_ok-recorded.ensures.told T st))

pub returns-in_default-clause-ok : goal.returns-in_default-clause-ok
returns-in_default-clause-ok g c = λ T st.
    let same = unanswered (g.L.Lookup.found c.args.rows.now) c.args.at c.args.run c.args.reply.now T (sym c.in_default.is ∙ c.in_ok-recorded.ensures.told T st) in
    subst (λ (items : Trace). Stands c.replied_into.new.self.now (items ++ T)) same (c.in_ok-recorded.ensures.ok T st)

pub returns-in_default-clause-moved : goal.returns-in_default-clause-moved
returns-in_default-clause-moved g c = λ T st.
    let same = unanswered (g.L.Lookup.found c.args.rows.now) c.args.at c.args.run c.args.reply.now T (sym c.in_default.is ∙ c.in_ok-recorded.ensures.told T st) in
    c.in_ok-recorded.ensures.moved T st ∙ ap (λ (items : Trace). c.args.moves.now ++ moved items) same
