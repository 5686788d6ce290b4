use Rattle.std.proofs.Common.{◌≡◌, ◌++◌, Some, None, ◌∙◌, ap, subst, get_or}
use Rattle.ow_floor.specs.View.{FloorView, is_number}
use Rattle.ow_floor.specs.Trace.{Trace}
use Rattle.ow_floor.specs.Laws.{Grows, Stands}
use Rattle.ow_floor.specs.Calls.{answered_items, moved, reply_recorded}
use Rattle.ow_floor.specs.Store.{IsCell, answered_in, run_in, show}
use Rattle.ow_floor.proofs.Growing.{made_replied, past_good, recorded_slot}
use Rattle.ow_floor.proofs.floor.Floor.replied_into.Goals as goal

pub invariant_of-self-2 : goal.invariant_of-self-2
invariant_of-self-2 c =
    let slot = recorded_slot _ c.in-Some.recorded (rw (← c.slots.ensures) c.in-Some.ensures) in
    let cell : IsCell run_in (is_number c.args.run) c.self.inside.lists.now.runs c.in-Some-run_place.place = c.in-Some-run_place.ensures in
    let here : get_or c.self.inside.lists.now.runs c.in-Some-run_place.place None ≡ Some c.in-Some-runs.berth = rw (← c.runs.ensures) c.in-Some-runs.is in
    let makes = made_replied c.self.inside.lists.now c.end_run.new.lists.now c.answer.new.self.now c.args.at c.args.run c.in-Some-run_place.place c.args.reply.now c.args.moves.now c.end_run.new.moves slot.0
    c.in-Some-runs.berth cell slot.1 here c.in_ok-end_run.ensures.made
    (subst (λ b. c.answer.new.self.now ≡ answered_in c.args.at c.args.run b c.in-Some-run_place.place c.end_run.new.lists.now) c.leaves_alive.ensures c.in_ok-answer.ensures.now) in
    (makes.0.1, past_good c.self.inside.lists.past c.answer.new.self.past (c.answer.ensures.held ∙ c.end_run.ensures.held) c.self.invariant.1)

pub returns-clause-told : goal.returns-clause-told
returns-clause-told c =
    let slot = recorded_slot _ c.in-Some.recorded (rw (← c.slots.ensures) c.in-Some.ensures) in
    let cell : IsCell run_in (is_number c.args.run) c.self.inside.lists.now.runs c.in-Some-run_place.place = c.in-Some-run_place.ensures in
    let here : get_or c.self.inside.lists.now.runs c.in-Some-run_place.place None ≡ Some c.in-Some-runs.berth = rw (← c.runs.ensures) c.in-Some-runs.is in
    let makes = made_replied c.self.inside.lists.now c.end_run.new.lists.now c.answer.new.self.now c.args.at c.args.run c.in-Some-run_place.place c.args.reply.now c.args.moves.now c.end_run.new.moves slot.0
    c.in-Some-runs.berth cell slot.1 here c.in_ok-end_run.ensures.made
    (subst (λ b. c.answer.new.self.now ≡ answered_in c.args.at c.args.run b c.in-Some-run_place.place c.end_run.new.lists.now) c.leaves_alive.ensures c.in_ok-answer.ensures.now) in
    subst (λ (w : FloorView). (T : Trace) → Stands w.now T → Some c.in-Some.recorded ≡ reply_recorded c.args.run T) c.self.view_is (λ T st. ap Some slot.2 ∙ (makes.1 T st).0)

pub returns-clause-moved : goal.returns-clause-moved
returns-clause-moved c =
    let slot = recorded_slot _ c.in-Some.recorded (rw (← c.slots.ensures) c.in-Some.ensures) in
    let cell : IsCell run_in (is_number c.args.run) c.self.inside.lists.now.runs c.in-Some-run_place.place = c.in-Some-run_place.ensures in
    let here : get_or c.self.inside.lists.now.runs c.in-Some-run_place.place None ≡ Some c.in-Some-runs.berth = rw (← c.runs.ensures) c.in-Some-runs.is in
    let makes = made_replied c.self.inside.lists.now c.end_run.new.lists.now c.answer.new.self.now c.args.at c.args.run c.in-Some-run_place.place c.args.reply.now c.args.moves.now c.end_run.new.moves slot.0
    c.in-Some-runs.berth cell slot.1 here c.in_ok-end_run.ensures.made
    (subst (λ b. c.answer.new.self.now ≡ answered_in c.args.at c.args.run b c.in-Some-run_place.place c.end_run.new.lists.now) c.leaves_alive.ensures c.in_ok-answer.ensures.now) in
    subst (λ (w : FloorView). (T : Trace) → Stands w.now T → c.end_run.new.moves ≡ c.args.moves.now ++ moved (answered_items c.args.at c.args.run c.args.reply.now T)) c.self.view_is (λ T st. (makes.1 T st).1)

pub returns-clause-ok : goal.returns-clause-ok
returns-clause-ok c =
    let slot = recorded_slot _ c.in-Some.recorded (rw (← c.slots.ensures) c.in-Some.ensures) in
    let cell : IsCell run_in (is_number c.args.run) c.self.inside.lists.now.runs c.in-Some-run_place.place = c.in-Some-run_place.ensures in
    let here : get_or c.self.inside.lists.now.runs c.in-Some-run_place.place None ≡ Some c.in-Some-runs.berth = rw (← c.runs.ensures) c.in-Some-runs.is in
    let makes = made_replied c.self.inside.lists.now c.end_run.new.lists.now c.answer.new.self.now c.args.at c.args.run c.in-Some-run_place.place c.args.reply.now c.args.moves.now c.end_run.new.moves slot.0
    c.in-Some-runs.berth cell slot.1 here c.in_ok-end_run.ensures.made
    (subst (λ b. c.answer.new.self.now ≡ answered_in c.args.at c.args.run b c.in-Some-run_place.place c.end_run.new.lists.now) c.leaves_alive.ensures c.in_ok-answer.ensures.now) in
    subst (λ (w : FloorView). Grows w.now (show c.answer.new.self.now) (λ T. answered_items c.args.at c.args.run c.args.reply.now T)) c.self.view_is makes.0.0
