use Rattle.std.proofs.Common.{◌≡◌, Some, sym, ◌∙◌, ap, get_or}
use Rattle.ow_pool.specs.declared.answers.Head.{Head}
use Rattle.ow_floor.specs.View.{key_of}
use Rattle.ow_floor.proofs.Ordering.{good_run, run_ordered}
use Rattle.ow_floor.proofs.Results.{sure}
use Rattle.ow_floor.proofs.orders.order_run.Goals as goal

same_task : (c : goal.Else-is_err) → c.get-task.result.now ≡ c.requires.spot.item.task
same_task c =
    let e : Some c.in-Some-tasks.task ≡ Some c.requires.spot.item.task =
    sym c.in-Some-tasks.is ∙ (c.index-tasks-spot.is ∙ (ap (λ ts. get_or ts c.args.spot c.index-tasks-spot.result) c.tasks.ensures ∙ c.requires.spot.task c.index-tasks-spot.result)) in
    let same : c.in-Some-tasks.task ≡ c.requires.spot.item.task = cc in
    c.get-task.ensures ∙ same

same_key : (c : goal.Else-is_err) → c.args.key ≡ key_of c.requires.spot.item.task
same_key c =
    let head : Some (record { key = key_of c.requires.spot.item.task }) ≡ Some (record { key = c.args.key }) = rw c.requires.spot.found at c.requires.key in
    let h : record { key = key_of c.requires.spot.item.task } ≡ record { key = c.args.key } = cc in
    sym (ap (λ (x : Head). x.key) h)

pub returns-clause-lists_fit : goal.returns-clause-lists_fit
returns-clause-lists_fit c =
    good_run c.args.lists.now.now c.order.new.self.now c.args.spot _ c.args.key c.requires.spot (c.requires.fits.kept c.in-Some.number c.args.at) c.requires.lists_fit
    (sure c.order.result _ c.order.ensures.now c.if-is_err.ensures.value)

pub returns-clause-made : goal.returns-clause-made
returns-clause-made c =
    run_ordered c.args.lists.now.now c.order.new.self.now c.args.at c.args.spot c.in-Some.number c.args.slot c.generation_after-generation.result c.args.start c.args.key c.get-task.result.now c.in-Ok.order
    c.requires.spot c.requires.placed (same_task c) (same_key c) c.in-Some.ensures (rw (← c.slots.ensures) c.generation_after-generation.ensures) c.in-Ok.ensures
    (sure c.order.result _ c.order.ensures.now c.if-is_err.ensures.value)
