use Rattle.std.proofs.Common.{◌≡◌, Some, true, sym, ◌∙◌, ap, subst, get_or}
use Rattle.ow_records.specs.declared.activations.Activation.{Activation}
use Rattle.ow_floor.specs.View.{is_of}
use Rattle.ow_floor.specs.Calls.{is_late}
use Rattle.ow_floor.specs.Store.{IsSpot}
use Rattle.ow_floor.proofs.ends.late_spot.Goals as goal

pub returns-then-is_late : goal.returns-then-is_late
returns-then-is_late c =
    let spot : IsSpot (is_of c.args.run.id) c.args.lists.now.now.spots c.args.lists.now.now.tasks c.in_ok-place.place = c.in_ok-place.ensures in
    let e : Some c.in-Some.task ≡ Some spot.item.task = sym c.in-Some.is ∙ (c.index-tasks-place.is ∙ (ap (λ ts. get_or ts c.in_ok-place.place c.index-tasks-place.result) c.tasks.ensures ∙ spot.task c.index-tasks-place.result)) in
    let same : c.in-Some.task ≡ spot.item.task = cc in
    record {
      spot = spot;
      late = subst (λ (a : Activation). is_late c.args.at c.args.run a ≡ true) (c.get.ensures ∙ same) (sym c.if-is_late.ensures);
      unrecorded = c.requires.unrecorded;
    }
