use Rattle.std.proofs.Common.{◌≡◌, Some, None, sym, subst, get_or}
use Rattle.std.specs.Prelude.{OnOk}
use Rattle.ow_floor.specs.Ends.{IsSweptOne}
use Rattle.ow_floor.proofs.Making.{swept_late}
use Rattle.ow_floor.proofs.Results.{on_more}
use Rattle.ow_floor.proofs.ends.end_late.Goals as goal

pub returns-in-Some-late_place-clause-made : goal.returns-in-Some-late_place-clause-made
returns-in-Some-late_place-clause-made c =
    let here : get_or c.args.lists.now.now.runs c.args.place None ≡ Some c.in-Some.berth = rw (← c.runs.ensures) c.in-Some.is in
    subst (λ cell. OnOk c.end_overrun.result (IsSweptOne c.args.at cell c.args.lists.now.now c.end_overrun.new.lists.now c.args.moves.now c.end_overrun.new.moves)) (sym here)
    (on_more c.end_overrun.result _ _
    (swept_late c.args.at c.in-Some.berth c.in-Some-late_place.spot c.args.lists.now.now c.end_overrun.new.lists.now c.args.moves.now c.end_overrun.new.moves c.requires.lists_fit c.in-Some-late_place.ensures)
    c.end_overrun.ensures.made)
