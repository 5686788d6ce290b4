use Rattle.std.proofs.Common.{List, ap}
use Rattle.ow_floor.specs.declared.moves.Moved.{Moved}
use Rattle.ow_decide.specs.declared.events.Told.{Told}
use Rattle.ow_decide.specs.declared.step.RowChange.{RowChange}
use Rattle.ow_decide.proofs.SweepLaws.{archive_carried, ok_of}
use Rattle.ow_decide.proofs.floor_steps.archiving_step.Goals as goal

pub returns-clause-ok : goal.returns-clause-ok
returns-clause-ok c = λ S t items carries keeps sound right own is same some.
    let held = c.in_ok-told.ensures.0 in
    let made = c.in_ok-told.ensures.1 in
    archive_carried c.args.step c.in_ok-told.told c.in_ok-told.change c.in_ok-told.moves c.in_ok-told.commit c.args.archive c.in_ok-told.archive c.args.due.now c.args.until S t items carries some same
    (ap (λ (x : Told × RowChange × List Moved). x.0) held) (ap (λ (x : Told × RowChange × List Moved). x.1) held) (ap (λ (x : Told × RowChange × List Moved). x.2) held)
    (ok_of _ c.archived_after-archived.result _ made c.archived_after-archived.ensures.archive)
    (ok_of _ c.archived_after-archived.result _ made c.archived_after-archived.ensures.commit S t items c.args.until carries.commit keeps sound right own is same)

pub returns-clause-change : goal.returns-clause-change
returns-clause-change c = ap (λ (x : Told × RowChange × List Moved). x.1) c.in_ok-told.ensures.0
