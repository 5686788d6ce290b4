use Rattle.ow_records.specs.Frame.{with_used}
use Rattle.ow_floor.specs.Frames.{is_frame}
use Rattle.ow_floor.proofs.Framing.{frame_changed, frame_same}
use Rattle.ow_floor.proofs.Results.{on_more}
use Rattle.ow_floor.proofs.kept_frames.note_use.Goals as goal

pub returns-in_default-clause-now : goal.returns-in_default-clause-now
returns-in_default-clause-now c = rw (← c.items.ensures) (frame_same (is_frame c.args.top) (with_used c.args.role) c.items.result.now c.in_default.ensures)

pub returns-clause-now : goal.returns-clause-now
returns-clause-now c =
    on_more c.put.result _ _
    (λ set. frame_changed (is_frame c.args.top) (with_used c.args.role) c.args.cells.now.now _ c.in-Some.place c.in-Some.frame.now _ (rw (← c.items.ensures) c.in-Some.ensures) c.in_ok-frame.ensures set)
    c.put.ensures.now
