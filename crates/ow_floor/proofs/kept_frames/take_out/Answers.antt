use Rattle.ow_floor.specs.Frames.{is_frame}
use Rattle.ow_floor.proofs.Framing.{frame_absent, frame_removed}
use Rattle.ow_floor.proofs.Results.{on_more}
use Rattle.ow_floor.proofs.kept_frames.take_out.Goals as goal

pub returns-in-None-clause-now : goal.returns-in-None-clause-now
returns-in-None-clause-now c = rw (← c.items.ensures) (frame_absent (is_frame c.args.id) c.items.result.now c.in-None.ensures)

pub returns-in-Some-clause-now : goal.returns-in-Some-clause-now
returns-in-Some-clause-now c =
    on_more c.put.result _ _ (λ set. frame_removed (is_frame c.args.id) c.args.cells.now.now _ c.in-Some.place (rw (← c.items.ensures) c.in-Some.ensures) set) c.put.ensures.now
