use Rattle.std.proofs.Common.{sym, ◌∙◌, arith}
use Rattle.ow_floor.specs.Frames.{is_frame}
use Rattle.ow_floor.proofs.Finding.{any_default}
use Rattle.ow_floor.proofs.Going.{cell_found, gone_within, none_has, none_there_at}
use Rattle.ow_floor.proofs.kept_frames.frame_place.Goals as goal

pub loop-i-init : goal.loop-i-init
loop-i-init c = (gone_within _ _ c.requires, none_has (λ f. f) (is_frame c.args.id) c.args.gone c.args.cells.now c.requires)

pub returns-then-is_frame : goal.returns-then-is_frame
returns-then-is_frame c =
    cell_found (λ f. f) (is_frame c.args.id) c.args.cells.now c.loop-i.i c.index-cells-i.result c.loop-i-test.true
    (λ d. any_default c.args.cells.now c.loop-i.i d c.index-cells-i.result c.loop-i-test.true ∙ sym c.index-cells-i.is) (sym c.if-is_frame.ensures) c.loop-i.invariant.1

pub returns : goal.returns
returns c = none_there_at (λ f. f) (is_frame c.args.id) c.args.cells.now (λ d j lt. c.loop-i.invariant.1 d j (omega (arith, lt, c.loop-i-test.false, c.loop-i.auto.i-end)))
