use Rattle.std.proofs.Common.{◌≡◌, ◌∙◌, Some, sym}
use Rattle.ow_floor.specs.Frames.{is_frame}
use Rattle.ow_floor.specs.Store.{IsCell}
use Rattle.ow_floor.proofs.kept_frames.found.Goals as goal

pub returns : goal.returns
returns c =
    let cell : IsCell (λ f. f) (is_frame c.args.id) c.args.cells.now c.in_ok-place.place = c.in_ok-place.ensures in
    let e : Some cell.item ≡ Some c.in-Some.frame = sym (cell.here c.index-cells-place.result) ∙ (sym c.index-cells-place.is ∙ c.in-Some.is) in
    record { cell = cell; same = cc }
