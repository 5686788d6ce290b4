use Rattle.std.proofs.Common.{◌≡◌, ◌<◌, ◌≤◌, ℕ, false, get_or, length}
use Rattle.std.specs.Prelude.{Option}
use Rattle.ow_records.specs.declared.frames.Frame.{Frame}
use Rattle.ow_floor.specs.Frames.{is_frame}
use Rattle.ow_floor.specs.Places.{has}
use Rattle.ow_floor.proofs.kept_frames.frame_place.Given as goal

abbrev pub invariant-loop-i : goal.invariant-loop-i
invariant-loop-i l = (l.i ≤ length l.cells) × ((d : Option Frame) (j : ℕ) → j < l.i → has (λ f. f) (is_frame l.id) (get_or l.cells j d) ≡ false)
