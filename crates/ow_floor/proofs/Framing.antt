-- What changes of frames show.
use Rattle.std.proofs.Common.{◌≡◌, ◌++◌, ℕ, Bool, true, false, List, [], ◌∷◌, Option, Some, None, refl, sym, ap, ◌∙◌}
use Rattle.std.specs.List.{find}
use Rattle.std.specs.Prelude.{slice_set}
use Rattle.ow_records.specs.declared.frames.Frame.{Frame}
use Rattle.ow_slots.specs.Slots.{change_first}
use Rattle.ow_floor.specs.Undoable.{past}
use Rattle.ow_floor.specs.Places.{IsFrameAt}
use Rattle.ow_floor.specs.Store.{IsCell, there}
use Rattle.ow_floor.specs.View.{remove_first}
use Rattle.ow_floor.proofs.Firsts.{remove_none, update_none}
use Rattle.ow_floor.proofs.Showing.{there_push}

-- the frames that are there
abbrev pub seen : List (Option Frame) → List Frame
seen cells = there (λ f. f) cells

-- the frame that was found changes
pub frame_changed : (p : Frame → Bool) (f : Frame → Frame) (cells after : List (Option Frame)) (place : ℕ) (old new : Frame) → IsFrameAt p cells place old → new ≡ f old → after ≡ slice_set cells place (Some new)
    → seen after ≡ change_first p f (seen cells)
frame_changed p f cells after place old new here is set = ap seen set ∙ here.cell.changed f new (is ∙ ap f (sym here.same))

-- none was found
pub frame_same : (p : Frame → Bool) (f : Frame → Frame) (cells : List (Option Frame)) → find p (seen cells) ≡ None → seen cells ≡ change_first p f (seen cells)
frame_same p f cells none = sym (update_none p f (seen cells) none)

pub frame_removed : (p : Frame → Bool) (cells after : List (Option Frame)) (place : ℕ) → IsCell (λ f. f) p cells place → after ≡ slice_set cells place None → seen after ≡ remove_first p (seen cells)
frame_removed p cells after place here set = ap seen set ∙ here.removed

pub frame_absent : (p : Frame → Bool) (cells : List (Option Frame)) → find p (seen cells) ≡ None → seen cells ≡ remove_first p (seen cells)
frame_absent p cells none = sym (remove_none p (seen cells) none)

-- what was before is shown as it was
pub past_seen : (held : Bool) (a b : List (Option Frame)) → past held a ≡ past held b → past held (seen a) ≡ past held (seen b)
past_seen true a b e = let same : a ≡ b = cc in ap (λ cells. Some (seen cells)) same
past_seen false a b e = refl

pub frame_added : (cells after : List (Option Frame)) (f : Frame) → after ≡ cells ++ Some f ∷ [] → seen after ≡ seen cells ++ f ∷ []
frame_added cells after f is = ap seen is ∙ there_push (λ x. x) cells f
