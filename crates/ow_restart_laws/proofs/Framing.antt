-- What composites have heard of their children nests no deeper than what runs answer.
use Rattle.std.proofs.Common.{◌≡◌, List, [], ◌∷◌, Option, Some, None}
use Rattle.std.specs.List.{AllByRecursion, find}
use Rattle.ow_records.specs.Frame.{first_frame, with_child, with_end, with_used}
use Rattle.ow_records.specs.Response.{ResponseView}
use Rattle.ow_records.specs.declared.forms.Form.{Form}
use Rattle.ow_records.specs.declared.forms.Form.TheVariants as forms
use Rattle.ow_records.specs.declared.forms.Role.{Role}
use Rattle.ow_records.specs.declared.frames.Frame.{Frame}
use Rattle.ow_records.specs.declared.ids.Id.{Id}
use Rattle.ow_floor.specs.Frames.{called_by, framed, heard_by, is_frame, unframed}
use Rattle.ow_floor.specs.Trace.{Accepted, Ended, Item, Trace, frames, frames_after, record_of}
use Rattle.ow_floor.proofs.Firsts.{all_found, all_push, all_removed, all_updated}
use Rattle.ow_slots.specs.Slots.{change_first}
use Rattle.ow_commits.proofs.Shallow.{IsShallow, outcome_shallow}
use Rattle.ow_restart_laws.specs.Lasting.{AreEarly, IsEarly}
use Rattle.ow_restart_laws.proofs.Composing.{IsFrameShallow}

abbrev AreShallow : List Frame → Type 0
AreShallow fs = AllByRecursion IsFrameShallow fs

-- ---- acceptances

-- no new child has ended
called_shallow : (cause : Option Id) (top : Id) (role : Role) (child : Id) (fs : List Frame) → AreShallow fs → AreShallow (called_by cause top role child fs)
called_shallow None top role child fs all = all
called_shallow (Some cause) top role child fs all =
    all_updated IsFrameShallow (is_frame cause) (with_child child) (change_first (is_frame top) (with_used role) fs) (λ f h. tt)
    (all_updated IsFrameShallow (is_frame top) (with_used role) fs (λ f h. h) all)

framed_shallow : (form : Form) (id : Id) (fs : List Frame) → AreShallow fs → AreShallow (framed form id fs)
framed_shallow forms.Leaf id fs all = all
framed_shallow forms.Sequence id fs all = all_push IsFrameShallow (first_frame id) fs tt all
framed_shallow forms.Conductor id fs all = all_push IsFrameShallow (first_frame id) fs tt all

-- ---- ends

unframed_shallow : (form : Form) (id : Id) (fs : List Frame) → AreShallow fs → AreShallow (unframed form id fs)
unframed_shallow forms.Leaf id fs all = all
unframed_shallow forms.Sequence id fs all = all_removed IsFrameShallow (is_frame id) fs all
unframed_shallow forms.Conductor id fs all = all_removed IsFrameShallow (is_frame id) fs all

heard_shallow : (cause : Option Id) (role : Role) (r : ResponseView) (fs : List Frame) → IsShallow r → AreShallow fs → AreShallow (heard_by cause role r fs)
heard_shallow None role r fs h all = all
heard_shallow (Some cause) role r fs h all = all_updated IsFrameShallow (is_frame cause) (with_end role r) fs (λ f k. h) all

-- ---- a trace

item_shallow : (item : Item) (fs : List Frame) → IsEarly item → AreShallow fs → AreShallow (frames_after item fs)
item_shallow (Accepted a) fs early all = framed_shallow a.form a.id (called_by a.cause a.top a.role a.id fs) (called_shallow a.cause a.top a.role a.id fs all)
item_shallow (Ended e) fs early all =
    heard_shallow e.task.cause e.task.role (record_of e).response (unframed e.task.form e.task.id fs) (outcome_shallow e.ending e.task.action.limits early.2)
    (unframed_shallow e.task.form e.task.id fs all)
item_shallow item fs early all = all

all_shallow : (T : Trace) → AreEarly T → AreShallow (frames T)
all_shallow [] early = tt
all_shallow (item ∷ T) early = item_shallow item (frames T) early.0 (all_shallow T early.1)

-- what the composite of an id has heard, where what happened lasts
pub frame_shallow : (id : Id) (f : Frame) (T : Trace) → AreEarly T → find (is_frame id) (frames T) ≡ Some f → IsFrameShallow f
frame_shallow id f T early found = all_found IsFrameShallow (is_frame id) f (frames T) (all_shallow T early) found
