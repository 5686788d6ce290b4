-- What is kept of open composites, by their acceptance, and what acceptances and ends make of it.
use Rattle.std.specs.Prelude.{◌++◌, List, [], ◌∷◌, Bool, Option, Some, None}
use Rattle.ow_value.specs.Value.{Pairs}
use Rattle.ow_records.specs.Frame.{first_frame, with_child, with_end, with_used}
use Rattle.ow_records.specs.Id.{same_id}
use Rattle.ow_records.specs.Response.{ResponseView}
use Rattle.ow_records.specs.declared.activations.Activation.{Activation}
use Rattle.ow_records.specs.declared.forms.Form.{Form}
use Rattle.ow_records.specs.declared.forms.Form.TheVariants.{Leaf, Sequence, Conductor}
use Rattle.ow_records.specs.declared.forms.Role.{Role}
use Rattle.ow_records.specs.declared.frames.Frame.{Frame}
use Rattle.ow_records.specs.declared.ids.Id.{Id}
use Rattle.ow_slots.specs.Slots.{change_first}
use Rattle.ow_floor.specs.declared.activations.Part.{Part}
use Rattle.ow_floor.specs.View.{remove_first}

-- whether a frame is that of the composite
abbrev pub is_frame : Id → Frame → Bool
is_frame id f = same_id f.id id

-- what part an activation has in its composition
abbrev pub part_of : Activation → Part
part_of a = record { id = a.id; form = a.form; role = a.role; cause = a.cause; top = a.top }

-- ---- acceptances

-- the first composite of the tree has used one more, and the cause has one more child
abbrev pub called : Id → Id → Role → Id → List Frame → List Frame
called cause top role child fs = change_first (is_frame cause) (with_child child) (change_first (is_frame top) (with_used role) fs)

abbrev pub called_by : Option Id → Id → Role → Id → List Frame → List Frame
called_by None top role child fs = fs
called_by (Some cause) top role child fs = called cause top role child fs

-- a composite has a frame from now on
abbrev pub framed : Form → Id → List Frame → List Frame
framed Leaf id fs = fs
framed Sequence id fs = fs ++ first_frame id ∷ []
framed Conductor id fs = fs ++ first_frame id ∷ []

abbrev pub frames_accepted : Part → List Frame → List Frame
frames_accepted p fs = framed p.form p.id (called_by p.cause p.top p.role p.id fs)

-- ---- ends

-- a composite has no frame any more
abbrev pub unframed : Form → Id → List Frame → List Frame
unframed Leaf id fs = fs
unframed Sequence id fs = remove_first (is_frame id) fs
unframed Conductor id fs = remove_first (is_frame id) fs

-- the cause hears what the child answered
abbrev pub heard_by : Option Id → Role → ResponseView → List Frame → List Frame
heard_by None role r fs = fs
heard_by (Some cause) role r fs = change_first (is_frame cause) (with_end role r) fs

abbrev pub frames_ended : Part → ResponseView → List Frame → List Frame
frames_ended p r fs = heard_by p.cause p.role r (unframed p.form p.id fs)

-- ---- readers

-- the direct children of a composite, by their acceptance
abbrev pub children_of : Option Frame → List Id
children_of None = []
children_of (Some f) = f.children

-- the parameters that an action has itself, which a conductor keeps
abbrev pub own_of : Form → Pairs → Pairs
own_of Leaf params = []
own_of Sequence params = []
own_of Conductor params = params
