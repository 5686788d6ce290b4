-- The steps that composites owe, one after another.
use Rattle.std.specs.Prelude.{◌+◌, ◌++◌, ℕ, zero, suc, [], ◌∷◌, length, if◌then◌else◌, option_map, Option, Some, None}
use Rattle.std.specs.List.{find}
use Rattle.std.specs.Option.{option_or}
use Rattle.ow_packages.specs.Access.{Standing}
use Rattle.ow_records.specs.Form.{is_composite}
use Rattle.ow_records.specs.declared.activations.Activation.{Activation}
use Rattle.ow_records.specs.declared.forms.Form.{Form}
use Rattle.ow_records.specs.declared.frames.Frame.{Frame}
use Rattle.ow_records.specs.declared.ids.Id.{Id}
use Rattle.ow_records.specs.declared.outcomes.Ending.{Ending}
use Rattle.ow_records.specs.declared.outcomes.Ending.TheVariants.{Composed, Overran}
use Rattle.ow_floor.specs.Calls.{activation_of, ended_by, note_swept_items, overrun_first}
use Rattle.ow_floor.specs.Frames.{is_frame}
use Rattle.ow_floor.specs.Trace.{Accepted, Ended, Item, Trace, open_items, shown, task_by}
use Rattle.ow_floor.specs.View.{Shown, is_of}
use Rattle.ow_trees.specs.Advance.{advance_of}
use Rattle.ow_trees.specs.declared.advances.Advance.{Advance}
use Rattle.ow_trees.specs.declared.advances.Advance.TheVariants.{Call, End}
use Rattle.ow_trees.specs.declared.bounds.TheConstants.{MOST_STEPS}

-- ---- one step

-- a child is accepted, or the composite ends with the children that its frame has
abbrev pub item_of : ℕ → Activation → Frame → Advance → Item
item_of at a f (Call plan) = Accepted (activation_of at plan)
item_of at a f (End r) = Ended (ended_by at (Composed r f.children) None a)

abbrev pub step_by : Standing → ℕ → Shown → Option Activation → Option Frame → Option Item
step_by rs at v None f = None
step_by rs at v (Some a) None = None
step_by rs at v (Some a) (Some f) = option_map (item_of at a f) (advance_of rs v a f)

-- over the lists of a floor
abbrev pub step_on : Standing → ℕ → Shown → Id → Option Item
step_on rs at v id = step_by rs at v (task_by (find (is_of id) v.open_items)) (find (is_frame id) v.frames)

-- the one item that the composite of this id owes now: none where it isn't open, or its last child is
abbrev pub step : Standing → ℕ → Trace → Id → Option Item
step rs at T id = step_on rs at (shown T) id

-- ---- what follows

-- the id, unless an activation of this form is a leaf
abbrev pub unless_leaf : Form → Id → Option Id
unless_leaf form id = if is_composite form then Some id else None

-- which composite may owe a step after the item: the one that was accepted, or the cause of what has ended
abbrev pub next_of : Item → Option Id
next_of (Accepted a) = unless_leaf a.form a.id
next_of (Ended e) = e.task.cause
next_of item = None

-- by the newest of these items that names one
abbrev pub next_in : Trace → Option Id
next_in [] = None
next_in (item ∷ items) = option_or (next_of item) (next_in items)

abbrev pub items_by : Option Item → (Item → Trace) → Trace
items_by None follow = []
items_by (Some item) follow = follow item

-- at most this many steps after a trace, the newest first: each is owed by the composite that the item before it names
abbrev pub stepped : ℕ → Standing → ℕ → Trace → Option Id → Trace
stepped zero rs at T next = []
stepped (suc n) rs at T None = []
stepped (suc n) rs at T (Some id) = items_by (step rs at T id) (λ item. stepped n rs at (item ∷ T) (next_of item) ++ item ∷ [])

-- these items, and the steps that follow
abbrev pub steps_after : Standing → ℕ → Trace → Trace → Trace
steps_after rs at T items = stepped MOST_STEPS rs at (items ++ T) (next_in items) ++ items

-- ---- sweeps

abbrev pub unless_empty : Trace → (Trace → Trace) → Trace
unless_empty [] follow = []
unless_empty (item ∷ items) follow = follow (item ∷ items)

-- the first late run ends what it carries, and steps follow; then the next
abbrev pub swept_on : ℕ → Standing → ℕ → Trace → Trace
swept_on zero rs at T = []
swept_on (suc n) rs at T = unless_empty (overrun_first at T) (λ items. swept_on n rs at (steps_after rs at T items ++ T) ++ steps_after rs at T items)

-- each late run ends what it carries; no more runs are late than activations are open
abbrev pub swept_all : Standing → ℕ → Trace → Trace
swept_all rs at T = swept_on (length (open_items T)) rs at T

-- what a sweep adds: these, and then it is swept
abbrev pub sweep_items : Standing → ℕ → Trace → Trace
sweep_items rs at T = note_swept_items at ++ swept_all rs at T

abbrev pub one_if_late : Ending → ℕ
one_if_late Overran = 1
one_if_late ending = 0

abbrev pub late_by : Item → ℕ
late_by (Ended e) = one_if_late e.ending
late_by item = 0

-- how many ended since their runs were late
abbrev pub late_in : Trace → ℕ
late_in [] = 0
late_in (item ∷ items) = late_by item + late_in items
