-- For private clauses: a list and slots that can be held, and the steps that undo what was done since.
use Rattle.std.specs.Prelude.{◌-◌, ◌++◌, ℕ, Bool, List, [], ◌∷◌, Option, Some, None, if◌then◌else◌, length, take, slice_set, slice_get}
use Rattle.ow_floor.specs.declared.undoable.Step.{Step}
use Rattle.ow_floor.specs.declared.undoable.Step.TheVariants.{Added, Was, All}
use Rattle.ow_floor.specs.declared.kept_slots.SlotStep.{SlotStep}
use Rattle.ow_floor.specs.declared.kept_slots.SlotStep.TheVariants as slot_steps
use Rattle.ow_records.specs.declared.frames.Frame.{Frame}
use Rattle.ow_slots.specs.declared.states.Slot.{Slot}
use Rattle.ow_slots.specs.Slots.{change}

-- the list now, and as it was at the last hold; for how many more elements and steps there is room
pub record UndoableView (X : Type 0) : Type 0 where
  pub now : List X
  pub before : List X
  pub space : ℕ
  pub slack : ℕ

abbrev pub but_last : {X : Type 0} → List X → List X
but_last xs = take (length xs - 1) xs

-- one change is undone
abbrev pub undo : {X : Type 0} → Step X → List X → List X
undo Added xs = but_last xs
undo (Was place x) xs = slice_set xs place x
undo (All old) xs = old.items

-- all are undone, the last first
abbrev pub undone : {X : Type 0} → List (Step X) → List X → List X
undone [] xs = xs
undone (s ∷ ss) xs = undo s (undone ss xs)

-- what was before, where it is held
abbrev pub past : {X : Type 0} → Bool → X → Option X
past held x = if held then Some x else None

-- the steps with one more, where it is held
abbrev pub noted : {X : Type 0} → Bool → Step X → List (Step X) → List (Step X)
noted held s ss = if held then ss ++ s ∷ [] else ss

-- ---- slots

-- the slots now, and as they were at the last hold
pub record SlotsView : Type 0 where
  pub now : List Slot
  pub before : List Slot

-- the frames of open composites now, and as they were at the last hold
pub record FramesView : Type 0 where
  pub now : List Frame
  pub before : List Frame

-- one change is undone
abbrev pub restore : SlotStep → List Slot → List Slot
restore (slot_steps.Was slot old) slots = change slot (λ s. old) slots
restore (slot_steps.All old) slots = old

-- all are undone, the last first
abbrev pub restored : List SlotStep → List Slot → List Slot
restored [] slots = slots
restored (s ∷ ss) slots = restore s (restored ss slots)

abbrev pub noted_slot : ℕ → Option Slot → List SlotStep → List SlotStep
noted_slot slot None ss = ss
noted_slot slot (Some old) ss = ss ++ slot_steps.Was slot old ∷ []

-- the steps with one more, the slot of this number as it is, where it is held
abbrev pub slot_noted : Bool → ℕ → List Slot → List SlotStep → List SlotStep
slot_noted held slot slots ss = if held then noted_slot slot (slice_get slots slot) ss else ss

-- the steps with one more, all slots as they are, where it is held
abbrev pub all_noted : Bool → List Slot → List SlotStep → List SlotStep
all_noted held slots ss = if held then ss ++ slot_steps.All slots ∷ [] else ss

-- the steps with one more, the slot of this number as it is, where there is a number and it is held
abbrev pub run_noted : Bool → Option ℕ → List Slot → List SlotStep → List SlotStep
run_noted held None slots ss = ss
run_noted held (Some slot) slots ss = slot_noted held slot slots ss
