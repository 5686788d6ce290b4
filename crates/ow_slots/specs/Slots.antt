-- Lists of slots, of which each event changes one.
use Rattle.std.specs.Prelude.{◌≡◌, ◌<◌, length, slice_index_or, slice_set, sum_by, ℕ, zero, suc, Bool, true, List, [], ◌∷◌, Option, Some, None, if◌then◌else◌, Result, Ok, Err}
use Rattle.std.specs.List.{find}
use Rattle.ow_slots.specs.declared.states.State.{State}
use Rattle.ow_slots.specs.declared.states.State.TheVariants.{Vacant}
use Rattle.ow_slots.specs.declared.states.Slot.{Slot}
use Rattle.ow_slots.specs.declared.refusal.SlotRefusal.{SlotRefusal}
use Rattle.ow_slots.specs.declared.refusal.SlotRefusal.TheVariants.{NoSlot, NoRun}
use Rattle.ow_slots.specs.State.{state_memory, goes}

-- the memory that slots hold together
abbrev pub memory_held : List Slot → ℕ
memory_held slots = sum_by (λ s. state_memory s.state) slots

-- a slot that had no container yet
abbrev pub vacant_slot : Slot
vacant_slot = record { generation = 0; state = Vacant }

-- the slot of this number is changed, and all others stay
unfoldable pub change : {X : Type 0} → ℕ → (X → X) → List X → List X
change i f [] = []
change zero f (x ∷ xs) = f x ∷ xs
change (suc i) f (x ∷ xs) = x ∷ change i f xs

-- the first slot that passes is changed, and all others stay
unfoldable pub change_first : {X : Type 0} → (X → Bool) → (X → X) → List X → List X
change_first p f [] = []
change_first p f (x ∷ xs) = if p x then f x ∷ xs else x ∷ change_first p f xs

abbrev pub has : (State → Bool) → Slot → Bool
has p s = p s.state

-- the first slot whose state passes
abbrev pub first_with : (State → Bool) → List Slot → Option Slot
first_with p slots = find (has p) slots

-- a slot is there, and this holds of it
abbrev pub IsThere : (Slot → Type 0) → Option Slot → Type 0
IsThere P None = ⊥
IsThere P (Some s) = P s

abbrev pub refusal_number : SlotRefusal → ℕ
refusal_number (NoSlot slot generation) = 28
refusal_number (NoRun run) = 29

-- refused where no slot has such a run
abbrev pub run_answer : {X : Type 0} → ℕ → (Slot → X) → Option Slot → Result X SlotRefusal
run_answer run f None = Err (NoRun run)
run_answer run f (Some s) = Ok (f s)

abbrev pub slot_answer : ℕ → ℕ → Slot → Result (Unit {0}) SlotRefusal
slot_answer slot generation s = if goes generation s then Ok tt else Err (NoSlot slot s.generation)

-- refused where the slot isn't there, has another generation, or has no container that can be gone
abbrev pub gone_answer : ℕ → ℕ → Option Slot → Result (Unit {0}) SlotRefusal
gone_answer slot generation None = Err (NoSlot slot 0)
gone_answer slot generation (Some s) = slot_answer slot generation s

-- the first that passes is at this place, for private clauses
pub record IsPlace {X : Type 0} (p : X → Bool) (xs : List X) (place : ℕ) : Type 0 where
  pub item : X
  pub within : place < length xs
  pub here : (d : X) → slice_index_or xs place d ≡ item
  pub passes : p item ≡ true
  pub found : find p xs ≡ Some item
  pub changed : (f : X → X) → slice_set xs place (f item) ≡ change_first p f xs

-- such a place, where one passes, for private clauses
abbrev pub PlaceOf : {X : Type 0} → (X → Bool) → List X → Option ℕ → Type 0
PlaceOf {X = X} p xs None = (find p xs ≡ None) × ((f : X → X) → change_first p f xs ≡ xs)
PlaceOf p xs (Some place) = IsPlace p xs place
