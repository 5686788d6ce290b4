-- For private clauses: places in lists.
use Rattle.std.specs.Prelude.{◌≡◌, ◌<◌, ℕ, Bool, false, List, Option, Some, None, length, slice_index_or, slice_set}
use Rattle.std.specs.List.{find}
use Rattle.ow_records.specs.declared.ids.Id.{Id}
use Rattle.ow_records.specs.Id.{same_id}
use Rattle.ow_records.specs.declared.activations.Activation.{Activation}
use Rattle.ow_floor.specs.declared.activations.Open.{Open}
use Rattle.ow_floor.specs.declared.lists.Spot.{Spot}
use Rattle.ow_slots.specs.declared.states.Slot.{Slot}
use Rattle.ow_slots.specs.State.{recorded_of}
use Rattle.ow_slots.specs.Slots.{change_first}
use Rattle.ow_records.specs.declared.frames.Frame.{Frame}
use Rattle.ow_floor.specs.Store.{IsCell, there}

-- the first that passes is at this place
pub record IsPlace {X : Type 0} (p : X → Bool) (xs : List X) (place : ℕ) : Type 0 where
  pub item : X
  pub within : place < length xs
  pub here : (d : X) → slice_index_or xs place d ≡ item
  pub found : find p xs ≡ Some item
  pub updated : (f : X → X) → slice_set xs place (f item) ≡ change_first p f xs

-- such a place, where one passes
abbrev pub PlaceOf : {X : Type 0} → (X → Bool) → List X → Option ℕ → Type 0
PlaceOf p xs None = find p xs ≡ None
PlaceOf p xs (Some place) = IsPlace p xs place

-- it is there and passes
abbrev pub has : {X Y : Type 0} → (X → Y) → (Y → Bool) → Option X → Bool
has g p None = false
has g p (Some x) = p (g x)

-- an open activation is there and passes
abbrev pub has_open : (Open → Bool) → Spot → Option Activation → Bool
has_open p s None = false
has_open p s (Some a) = p (record { task = a; state = s.state })

-- the activation of this id is there
abbrev pub has_id : Id → Option Activation → Bool
has_id id None = false
has_id id (Some a) = same_id a.id id

-- what a sweep recorded of the run of a slot, where there is a slot
abbrev pub recorded_there : Option Slot → Option (Option ℕ)
recorded_there None = None
recorded_there (Some s) = Some (recorded_of s.state)

-- the first frame that passes, and its place
pub record IsFrameAt (p : Frame → Bool) (cells : List (Option Frame)) (place : ℕ) (f : Frame) : Type 0 where
  pub cell : IsCell (λ f. f) p cells place
  pub same : cell.item ≡ f

abbrev pub FrameOf : (Frame → Bool) → List (Option Frame) → Option (ℕ × Frame) → Type 0
FrameOf p cells None = find p (there (λ f. f) cells) ≡ None
FrameOf p cells (Some found) = IsFrameAt p cells found.0 found.1
