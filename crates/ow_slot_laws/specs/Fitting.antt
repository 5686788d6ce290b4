-- What each event makes of slots, and which events may come.
use Rattle.std.specs.Prelude.{◌≡◌, ◌+◌, ℕ, true, List, [], ◌∷◌, Some, None, map, slice_get}
use Rattle.ow_traits.specs.declared.prewarms.Prewarm.{Prewarm}
use Rattle.ow_slots.specs.declared.keys.Key.{Key}
use Rattle.ow_slots.specs.declared.keys.Start.{Start}
use Rattle.ow_slots.specs.declared.states.State.TheVariants.{Vacant}
use Rattle.ow_slots.specs.declared.states.Slot.{Slot}
use Rattle.ow_slots.specs.Slots.{IsThere, change, change_first, first_with, has}
use Rattle.ow_slots.specs.State.{IsMemory, IsUnrecorded, IsVacant, StartFits, after_gone, answered_state, assigned, awaits, begun_state, goes, holds, lost_state, opened, overrun_state, runs, with_state}
use Rattle.ow_pool.specs.declared.answers.Head.{Head}
use Rattle.ow_pool.specs.declared.answers.Place.TheVariants as places
use Rattle.ow_pool.specs.Keeping.{CanAllGo, IsFor, removed}
use Rattle.ow_pool.specs.Rules.{IsWithinPool, place_of}
use Rattle.ow_slot_laws.specs.Life.{Event, Life, Ran, Prewarming, Removed, Begun, Answered, Lost, Gone, Overran, Reopened, run_count, slots_of}

-- every slot is vacant, and keeps its generation
abbrev pub emptied : List Slot → List Slot
emptied slots = map (with_state (λ state. Vacant)) slots

-- the slots after an event
abbrev pub changed : Event → List Slot → List Slot
changed (Ran slot run key start at) slots = change slot (assigned run key start at) slots
changed (Prewarming slot run kind memory) slots = change slot (opened run kind memory) slots
changed (Removed ns) slots = removed ns slots
changed (Begun run at) slots = change_first (has (awaits run)) (with_state (begun_state at)) slots
changed (Answered run alive at) slots = change_first (has (runs run)) (with_state (answered_state alive at)) slots
changed (Lost run) slots = change_first (has (holds run)) (with_state lost_state) slots
changed (Gone slot generation) slots = change slot (after_gone generation) slots
changed (Overran run at) slots = change_first (has (runs run)) (with_state (overrun_state at)) slots
changed Reopened slots = emptied slots

-- the run is the next, and fits its slot
pub record IsNextRun (slots : List Slot) (count slot run : ℕ) (key : Key) (start : Start) : Type 0 where
  pub next : run ≡ count + 1
  pub fits : IsThere (StartFits start) (slice_get slots slot)
  pub own : IsThere (λ s. IsFor start key s.state) (slice_get slots slot)

-- the run of a container ahead is the next, and its slot is vacant
pub record IsNextPrewarming (slots : List Slot) (count slot run : ℕ) : Type 0 where
  pub next : run ≡ count + 1
  pub fits : IsThere IsVacant (slice_get slots slot)

abbrev pub IsAny : Slot → Type 0
IsAny s = Unit {0}

abbrev pub Goes : ℕ → Slot → Type 0
Goes generation s = goes generation s ≡ true

-- an event may come over these slots, after this many runs were ordered
abbrev pub IsFit : Event → List Slot → ℕ → Type 0
IsFit (Ran slot run key start at) slots count = IsNextRun slots count slot run key start
IsFit (Prewarming slot run kind memory) slots count = IsNextPrewarming slots count slot run
IsFit (Removed ns) slots count = CanAllGo ns slots
IsFit (Begun run at) slots count = IsThere IsAny (first_with (awaits run) slots)
IsFit (Answered run alive at) slots count = IsThere IsAny (first_with (runs run) slots)
IsFit (Lost run) slots count = IsThere IsAny (first_with (holds run) slots)
IsFit (Gone slot generation) slots count = IsThere (Goes generation) (slice_get slots slot)
IsFit (Overran run at) slots count = IsThere IsUnrecorded (first_with (runs run) slots)
IsFit Reopened slots count = Unit {0}

-- each event fits what was before it, in n slots
abbrev pub AreFit : Life → ℕ → Type 0
AreFit [] n = Unit {0}
AreFit (event ∷ L) n = IsFit event (slots_of L n) (run_count L) × AreFit L n

-- what the rules place for some head that is sized: a removal
pub record IsRemovalPlaced (slots : List Slot) (wants : List Prewarm) (pool : ℕ) (ns : List ℕ) : Type 0 where
  pub head : Head
  pub sized : IsMemory head.key.memory
  pub placed : place_of slots (Some head) wants pool ≡ places.Remove ns

-- what the rules place for a head that is sized: a run
pub record IsRunPlaced (slots : List Slot) (wants : List Prewarm) (pool slot : ℕ) (key : Key) (start : Start) : Type 0 where
  pub sized : IsMemory key.memory
  pub placed : place_of slots (Some (record { key = key })) wants pool ≡ places.Run slot start

-- an order is what the rules place over these slots
abbrev pub IsPlaced : Event → List Slot → List Prewarm → ℕ → Type 0
IsPlaced (Ran slot run key start at) slots wants pool = IsRunPlaced slots wants pool slot key start
IsPlaced (Prewarming slot run kind memory) slots wants pool = place_of slots None wants pool ≡ places.Prewarm slot kind memory
IsPlaced (Removed ns) slots wants pool = IsRemovalPlaced slots wants pool ns
IsPlaced event slots wants pool = Unit {0}

-- each order is what the rules place over the slots before it
abbrev pub ArePlaced : Life → ℕ → List Prewarm → ℕ → Type 0
ArePlaced [] n wants pool = Unit {0}
ArePlaced (event ∷ L) n wants pool = IsPlaced event (slots_of L n) wants pool × ArePlaced L n wants pool

-- the slots are within the pool, now and after each event before
abbrev pub AreWithinPool : Life → ℕ → ℕ → Type 0
AreWithinPool [] n pool = IsWithinPool (slots_of [] n) pool
AreWithinPool (event ∷ L) n pool = IsWithinPool (slots_of (event ∷ L) n) pool × AreWithinPool L n pool
