-- What holds of slots by their last orders.
use Rattle.std.specs.Prelude.{◌≡◌, ◌≤◌, ℕ, true, Some, length, slice_get, sum_by}
use Rattle.std.specs.List.{list_any}
use Rattle.ow_slots.specs.declared.states.Slot.{Slot}
use Rattle.ow_slots.specs.Slots.{IsThere, first_with, has}
use Rattle.ow_slots.specs.State.{holds, recorded_of, runs, state_memory}
use Rattle.ow_slot_laws.specs.Life.{Life, held_of, is_running, overran_at, run_count, share_of, slot_of, slots_of, state_of, table}

-- the slot has this run
abbrev pub HasRun : ℕ → Slot → Type 0
HasRun run s = holds run s.state ≡ true

-- a slot of this number is there, and has this run
abbrev pub StandsAt : Life → ℕ → ℕ → ℕ → Type 0
StandsAt L n run i = IsThere (HasRun run) (slice_get (slots_of L n) i)

-- what holds of the runs that slots have
pub record RunsStand (L : Life) (n : ℕ) : Type 0 where
  -- each is in one slot
  pub alone : (run i j : ℕ) → StandsAt L n run i → StandsAt L n run j → i ≡ j
  -- each was ordered
  pub ordered : (run i : ℕ) → StandsAt L n run i → run ≤ run_count L
  -- a slot is busy with each that was ordered and hasn't ended, and with no other
  pub busy : (run : ℕ) → list_any (has (runs run)) (slots_of L n) ≡ is_running run L
  -- what its slot has recorded of it is what was recorded
  pub recorded : (run : ℕ) (s : Slot) → first_with (runs run) (slots_of L n) ≡ Some s → recorded_of s.state ≡ overran_at run L
  pub recorded_held : (run : ℕ) (s : Slot) → first_with (holds run) (slots_of L n) ≡ Some s → recorded_of s.state ≡ overran_at run L

-- what holds of the list of slots
pub record SlotsStand (L : Life) (n : ℕ) : Type 0 where
  pub count : length (slots_of L n) ≡ n
  pub here : (i : ℕ) (s : Slot) → slice_get (slots_of L n) i ≡ Some s → slot_of L i ≡ s
  -- each holds the memory of its last new container, or none
  pub memory : (i : ℕ) → state_memory (state_of L i) ≡ share_of L i
  pub held : held_of L n ≡ sum_by (λ m. m) (table (share_of L) 0 n)
