-- What is left once an order is carried out, by the calls of the slots.
use Rattle.std.specs.Prelude.{◌≡◌, ℕ, Bool, List, [], ◌∷◌, Option, Some, None, slice_get}
use Rattle.ow_traits.specs.declared.replies.Kind.{Kind}
use Rattle.ow_slots.specs.declared.keys.Key.{Key}
use Rattle.ow_slots.specs.declared.keys.Start.{Start}
use Rattle.ow_slots.specs.declared.keys.Start.TheVariants as starts
use Rattle.ow_slots.specs.declared.states.State.{State}
use Rattle.ow_slots.specs.declared.states.State.TheVariants.{Prewarmed, Idle}
use Rattle.ow_slots.specs.declared.states.Slot.{Slot}
use Rattle.ow_slots.specs.Key.{kind_of}
use Rattle.ow_slots.specs.Slots.{IsThere, change, change_first, has}
use Rattle.ow_slots.specs.State.{CanGo, IsVacant, StartFits, after_gone, answered_state, assigned, awaits, begun_state, holds, lost_state, opened, overrun_state, removed_state, runs, with_state}
use Rattle.ow_pool.specs.declared.answers.Head.{Head}
use Rattle.ow_pool.specs.declared.answers.Place.{Place}
use Rattle.ow_pool.specs.declared.answers.Place.TheVariants as places
use Rattle.ow_pool.specs.Rules.{IsWithinPool}

-- the container of a state is the one that a start with this key is to find
abbrev pub IsFor : Start → Key → State → Type 0
IsFor starts.Warm key (Idle own last_used) = own ≡ key
IsFor starts.Prewarmed key (Prewarmed kind memory) = (kind ≡ kind_of key.exec) × (memory ≡ key.memory)
IsFor starts.Cold key state = Unit {0}
IsFor start key state = ⊥

-- a run fits its slot, and leaves the slots within the pool
pub record IsRun (slots : List Slot) (key : Key) (pool : ℕ) (n : ℕ) (start : Start) : Type 0 where
  pub fits : IsThere (StartFits start) (slice_get slots n)
  pub own : IsThere (λ s. IsFor start key s.state) (slice_get slots n)
  pub kept : (run at : ℕ) → IsWithinPool (change n (assigned run key start at) slots) pool

-- the slots after removals
abbrev pub removed : List ℕ → List Slot → List Slot
removed [] slots = slots
removed (n ∷ ns) slots = removed ns (change n (with_state removed_state) slots)

-- each container can be removed, once those before it are
abbrev pub CanAllGo : List ℕ → List Slot → Type 0
CanAllGo [] slots = Unit {0}
CanAllGo (n ∷ ns) slots = IsThere CanGo (slice_get slots n) × CanAllGo ns (change n (with_state removed_state) slots)

pub record IsRemoval (slots : List Slot) (pool : ℕ) (ns : List ℕ) : Type 0 where
  pub fits : CanAllGo ns slots
  pub kept : IsWithinPool (removed ns slots) pool

pub record IsPrewarming (slots : List Slot) (pool : ℕ) (n : ℕ) (kind : Kind) (memory : ℕ) : Type 0 where
  pub fits : IsThere IsVacant (slice_get slots n)
  pub kept : (run : ℕ) → IsWithinPool (change n (opened run kind memory) slots) pool

-- an order can be carried out, and leaves the slots within the pool
abbrev pub IsCarriedOut : List Slot → Option Head → ℕ → Place → Type 0
IsCarriedOut slots (Some head) pool (places.Run n start) = IsRun slots head.key pool n start
IsCarriedOut slots None pool (places.Run n start) = ⊥
IsCarriedOut slots head pool (places.Remove ns) = IsRemoval slots pool ns
IsCarriedOut slots head pool (places.Prewarm n kind memory) = IsPrewarming slots pool n kind memory
IsCarriedOut slots head pool (places.Nothing reason) = Unit {0}

-- what leaves slots that are within a pool within it
abbrev pub Keeps : (List Slot → List Slot) → Type 0
Keeps f = (slots : List Slot) (pool : ℕ) → IsWithinPool slots pool → IsWithinPool (f slots) pool

-- no event raises what is held
pub record EventsKeep : Type 0 where
  pub begun : (run at : ℕ) → Keeps (change_first (has (awaits run)) (with_state (begun_state at)))
  pub answered : (run : ℕ) (alive : Bool) (at : ℕ) → Keeps (change_first (has (runs run)) (with_state (answered_state alive at)))
  pub lost : (run : ℕ) → Keeps (change_first (has (holds run)) (with_state lost_state))
  pub overran : (run at : ℕ) → Keeps (change_first (has (runs run)) (with_state (overrun_state at)))
  pub gone : (slot generation : ℕ) → Keeps (change slot (after_gone generation))
