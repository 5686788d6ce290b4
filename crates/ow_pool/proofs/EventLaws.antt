-- No event raises the memory held.
use Rattle.std.proofs.Common.{◌≡◌, ◌≤◌, ◌&&◌, ℕ, Bool, true, false, cond, List, refl, arith}
use Rattle.std.specs.Prelude.{is_none}
use Rattle.ow_slots.specs.declared.keys.Key.{Key}
use Rattle.ow_slots.specs.declared.states.State.{State}
use Rattle.ow_slots.specs.declared.states.State.TheVariants.{Vacant, Opening, Prewarmed, Busy, Idle, Closing}
use Rattle.ow_slots.specs.declared.states.Slot.{Slot}
use Rattle.ow_slots.specs.Slots.{change, change_first, has}
use Rattle.ow_slots.specs.State.{IsMemory, IsSized, after_gone, answered_state, awaits, begun_state, goes, gone_state, holds, lost_state, overrun_state, removed_state, runs, state_memory, with_state}
use Rattle.ow_pool.specs.Keeping.{EventsKeep}
use Rattle.ow_pool.specs.Rules.{IsWithinPool}
use Rattle.ow_pool.proofs.Sums.{Sized, all_change, all_first, less_change, less_first, size}

-- a change of states that raises no memory, and leaves each the memory of some action
pub record Lessens (f : State → State) : Type 0 where
  pub less : (s : State) → state_memory (f s) ≤ state_memory s
  pub sized : (s : State) → IsSized s → IsSized (f s)

first_keeps : (p : State → Bool) (f : State → State) → Lessens f → (slots : List Slot) (pool : ℕ) → IsWithinPool slots pool → IsWithinPool (change_first (has p) (with_state f) slots) pool
first_keeps p f lessens slots pool keeps =
    let le = less_first (has p) (with_state f) slots (λ s e. lessens.less s.state) in
    let before = keeps.within in
    record {
      within = omega (arith, le, before);
      sized = all_first Sized (has p) (with_state f) slots (λ s. lessens.sized s.state) keeps.sized;
    }

pub begun_lessens : (at : ℕ) → Lessens (begun_state at)
begun_lessens at = record { less = less; sized = sized }
  where
    less : (s : State) → state_memory (begun_state at s) ≤ state_memory s
    less Vacant = omega arith
    less (Opening r k m) = omega arith
    less (Prewarmed k m) = omega arith
    less (Busy w) = omega arith
    less (Idle key last) = omega arith
    less (Closing m) = omega arith

    sized : (s : State) → IsSized s → IsSized (begun_state at s)
    sized Vacant h = h
    sized (Opening r k m) h = h
    sized (Prewarmed k m) h = h
    sized (Busy w) h = h
    sized (Idle key last) h = h
    sized (Closing m) h = h

pub lost_lessens : Lessens lost_state
lost_lessens = record { less = less; sized = sized }
  where
    busy : (g : Bool) (m : ℕ) → state_memory (cond g Vacant (Closing m)) ≤ cond g 0 m
    busy true m = omega arith
    busy false m = omega arith

    busy_sized : (g : Bool) (m : ℕ) → IsMemory m → IsSized (cond g Vacant (Closing m))
    busy_sized true m h = tt
    busy_sized false m h = h

    less : (s : State) → state_memory (lost_state s) ≤ state_memory s
    less Vacant = omega arith
    less (Opening r k m) = omega arith
    less (Prewarmed k m) = omega arith
    less (Busy w) = busy w.gone w.key.memory
    less (Idle key last) = omega arith
    less (Closing m) = omega arith

    sized : (s : State) → IsSized s → IsSized (lost_state s)
    sized Vacant h = h
    sized (Opening r k m) h = h
    sized (Prewarmed k m) h = h
    sized (Busy w) h = busy_sized w.gone w.key.memory h
    sized (Idle key last) h = h
    sized (Closing m) h = h

pub answered_lessens : (alive : Bool) (at : ℕ) → Lessens (answered_state alive at)
answered_lessens alive at = record { less = less; sized = sized }
  where
    busy : (g b : Bool) (key : Key) → state_memory (cond g Vacant (cond b (Idle key at) (Closing key.memory))) ≤ cond g 0 key.memory
    busy true b key = omega arith
    busy false true key = omega arith
    busy false false key = omega arith

    busy_sized : (g b : Bool) (key : Key) → IsMemory key.memory → IsSized (cond g Vacant (cond b (Idle key at) (Closing key.memory)))
    busy_sized true b key h = tt
    busy_sized false true key h = h
    busy_sized false false key h = h

    less : (s : State) → state_memory (answered_state alive at s) ≤ state_memory s
    less Vacant = omega arith
    less (Opening r k m) = omega arith
    less (Prewarmed k m) = omega arith
    less (Busy w) = busy w.gone (alive && is_none w.recorded) w.key
    less (Idle key last) = omega arith
    less (Closing m) = omega arith

    sized : (s : State) → IsSized s → IsSized (answered_state alive at s)
    sized Vacant h = h
    sized (Opening r k m) h = h
    sized (Prewarmed k m) h = h
    sized (Busy w) h = busy_sized w.gone (alive && is_none w.recorded) w.key h
    sized (Idle key last) h = h
    sized (Closing m) h = h

pub overrun_lessens : (at : ℕ) → Lessens (overrun_state at)
overrun_lessens at = record { less = less; sized = sized }
  where
    less : (s : State) → state_memory (overrun_state at s) ≤ state_memory s
    less Vacant = omega arith
    less (Opening r k m) = omega arith
    less (Prewarmed k m) = omega arith
    less (Busy w) = omega arith
    less (Idle key last) = omega arith
    less (Closing m) = omega arith

    sized : (s : State) → IsSized s → IsSized (overrun_state at s)
    sized Vacant h = h
    sized (Opening r k m) h = h
    sized (Prewarmed k m) h = h
    sized (Busy w) h = h
    sized (Idle key last) h = h
    sized (Closing m) h = h

gone_lessens : Lessens gone_state
gone_lessens = record { less = less; sized = sized }
  where
    less : (s : State) → state_memory (gone_state s) ≤ state_memory s
    less Vacant = omega arith
    less (Opening r k m) = omega arith
    less (Prewarmed k m) = omega arith
    less (Busy w) = omega arith
    less (Idle key last) = omega arith
    less (Closing m) = omega arith

    sized : (s : State) → IsSized s → IsSized (gone_state s)
    sized Vacant h = tt
    sized (Opening r k m) h = tt
    sized (Prewarmed k m) h = tt
    sized (Busy w) h = h
    sized (Idle key last) h = tt
    sized (Closing m) h = tt

-- what is removed holds its memory still
pub removed_size : (s : State) → state_memory (removed_state s) ≡ state_memory s
removed_size Vacant = refl
removed_size (Opening r k m) = refl
removed_size (Prewarmed k m) = refl
removed_size (Busy w) = refl
removed_size (Idle key last) = refl
removed_size (Closing m) = refl

pub removed_sized : (s : State) → IsSized s → IsSized (removed_state s)
removed_sized Vacant h = h
removed_sized (Opening r k m) h = h
removed_sized (Prewarmed k m) h = h
removed_sized (Busy w) h = h
removed_sized (Idle key last) h = h
removed_sized (Closing m) h = h

pub gone_at : (generation : ℕ) (s : Slot) → size (after_gone generation s) ≤ size s
gone_at generation s = at (goes generation s)
  where
    at : (b : Bool) → size (cond b (with_state gone_state s) s) ≤ size s
    at true = gone_lessens.less s.state
    at false = omega arith

gone_sized_at : (generation : ℕ) (s : Slot) → Sized s → Sized (after_gone generation s)
gone_sized_at generation s h = at (goes generation s)
  where
    at : (b : Bool) → Sized (cond b (with_state gone_state s) s)
    at true = gone_lessens.sized s.state h
    at false = h

gone_keeps : (slot generation : ℕ) (slots : List Slot) (pool : ℕ) → IsWithinPool slots pool → IsWithinPool (change slot (after_gone generation) slots) pool
gone_keeps slot generation slots pool keeps =
    let le = less_change slot (after_gone generation) slots (gone_at generation) in
    let before = keeps.within in
    record {
      within = omega (arith, le, before);
      sized = all_change Sized slot (after_gone generation) slots (gone_sized_at generation) keeps.sized;
    }

pub events_keep : EventsKeep
events_keep = record {
  begun = λ run at. first_keeps (awaits run) (begun_state at) (begun_lessens at);
  answered = λ run alive at. first_keeps (runs run) (answered_state alive at) (answered_lessens alive at);
  lost = λ run. first_keeps (holds run) lost_state lost_lessens;
  overran = λ run at. first_keeps (runs run) (overrun_state at) (overrun_lessens at);
  gone = gone_keeps;
}
