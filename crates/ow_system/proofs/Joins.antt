-- What one slot adds to the slots and the results of a join.
use Rattle.std.proofs.Common.{◌≡◌, ◌+◌, ◌++◌, ◌∷◌, [], ℕ, Bool, List, Option, Some, None, nat_lt, refl}
use Rattle.ow_system.specs.Slots.{OneDone}
use Rattle.ow_threads.proofs.Joins.{Midway, midway_none, midway_some}
use Rattle.ow_threads.specs.Slots.{after_join, task_due}

-- after a slot whose due task, if it has one, is done
pub midway_due : {T D : Type 0} (ends : T → D → Type 0) (from number : ℕ) (all rest slots : List (T × Bool)) (old new : List D) (slot : T × Bool) (due : Option T)
    → Midway ends from number all (slot ∷ rest) slots old → task_due (nat_lt number from) slot ≡ due → OneDone ends due old new
    → Midway ends from (number + 1) all rest (slots ++ after_join (nat_lt number from) slot ∷ []) new
midway_due ends from number all rest slots old new slot None was is one = rw one (midway_none ends from number all rest slots old slot was is)
midway_due ends from number all rest slots old new slot (Some task) was is one = rw one.2 (midway_some ends from number all rest slots old slot task one.0 was is one.1)

-- the same at the task that is due
pub midway_one : {T D : Type 0} (ends : T → D → Type 0) (from number : ℕ) (all rest slots : List (T × Bool)) (old new : List D) (slot : T × Bool)
    → Midway ends from number all (slot ∷ rest) slots old → OneDone ends (task_due (nat_lt number from) slot) old new
    → Midway ends from (number + 1) all rest (slots ++ after_join (nat_lt number from) slot ∷ []) new
midway_one ends from number all rest slots old new slot was one = midway_due ends from number all rest slots old new slot (task_due (nat_lt number from) slot) was refl one
