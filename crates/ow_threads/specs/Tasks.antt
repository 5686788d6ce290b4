-- What becomes of tasks that are begun and joined.
use Rattle.std.specs.Prelude.{◌≡◌, ◌≤◌, ◌++◌, ℕ, zero, suc, Bool, true, false, List, [], ◌∷◌, Result, Ok, Err}
use Rattle.ow_traits.specs.Streams.{Rose}
use Rattle.ow_threads.specs.declared.tasks.Begun.{Begun}
use Rattle.ow_threads.specs.declared.tasks.Begun.TheVariants.{Started, Ran, Refused}

-- no thread was available: the count of faults rose, and no task was started
pub record GotNoThread {T : Type 0} (before now : ℕ) (old new : List (T × Bool)) : Type 0 where
  pub later : before ≤ now
  pub rose : Rose before now
  pub tasks : new ≡ old

-- a task was started, or it was run by the call where that was requested, or dropped; the latter two only where no thread was available
abbrev pub Began : {T D : Type 0} → (T → D → Type 0) → ℕ → ℕ → List (T × Bool) → List (T × Bool) → T → Bool → Begun D → Type 0
Began ends before now old new task here Started = (new ≡ old ++ (task, false) ∷ []) × (now ≡ before)
Began ends before now old new task here (Ran done) = GotNoThread before now old new × (here ≡ true) × ends task done
Began ends before now old new task here Refused = GotNoThread before now old new × (here ≡ false)

-- the tasks that aren't joined, except the ones numbered below `from`
abbrev pub pending : {T : Type 0} → ℕ → List (T × Bool) → List T
pending from [] = []
pending (suc n) (task ∷ tasks) = pending n tasks
pending zero ((task, true) ∷ tasks) = pending zero tasks
pending zero ((task, false) ∷ tasks) = task ∷ pending zero tasks

-- all tasks are joined, except the ones numbered below `from`, which stay as they are
abbrev pub joined : {T : Type 0} → ℕ → List (T × Bool) → List (T × Bool)
joined from [] = []
joined (suc n) (task ∷ tasks) = task ∷ joined n tasks
joined zero ((task, is_joined) ∷ tasks) = (task, true) ∷ joined zero tasks

-- each task may have the result at its place
abbrev pub AllEnd : {T D : Type 0} → (T → D → Type 0) → List T → List D → Type 0
AllEnd ends [] [] = Unit {0}
AllEnd ends [] (done ∷ dones) = ⊥
AllEnd ends (task ∷ tasks) [] = ⊥
AllEnd ends (task ∷ tasks) (done ∷ dones) = ends task done × AllEnd ends tasks dones

-- the results of the tasks that were waited for, in order; where memory ran out none is joined
abbrev pub Joined : {T D A E : Type 0} → (T → D → Type 0) → (A → List D) → List (T × Bool) → List (T × Bool) → ℕ → Result A E → Type 0
Joined ends items old new from (Ok dones) = AllEnd ends (pending from old) (items dones) × (new ≡ joined from old)
Joined ends items old new from (Err e) = new ≡ old
