-- The slots of the spawner in memory.
use Rattle.std.specs.Prelude.{Bool, true, false, Option, Some, None}
use Rattle.ow_threads.specs.declared.refusing_spawner.Slot.{Slot}
use Rattle.ow_threads.specs.declared.refusing_spawner.Slot.TheVariants.{Waiting, Joined}

-- the task of a slot, and whether it is joined
abbrev pub seen : {T : Type 0} → Slot T → T × Bool
seen (Waiting task) = (task, false)
seen (Joined told) = (told.value, true)

-- a task after a join, by whether it stays as it is, for private clauses
abbrev pub after_join : {T : Type 0} → Bool → T × Bool → T × Bool
after_join true task = task
after_join false (task, is_joined) = (task, true)

-- the task that the join is to run, if any, for private clauses
abbrev pub task_due : {T : Type 0} → Bool → T × Bool → Option T
task_due true task = None
task_due false (task, true) = None
task_due false (task, false) = Some task
