-- For private clauses: the state of a task that a crew started.
use Rattle.std.specs.Prelude.{◌≡◌, Bool, true, false}
use Rattle.ow_system.specs.declared.slots.Run.{Run}
use Rattle.ow_system.specs.declared.slots.Run.TheVariants.{Alive, Ended, Over}

-- whether the result was returned to the call that waited for it
abbrev pub is_over : {T D : Type 0} → Run T D → Bool
is_over (Alive running) = false
is_over (Ended done) = false
is_over Over = true

-- what is known of this task's state: its thread is of this task, and so has a result that the task may have; or it has such a result
abbrev pub MayStand : {T D : Type 0} → (T → D → Type 0) → T → Run T D → Type 0
MayStand ends task (Alive running) = running.thread.promise.task.value ≡ task
MayStand ends task (Ended done) = ends task done
MayStand ends task Over = Unit {0}
