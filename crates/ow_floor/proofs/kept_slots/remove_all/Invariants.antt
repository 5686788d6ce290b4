use Rattle.std.proofs.Common.{◌≡◌, ℕ, drop}
use Rattle.ow_pool.specs.Keeping.{CanAllGo, removed}
use Rattle.ow_pool.specs.Rules.{IsWithinPool}
use Rattle.ow_floor.specs.Undoable.{past, restored}
use Rattle.ow_floor.proofs.kept_slots.remove_all.Given as goal

abbrev pub invariant-loop-i : goal.invariant-loop-i
invariant-loop-i l = record {
  fits : CanAllGo (drop l.i l.numbers) l.slots;
  left : removed (drop l.i l.numbers) l.slots ≡ removed l.numbers l.initial.slots;
  within : (pool : ℕ) → IsWithinPool l.initial.slots pool → IsWithinPool l.slots pool;
  past : past l.held (restored l.steps.items l.slots) ≡ past l.held (restored l.initial.steps.items l.initial.slots);
}
