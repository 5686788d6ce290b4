use Rattle.std.proofs.Common.{◌≡◌, ◌≤◌, ◌++◌, ℕ, List, [], ◌∷◌, length, arith, length-append}
use Rattle.ow_floor.proofs.Going.{gone_added}
use Rattle.ow_floor.proofs.lists.Lists.fire.Goals as goal

within_push : {X : Type 0} (k : ℕ) (xs ys zs : List X) (x : X) → zs ≡ ys ++ x ∷ [] → ys ≡ xs → k ≤ length xs → k ≤ length zs
within_push k xs ys zs x is same le = rw (is, same) (omega (arith, length-append xs (x ∷ []), le))

pub invariant_of-self-2 : goal.invariant_of-self-2
invariant_of-self-2 c = (
  rw (c.push.ensures.now, c.make_room.ensures.now) (gone_added c.self.inside.tasks_gone c.self.inside.tasks.now _ c.self.invariant.0),
  c.self.invariant.1,
  within_push c.self.inside.records_held c.self.inside.records.items _ _ _ c.add.ensures c.reserve.ensures.items c.self.invariant.2,
)
