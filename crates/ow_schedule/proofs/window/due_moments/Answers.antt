use Rattle.std.proofs.Common.{◌+◌, ◌∷◌, [], append_assoc, append-nil}
use Rattle.ow_schedule.specs.Due.{IsDue}
use Rattle.ow_schedule.specs.Next.{IsFirst, AreAll}
use Rattle.ow_schedule.proofs.window.due_moments.Goals as goal

pub moments-init : goal.moments-init
moments-init c = (c.args.since, c.next_due-next.ensures, rw c.new-moments.ensures.items (λ rest all. all))

pub moments-preserved : goal.moments-preserved
moments-preserved c =
    let due = IsDue c.args.schedule.now in
    let moment = c.in-Some.moment in
    let items = c.moments.moments.items in
    let first : IsFirst due c.moments.invariant.0 c.args.until moment = rw c.in-Some.is at c.moments.invariant.1 in (
      moment + 1,
      c.next_after-next.ensures,
      λ rest all. rw (c.in_ok-push.ensures.items, append_assoc items (moment ∷ []) rest) (c.moments.invariant.2 (moment ∷ rest) (first, all)),
    )

pub returns : goal.returns
returns c =
    let due = IsDue c.args.schedule.now in
    let items = c.moments.moments.items in
    let none : AreAll due c.moments.invariant.0 c.args.until [] = rw c.in_default.is at c.moments.invariant.1 in
    rw (← append-nil items) (c.moments.invariant.2 [] none)
