-- The due moments of a week, and the pending ones.
use Rattle.std.specs.Prelude.{ℕ, ◌+◌, ◌-◌, max, Option, None, Some, List}
use Rattle.ow_schedule.specs.declared.due.Schedule.{Schedule}
use Rattle.ow_schedule.specs.Due.{IsDue}
use Rattle.ow_schedule.specs.Next.{AreAll}

-- the earliest moment that may be pending at another: a week before it, and after the moment that was noted last
abbrev pub earliest : Option ℕ → ℕ → ℕ
earliest None at = at - 604800000
earliest (Some noted) at = max (at - 604800000) (noted + 1)

-- the pending moments, in order
abbrev pub ArePending : Schedule → Option ℕ → ℕ → List ℕ → Type 0
ArePending s noted at moments = AreAll (IsDue s) (earliest noted at) at moments

-- the due moments, in order: all are pending where no moment was noted
abbrev pub AreDue : Schedule → ℕ → List ℕ → Type 0
AreDue s at moments = ArePending s None at moments
