-- Laws of schedules.
use Rattle.std.specs.Prelude.{◌≡◌, ℕ, ◌≤◌, ◌∷◌, nat_lt, List, filter, Option, Some, Contains}
use Rattle.std.specs.List.Sorted.{IsStrictlyIncreasing}
use Rattle.jiff.specs.Types.{DateTime, TimeZone}
use Rattle.ow_schedule.specs.declared.due.Schedule.{Schedule}
use Rattle.ow_schedule.specs.Due.{Shows, IsDue}
use Rattle.ow_schedule.specs.Next.{AreAll}
use Rattle.ow_schedule.specs.Reading.{said_by}
use Rattle.ow_schedule.specs.Window.{AreDue, ArePending}

-- an instant has one civil time in a time zone
abbrev pub ShowsOne : Type 0
ShowsOne = (zone : TimeZone) (at : ℕ) (a b : DateTime) → Shows zone at a → Shows zone at b → a ≡ b

-- the due moments of a range are one list
abbrev pub DueIsOneList : Type 0
DueIsOneList = (s : Schedule) (since until : ℕ) (xs ys : List ℕ) → AreAll (IsDue s) since until xs → AreAll (IsDue s) since until ys → xs ≡ ys

-- they rise strictly
abbrev pub DueRises : Type 0
DueRises = (s : Schedule) (since until : ℕ) (xs : List ℕ) → AreAll (IsDue s) since until xs → IsStrictlyIncreasing xs

-- each of them is due and in the range
abbrev pub DueIsSound : Type 0
DueIsSound = (s : Schedule) (since until : ℕ) (xs : List ℕ) → AreAll (IsDue s) since until xs
    → (at : ℕ) → Contains xs at → (since ≤ at) × (at ≤ until) × IsDue s at

-- each due moment of the range is one of them
abbrev pub DueIsComplete : Type 0
DueIsComplete = (s : Schedule) (since until : ℕ) (xs : List ℕ) → AreAll (IsDue s) since until xs
    → (at : ℕ) → since ≤ at → at ≤ until → IsDue s at → Contains xs at

-- the pending moments are the due moments after the moment that was noted last
abbrev pub PendingIsDueAfterTheNote : Type 0
PendingIsDueAfterTheNote = (s : Schedule) (noted at : ℕ) (all pending : List ℕ) → AreDue s at all → ArePending s (Some noted) at pending
    → pending ≡ filter (λ d. nat_lt noted d) all

-- schedules that say the same are due at the same moments
abbrev pub SaidDecidesDue : Type 0
SaidDecidesDue = (s t : Schedule) → said_by s ≡ said_by t → (at : ℕ) → IsDue s at → IsDue t at

-- once the first pending moment is noted, the others are pending
abbrev pub RestIsPending : Type 0
RestIsPending = (s : Schedule) (noted : Option ℕ) (at first : ℕ) (rest : List ℕ) → ArePending s noted at (first ∷ rest) → ArePending s (Some first) at rest
