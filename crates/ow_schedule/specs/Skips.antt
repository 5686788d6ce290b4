-- Minutes that cannot fit.
use Rattle.std.specs.Prelude.{◌≡◌, ℕ, ◌+◌, ◌*◌, ◌<◌, ◌⊎◌, IsTrue, ℤ, pos, ◌+ℤ◌}
use Rattle.jiff.specs.Types.{DateTime, TimeZone}
use Rattle.jiff.specs.Words.{civil_nanos, offset_at, nanos_of_seconds}
use Rattle.jiff_core.specs.declared.offset.Offset.{Offset}
use Rattle.jiff_tz.specs.PosixRule.{match_some}
use Rattle.jiff_tz.specs.declared.posix.TimeZone.{TimeZone as Rule}
use Rattle.ow_schedule.specs.declared.due.Fields.{Fields}
use Rattle.ow_schedule.specs.Due.{fits}

-- at each instant the zone has one of two UTC offsets, in seconds
abbrev pub HasOffsets : TimeZone → (a b : ℤ) → Type 0
HasOffsets zone a b = (n : ℤ) → (offset_at zone n ≡ a) ⊎ (offset_at zone n ≡ b)

-- the offset of daylight saving time, or that of standard time where the rule has none
abbrev pub daylight_offset : Rule → Offset
daylight_offset rule = match_some rule.dst rule.std_offset (λ d. d.offset)

-- at this UTC offset the civil time of none of the n minutes from `at` on fits
abbrev pub Misses : Fields → ℤ → (at n : ℕ) → Type 0
Misses f offset at n = (j : ℕ) → j < n → (dt : DateTime)
    → civil_nanos dt ≡ pos ((at + j * 60000) * 1000000) +ℤ nanos_of_seconds offset → ¬ IsTrue (fits f dt)
