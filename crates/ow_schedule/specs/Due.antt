-- When a schedule is due.
use Rattle.std.specs.Prelude.{◌≡◌, ℕ, ◌+◌, ◌*◌, ◌%◌, ◌<◌, ◌≤◌, ◌==◌, ◌&&◌, ◌||◌, if◌then◌else◌, Bool, IsTrue, List, pos, ◌+ℤ◌}
use Rattle.jiff.specs.Types.{Date, DateTime, TimeZone}
use Rattle.jiff.specs.Words.{civil_nanos, offset_at, nanos_of_seconds, plain_zone, weekday_of}
use Rattle.ow_schedule.specs.Fields.{has}
use Rattle.ow_schedule.specs.declared.due.Fields.{Fields}
use Rattle.ow_schedule.specs.declared.due.Schedule.{Schedule}
use Rattle.ow_schedule.specs.declared.due.Schedule.TheVariants.{Once, Every, Cron}
use Rattle.ow_schedule.specs.declared.span.Span.{Span}

-- dt is the civil time in the zone at a moment, in milliseconds since 1970
abbrev pub Shows : TimeZone → ℕ → DateTime → Type 0
Shows zone at dt = civil_nanos dt ≡ pos (at * 1000000) +ℤ nanos_of_seconds (offset_at zone (pos (at * 1000000)))

-- Sunday is 0 and 7
abbrev pub is_in_weekdays : List Span → ℕ → Bool
is_in_weekdays spans weekday = has spans weekday || (weekday == 0 && has spans 7)

-- day and weekday are in their fields or, where neither field is exactly `*`, one of them is
abbrev pub fits_day : Fields → ℕ → ℕ → Bool
fits_day f day weekday =
    if f.any_day || f.any_weekday
    then has f.day.items day && is_in_weekdays f.weekday.items weekday
    else (has f.day.items day || is_in_weekdays f.weekday.items weekday)

abbrev pub fits_date : Fields → Date → Bool
fits_date f date = has f.month.items date.month && fits_day f date.day ((weekday_of date + 1) % 7)

abbrev pub fits : Fields → DateTime → Bool
fits f dt = has f.minute.items dt.time.minute && (has f.hour.items dt.time.hour && fits_date f dt.date)

-- the civil time of a full minute fits
pub record IsCronDue (f : Fields) (zone : TimeZone) (from at : ℕ) : Type 0 where
  pub minute : at % 60000 ≡ 0
  pub early : at < 253402128000000
  pub begun : from ≤ at
  pub shown : (dt : DateTime) × Shows zone at dt × IsTrue (fits f dt)

-- a multiple of the distance after the first moment
abbrev pub IsEveryDue : (from every at : ℕ) → Type 0
IsEveryDue from every at = (k : ℕ) × (at ≡ from + k * every)

abbrev pub IsDue : Schedule → ℕ → Type 0
IsDue (Once moment) at = at ≡ moment
IsDue (Every period) at = IsEveryDue period.from period.every at
IsDue (Cron fields zone from) at = IsCronDue fields (plain_zone zone) from at
