-- When a schedule is due, by what its value says alone.
use Rattle.std.proofs.Common.{◌≡◌, ◌<◌, ◌≤◌, ◌*◌, ◌+◌, ◌%◌, ◌==◌, ◌&&◌, ◌||◌, ◌∙◌, ℕ, ℤ, pos, ◌+ℤ◌, ◌-ℤ◌, ◌*ℤ◌, refl, sym, ap, subst, List, [], ◌∷◌, map, Bool, true, false, Option, None, Some, if◌then◌else◌, IsTrue, int_lt}
use Rattle.std.specs.Prelude.{option_map}
use Rattle.std.specs.List.{list_any}
use Rattle.jiff.specs.Types.{DateTime, TimeZone, Posix}
use Rattle.jiff.specs.Words.{civil_nanos, nanos_of_seconds, plain_zone, weekday_of}
use Rattle.jiff_core.specs.declared.offset.Offset.{Offset}
use Rattle.jiff_tz.specs.declared.posix.Day.{Day}
use Rattle.jiff_tz.specs.declared.posix.DayTime.{DayTime}
use Rattle.jiff_tz.specs.declared.posix.Dst.{Dst}
use Rattle.jiff_tz.specs.PosixRule.{match_some, dst_at_by, in_window, utc_window, rule_nanos, rule_day, clamp_to, first_nanosecond, last_nanosecond, nanos_per_day, saturating_add, int_same}
use Rattle.jiff_tz.specs.PosixText.{DstText, dst_view, day_time_view}
use Rattle.jiff_tz.specs.Year.{year_of_nanos}
use Rattle.jiff_tz.specs.Zone.{offset_at}
use Rattle.ow_schedule.specs.Cron.{Rules, seen_fields}
use Rattle.ow_schedule.specs.Due.{IsEveryDue, IsDue, fits}
use Rattle.ow_schedule.specs.Fields.{Steps, is_in_span, seen, has}
use Rattle.ow_schedule.specs.Reading.{ZoneView, by_rule, other_zone, zone_view, Said, once, every, cron, said_by}
use Rattle.ow_schedule.specs.declared.due.Fields.{Fields}
use Rattle.ow_schedule.specs.declared.due.Schedule.{Schedule}
use Rattle.ow_schedule.specs.declared.due.Schedule.TheVariants as schedules
use Rattle.ow_schedule.specs.declared.span.Span.{Span}

-- when a rule's moment falls in the year
abbrev nanos_by : ℤ → Day × ℤ → ℤ → ℤ
nanos_by y d seconds = match_some (rule_day y d.0) (last_nanosecond y) (λ day.
    clamp_to (first_nanosecond y) (last_nanosecond y)
    (day *ℤ nanos_per_day +ℤ nanos_of_seconds (d.1 -ℤ seconds)))

nanos_same : (y : ℤ) (d : DayTime) (seconds : ℤ) → rule_nanos y d seconds ≡ nanos_by y (day_time_view d) seconds
unfolding rule_nanos
nanos_same y d seconds = refl

-- the window between two moments of a year
abbrev window_of : ℤ → ℤ → ℤ → ℤ → ℤ × ℤ
window_of y std start end =
    if int_same start (first_nanosecond y)
    && (int_lt (saturating_add end (nanos_of_seconds std)) (first_nanosecond y) || int_lt (last_nanosecond y) (saturating_add end (nanos_of_seconds std)))
    then (start, last_nanosecond y)
    else (start, end)

abbrev window_by : DstText → ℤ → ℤ → ℤ × ℤ
window_by d y std = window_of y std (nanos_by y d.start std) (nanos_by y d.finish d.seconds)

window_same : (d : Dst) (y : ℤ) (std : Offset) → utc_window d y std ≡ window_by (dst_view d) y std.seconds
unfolding utc_window
window_same d y std =
    ap (λ start. window_of y std.seconds start (rule_nanos y d.rule.end d.offset.seconds)) (nanos_same y d.rule.start std.seconds)
    ∙ ap (λ end. window_of y std.seconds (nanos_by y (day_time_view d.rule.start) std.seconds) end) (nanos_same y d.rule.end d.offset.seconds)

-- the offset of a rule at an instant
abbrev offset_by : ℤ → Option DstText → ℤ → ℤ
offset_by std None n = std
offset_by std (Some d) n = if in_window (window_by d (year_of_nanos n) std) n then d.seconds else std

chosen : (std : Offset) (d : Dst) (b : Bool)
    → (match_some (if b then Some d else None) std (λ x. x.offset)).seconds ≡ (if b then d.offset.seconds else std.seconds)
chosen std d true = refl
chosen std d false = refl

offset_same : (std : Offset) (dst : Option Dst) (n : ℤ)
    → (match_some (dst_at_by std dst n) std (λ x. x.offset)).seconds ≡ offset_by std.seconds (option_map dst_view dst) n
offset_same std None n = refl
offset_same std (Some d) n =
    chosen std d (in_window (utc_window d (year_of_nanos n) std) n)
    ∙ ap (λ w. if in_window w n then d.offset.seconds else std.seconds) (window_same d (year_of_nanos n) std)

abbrev offset_in : ZoneView → ℤ → ℤ
offset_in (by_rule rule) n = offset_by rule.std_seconds rule.dst n
offset_in (other_zone zone) n = offset_at zone n

zone_offset : (zone : TimeZone) (n : ℤ) → offset_at zone n ≡ offset_in (zone_view zone) n
unfolding offset_at
zone_offset (Posix rule) n = offset_same rule.std_offset rule.dst n
zone_offset _ n = refl

-- whether numbers in steps have the number
abbrev has_by : List Steps → ℕ → Bool
has_by steps n = list_any (λ s. is_in_span s n) steps

has_same : (spans : List Span) (n : ℕ) → has spans n ≡ has_by (map seen spans) n
has_same [] n = refl
has_same (s ∷ spans) n = ap (λ b. is_in_span (seen s) n || b) (has_same spans n)

abbrev weekdays_by : List Steps → ℕ → Bool
weekdays_by steps weekday = has_by steps weekday || (weekday == 0 && has_by steps 7)

abbrev fits_by : Rules → DateTime → Bool
fits_by r dt =
    let weekday = (weekday_of dt.date + 1) % 7 in
    has_by r.minute dt.time.minute && (has_by r.hour dt.time.hour && (has_by r.month dt.date.month && (
    if r.any_day || r.any_weekday
    then has_by r.day dt.date.day && weekdays_by r.weekday weekday
    else (has_by r.day dt.date.day || weekdays_by r.weekday weekday))))

fits_same : (f : Fields) (dt : DateTime) → fits f dt ≡ fits_by (seen_fields f) dt
fits_same f dt =
    let weekday = (weekday_of dt.date + 1) % 7 in
    rw (
      has_same f.minute.items dt.time.minute,
      has_same f.hour.items dt.time.hour,
      has_same f.month.items dt.date.month,
      has_same f.day.items dt.date.day,
      has_same f.weekday.items weekday,
      has_same f.weekday.items 7,
    ) refl

record IsCronDueBy (r : Rules) (zone : ZoneView) (from at : ℕ) : Type 0 where
  minute : at % 60000 ≡ 0
  early : at < 253402128000000
  begun : from ≤ at
  shown : (dt : DateTime) × (civil_nanos dt ≡ pos (at * 1000000) +ℤ nanos_of_seconds (offset_in zone (pos (at * 1000000)))) × IsTrue (fits_by r dt)

abbrev IsDueBy : Said → ℕ → Type 0
IsDueBy (once moment) at = at ≡ moment
IsDueBy (every distance from) at = IsEveryDue from distance at
IsDueBy (cron rules zone from) at = IsCronDueBy rules zone from at

due_by : (s : Schedule) (at : ℕ) → IsDue s at → IsDueBy (said_by s) at
due_by (schedules.Once moment) at due = due
due_by (schedules.Every period) at due = due
due_by (schedules.Cron f zone from) at due =
    let dt = due.shown.0 in
    let n = pos (at * 1000000) in
    record {
      minute = due.minute;
      early = due.early;
      begun = due.begun;
      shown = (
        dt,
        due.shown.1 ∙ ap (λ o. n +ℤ nanos_of_seconds o) (zone_offset (plain_zone zone) n),
        subst IsTrue (fits_same f dt) due.shown.2,
      );
    }

by_due : (s : Schedule) (at : ℕ) → IsDueBy (said_by s) at → IsDue s at
by_due (schedules.Once moment) at due = due
by_due (schedules.Every period) at due = due
by_due (schedules.Cron f zone from) at due =
    let dt = due.shown.0 in
    let n = pos (at * 1000000) in
    record {
      minute = due.minute;
      early = due.early;
      begun = due.begun;
      shown = (
        dt,
        due.shown.1 ∙ ap (λ o. n +ℤ nanos_of_seconds o) (sym (zone_offset (plain_zone zone) n)),
        subst IsTrue (sym (fits_same f dt)) due.shown.2,
      );
    }

pub said_decides_due : (s t : Schedule) → said_by s ≡ said_by t → (at : ℕ) → IsDue s at → IsDue t at
said_decides_due s t same at due =
    let P : Said → Type 0 = λ x. IsDueBy x at in
    by_due t at (subst P same (due_by s at due))
