-- What the value of an alarm says, and the refusal of a value that is no schedule.
use Rattle.std.specs.Prelude.{◌≡◌, ℕ, List, Bool, true, false, nat_le, ◌&&◌, Option, Some, None, option_and_then, is_some, Result, Ok, Err, codes}
use Rattle.jiff.specs.Types.{TimeZone, Posix}
use Rattle.jiff.specs.Words.{read_whole, tz_view, plain_zone}
use Rattle.jiff_tz.specs.PosixText.{TzText}
use Rattle.ow_value.specs.Value.{V, Pairs, whole, text, object}
use Rattle.ow_value.specs.Field.{pairs_in}
use Rattle.ow_value.specs.Find.{find}
use Rattle.ow_value.specs.Whole.{natural}
use Rattle.ow_schedule.specs.Cron.{Rules, cron_of, seen_fields}
use Rattle.ow_schedule.specs.Grammar.{when}
use Rattle.ow_schedule.specs.declared.due.Schedule.{Schedule}
use Rattle.ow_schedule.specs.declared.due.Schedule.TheVariants as schedules
use Rattle.ow_schedule.specs.declared.read.Kind.{Kind}
use Rattle.ow_schedule.specs.declared.read.Kind.TheVariants as kinds
use Rattle.ow_schedule.specs.declared.refusal.AlarmRefusal.{AlarmRefusal}
use Rattle.ow_schedule.specs.declared.refusal.AlarmRefusal.TheVariants.{BadSchedule}
use Rattle.ow_schedule.specs.declared.refusal.ScheduleField.{ScheduleField}
use Rattle.ow_schedule.specs.declared.refusal.ScheduleField.TheVariants.{Alarm, Every, Once, Cron, From, Zone}

-- a time zone: a POSIX rule as a text gives it, or a zone of another kind
pub data ZoneView : Type 0 where
  by_rule : TzText → ZoneView
  other_zone : TimeZone → ZoneView

-- what a value says: one moment; a distance and a first moment; or cron fields, a time zone and a first moment
pub data Said : Type 0 where
  once : ℕ → Said
  every : ℕ → ℕ → Said
  cron : Rules → ZoneView → ℕ → Said

abbrev pub zone_view : TimeZone → ZoneView
zone_view (Posix rule) = by_rule (tz_view rule)
zone_view zone = other_zone zone

-- the zone has the POSIX rule that the text reads as
pub record IsRule (read : Option TzText) (zone : TimeZone) : Type 0 where
  pub rule : TzText
  pub reads : read ≡ Some rule
  pub has : zone_view zone ≡ by_rule rule

abbrev pub said_by : Schedule → Said
said_by (schedules.Once moment) = once moment
said_by (schedules.Every period) = every period.every period.from
said_by (schedules.Cron fields zone from) = cron (seen_fields fields) (zone_view (plain_zone zone)) from

-- the number of a value, unless it is negative or no number
abbrev pub natural_in : Option V → Option ℕ
natural_in (Some (whole z)) = natural z
natural_in value = None

-- a number in a range
abbrev pub number_in : ℕ → ℕ → Option V → Option ℕ
number_in least most value = option_and_then (λ n. when (nat_le least n && nat_le n most) n) (natural_in value)

abbrev pub text_in : Option V → Option (List ℕ)
text_in (Some (text s)) = Some s
text_in value = None

-- the text of the time zone, which is UTC where none is given
abbrev pub zone_text_in : Option V → Option (List ℕ)
zone_text_in None = Some (codes "UTC0")
zone_text_in (Some (text s)) = Some s
zone_text_in (Some value) = None

-- a moment that a schedule may name
abbrev pub moment_in : Option V → Option ℕ
moment_in value = number_in 0 253402300799999 value

-- what follows from a field's value, or the refusal that names the field
abbrev pub need : {X : Type 0} → ScheduleField → Option X → (X → Result Said AlarmRefusal) → Result Said AlarmRefusal
need name None next = Err (BadSchedule name)
need name (Some x) next = next x

abbrev pub once_in : Pairs → Result Said AlarmRefusal
once_in members = need Once (moment_in (find (codes "once") members)) (λ moment. Ok (once moment))

abbrev pub every_in : Pairs → Result Said AlarmRefusal
every_in members =
    need Every (number_in 60000 31622400000 (find (codes "every") members)) (λ distance.
    need From (moment_in (find (codes "from") members)) (λ from. Ok (every distance from)))

abbrev pub cron_in : Pairs → Result Said AlarmRefusal
cron_in members =
    need Cron (option_and_then cron_of (text_in (find (codes "cron") members))) (λ rules.
    need From (moment_in (find (codes "from") members)) (λ from.
    need Zone (option_and_then read_whole (zone_text_in (find (codes "zone") members))) (λ rule.
    Ok (cron rules (by_rule rule) from))))

-- the kind of an object that has exactly one of three members
abbrev pub kind_by : (has_every has_once has_cron : Bool) → Option Kind
kind_by true false false = Some kinds.Every
kind_by false true false = Some kinds.Once
kind_by false false true = Some kinds.Cron
kind_by a b c = None

abbrev pub kind_in : Pairs → Option Kind
kind_in members = kind_by (is_some (find (codes "every") members)) (is_some (find (codes "once") members)) (is_some (find (codes "cron") members))

abbrev pub of_kind : Pairs → Option Kind → Result Said AlarmRefusal
of_kind members None = Err (BadSchedule Alarm)
of_kind members (Some kinds.Every) = every_in members
of_kind members (Some kinds.Once) = once_in members
of_kind members (Some kinds.Cron) = cron_in members

-- what the value of an alarm says
abbrev pub reading : V → Result Said AlarmRefusal
reading (object members) = of_kind (pairs_in members) (kind_in (pairs_in members))
reading value = Err (BadSchedule Alarm)
