-- The number and the text of each refusal of a schedule.
use Rattle.std.specs.Prelude.{ℕ, List, ◌++◌, codes}
use Rattle.ow_schedule.specs.declared.refusal.AlarmRefusal.{AlarmRefusal}
use Rattle.ow_schedule.specs.declared.refusal.AlarmRefusal.TheVariants.{BadSchedule, NoMemory}
use Rattle.ow_schedule.specs.declared.refusal.ScheduleField.{ScheduleField}
use Rattle.ow_schedule.specs.declared.refusal.ScheduleField.TheVariants.{Alarm, Every, Once, Cron, From, Zone}

-- how a value writes the field
abbrev pub field_name : ScheduleField → List ℕ
field_name Alarm = codes "alarm"
field_name Every = codes "every"
field_name Once = codes "once"
field_name Cron = codes "cron"
field_name From = codes "from"
field_name Zone = codes "zone"

abbrev pub refusal_number : AlarmRefusal → ℕ
refusal_number NoMemory = 0
refusal_number (BadSchedule field) = 47

-- for people
abbrev pub refusal_text : AlarmRefusal → List ℕ
refusal_text NoMemory = codes "No memory."
refusal_text (BadSchedule field) = codes "The schedule field " ++ field_name field ++ codes " is wrong."
