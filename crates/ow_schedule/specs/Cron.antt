-- The five fields of a cron text.
use Rattle.std.specs.Prelude.{ℕ, Bool, List, Option, option_map, option_and_then, map}
use Rattle.ow_schedule.specs.Fields.{Steps, seen}
use Rattle.ow_schedule.specs.Grammar.{cut_at, field_of, is_star}
use Rattle.ow_schedule.specs.declared.due.Fields.{Fields}

pub record Texts : Type 0 where
  pub minute : List ℕ
  pub hour : List ℕ
  pub day : List ℕ
  pub month : List ℕ
  pub weekday : List ℕ

-- the five parts of a text that one space separates
abbrev pub five_of : List ℕ → Option Texts
five_of text =
    option_and_then (λ a. option_and_then (λ b. option_and_then (λ c. option_map (λ d.
    record { minute = a.0; hour = b.0; day = c.0; month = d.0; weekday = d.1 })
    (cut_at 32 c.1)) (cut_at 32 b.1)) (cut_at 32 a.1)) (cut_at 32 text)

-- the numbers that each field has
pub record Rules : Type 0 where
  pub minute : List Steps
  pub hour : List Steps
  pub day : List Steps
  pub month : List Steps
  pub weekday : List Steps
  pub any_day : Bool
  pub any_weekday : Bool

abbrev pub seen_fields : Fields → Rules
seen_fields f = record {
  minute = map seen f.minute.items;
  hour = map seen f.hour.items;
  day = map seen f.day.items;
  month = map seen f.month.items;
  weekday = map seen f.weekday.items;
  any_day = f.any_day;
  any_weekday = f.any_weekday;
}

abbrev pub rules_of : Texts → Option Rules
rules_of t =
    option_and_then (λ minute. option_and_then (λ hour. option_and_then (λ day. option_and_then (λ month. option_map (λ weekday.
    record { minute = minute; hour = hour; day = day; month = month; weekday = weekday; any_day = is_star t.day; any_weekday = is_star t.weekday })
    (field_of 0 7 t.weekday)) (field_of 1 12 t.month)) (field_of 1 31 t.day)) (field_of 0 23 t.hour)) (field_of 0 59 t.minute)

-- the rules of a text, where it is a cron text
abbrev pub cron_of : List ℕ → Option Rules
cron_of text = option_and_then rules_of (five_of text)
