-- The annotations that a value lists. What is read here may be written otherwise.
use Rattle.std.specs.Prelude.{ℕ, List, codes, is_some, if◌then◌else◌, option_map, option_and_then, Option, Some, None}
use Rattle.std.specs.Str.{bytes_eq}
use Rattle.ow_value.specs.Value.{V, list, Items, no_items, item}
use Rattle.ow_value.specs.Decimal.{if_within}
use Rattle.ow_entity.specs.Pairs.{pair_of}
use Rattle.ow_entity.specs.declared.bounds.TheConstants.{LEAST_TIMEOUT, MOST_TIMEOUT, LEAST_MEMORY, MOST_MEMORY, LEAST_LOGS, MOST_LOGS}
use Rattle.ow_entity.specs.declared.bounds.Limits.{Limits}
use Rattle.ow_records.specs.FieldsIn.{as_number, as_path, as_text, number_in}
use Rattle.ow_records.specs.declared.notes.ExecKind.{ExecKind}
use Rattle.ow_records.specs.declared.notes.ExecKind.TheVariants.{Plain, Program, Sequence}
use Rattle.ow_records.specs.declared.notes.Notes.{Notes}

abbrev pub kind_named : List ℕ → Option ExecKind
kind_named s =
    if bytes_eq s (codes "plain:1") then Some Plain
    else if bytes_eq s (codes "program:1") then Some Program
    else if bytes_eq s (codes "sequence") then Some Sequence
    else None

abbrev pub as_kind : V → Option ExecKind
as_kind v = option_and_then kind_named (as_text v)

abbrev pub limits_with : Option ℕ → Option ℕ → Option ℕ → Option Limits
limits_with timeout memory logs =
    option_and_then (λ t. option_and_then (λ m. option_map (λ l. record { timeout = t; memory = m; logs = l }) logs) memory) timeout

-- each limit within its bounds
abbrev pub as_limits : V → Option Limits
as_limits v = limits_with
    (option_and_then (if_within LEAST_TIMEOUT MOST_TIMEOUT) (number_in (codes "timeout") v))
    (option_and_then (if_within LEAST_MEMORY MOST_MEMORY) (number_in (codes "memory") v))
    (option_and_then (if_within LEAST_LOGS MOST_LOGS) (number_in (codes "logs") v))

-- ---- the list

abbrev pub value_at : List ℕ → Option (List ℕ × V) → Option V → Option V
value_at key None rest = rest
value_at key (Some p) rest = if bytes_eq key p.0 then Some p.1 else rest

-- the value of the first annotation of the key
abbrev pub note : List ℕ → Items → Option V
note key no_items = None
note key (item v vs) = value_at key (pair_of v) (note key vs)

abbrev pub notes_listed : Items → Notes
notes_listed vs = record {
  binding = option_and_then as_path (note (codes "binding") vs);
  caused_by = is_some (note (codes "causedBy") vs);
  init_time = option_and_then as_number (note (codes "initTime") vs);
  kind = option_and_then as_kind (note (codes "kind") vs);
  limits = option_and_then as_limits (note (codes "limits") vs);
  path = option_and_then as_path (note (codes "path") vs);
  topmost = is_some (note (codes "topmost") vs);
  wait_time = option_and_then as_number (note (codes "waitTime") vs);
}

abbrev pub as_notes : V → Option Notes
as_notes (list vs) = Some (notes_listed vs)
as_notes v = None
