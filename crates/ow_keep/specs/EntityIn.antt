-- The entity that a value is read as. Reading is lenient: the entity may be written otherwise.
use Rattle.std.specs.Prelude.{ℕ, Bool, codes, option_map, option_and_then, Option, Some, None, Result, Ok, Err}
use Rattle.std.specs.Result.{result_ok}
use Rattle.ow_value.specs.Value.{V}
use Rattle.ow_names.specs.declared.full.FullName.{FullName}
use Rattle.ow_entity.specs.Finish.{row_of_body}
use Rattle.ow_entity.specs.Status.{status_in}
use Rattle.ow_entity.specs.declared.kinds.EntityKind.{EntityKind}
use Rattle.ow_entity.specs.declared.refusal.EntityRefusal.{EntityRefusal}
use Rattle.ow_entity.specs.declared.rows.Row.{Row}
use Rattle.ow_entity.specs.declared.rows.Row.TheVariants.{Action, Package, Rule, Trigger}
use Rattle.ow_records.specs.FieldsIn.{version_in}

abbrev pub at_version : ℕ → Row → Row
at_version version (Action a) = Action (record a { version = version })
at_version version (Package p) = Package (record p { version = version })
at_version version (Rule r) = Rule (record r { version = version })
at_version version (Trigger t) = Trigger (record t { version = version })

-- a rule with this status; no other entity has one
abbrev pub at_status : Result Bool EntityRefusal → Row → Option Row
at_status status (Rule r) = option_map (λ active. Rule (record r { active = active })) (result_ok status)
at_status status row = Some row

abbrev pub entity_with : Option ℕ → Result Row EntityRefusal → Option Row
entity_with None made = None
entity_with (Some version) (Ok r) = Some (at_version version r)
entity_with (Some version) (Err e) = None

-- the entity that the value makes as a body, with the version and the status that are members of the value
abbrev pub entity_from : EntityKind → FullName → V → Option Row
entity_from kind name v = option_and_then (at_status (status_in v)) (entity_with (version_in (codes "version") v) (row_of_body kind name v))
