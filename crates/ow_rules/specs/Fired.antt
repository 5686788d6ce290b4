-- Which rules a fire of a trigger follows.
use Rattle.std.specs.Prelude.{◌&&◌, Bool, List, [], ◌∷◌, flat_map, filter, if◌then◌else◌}
use Rattle.std.specs.Str.{bytes_eq}
use Rattle.ow_names.specs.FullName.{full_text}
use Rattle.ow_names.specs.declared.full.FullName.{FullName}
use Rattle.ow_entity.specs.declared.kinds.EntityKind.TheVariants as kinds
use Rattle.ow_entity.specs.declared.rules.Rule.{Rule}
use Rattle.ow_entity.specs.declared.rows.Row.{Row}
use Rattle.ow_entity.specs.declared.rows.Row.TheVariants as rows
use Rattle.ow_tables.specs.Rows.{stands_in}

-- the rule is active, and its trigger is this one
abbrev pub follows : FullName → Rule → Bool
follows trigger r = r.active && bytes_eq (full_text r.trigger) (full_text trigger)

-- the rule that a row is, where it follows the trigger
abbrev pub one_of : FullName → Row → List Rule
one_of trigger (rows.Rule r) = if follows trigger r then r ∷ [] else []
one_of trigger row = []

-- the active rules of the trigger in its namespace, by name
abbrev pub fired : List Row → FullName → List Rule
fired all trigger = flat_map (one_of trigger) (filter (stands_in kinds.Rule trigger.namespace) all)
