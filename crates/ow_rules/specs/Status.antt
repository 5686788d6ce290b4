-- What a change of a rule's status makes of the rows.
use Rattle.std.specs.Prelude.{Bool, true, false, not, if◌then◌else◌, Option, Some, None}
use Rattle.ow_entity.specs.declared.rules.Rule.{Rule}
use Rattle.ow_entity.specs.declared.rows.Row.TheVariants as rows
use Rattle.ow_tables.specs.Contents.{Change}

abbrev pub has_status : Bool → Rule → Bool
has_status true r = r.active
has_status false r = not r.active

-- the rule with another status: all else stays, its version too
abbrev pub with_status : Bool → Rule → Rule
with_status active r = record r { active = active }

-- none where the rule has the status already
abbrev pub status_change : Rule → Bool → Option Change
status_change r active = if has_status active r then None else Some (record { row = rows.Rule (with_status active r); removes = false })
