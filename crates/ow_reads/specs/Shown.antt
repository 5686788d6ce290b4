-- How rows are shown: a package with the actions that are called by its name.
use Rattle.std.specs.Prelude.{ℕ, List, [], codes}
use Rattle.ow_value.specs.Value.{V, list, object, items_of, members_of}
use Rattle.ow_value.specs.Field.{pairs_in}
use Rattle.ow_value.specs.Find.{with_pair}
use Rattle.ow_entity.specs.Written.{row_value}
use Rattle.ow_entity.specs.declared.rows.Row.{Row}
use Rattle.ow_entity.specs.declared.rows.Row.TheVariants as rows
use Rattle.ow_tables.specs.Inside.{shown_actions}

-- an object with one more member
abbrev pub with_member : V → List ℕ → V → V
with_member (object members) name value = object (members_of (with_pair (pairs_in members) name value))
with_member other name value = other

-- what is shown of the actions that are called by the name of a package
abbrev pub actions_of : List Row → Row → List V
actions_of rs (rows.Package p) = shown_actions p rs
actions_of rs r = []

-- a row, with what is shown of the actions where it is a package
abbrev pub shown_with : List V → Row → V
shown_with actions (rows.Package p) = with_member (row_value (rows.Package p)) (codes "actions") (list (items_of actions))
shown_with actions r = row_value r

-- a row, over the current rows
abbrev pub shown_row : List Row → Row → V
shown_row rs r = shown_with (actions_of rs r) r
