-- The actions that lie in a package, and what the package shows of them.
use Rattle.std.specs.Prelude.{◌&&◌, ℕ, Bool, false, List, [], filter, map, Option, Some, None}
use Rattle.std.specs.List.{list_any}
use Rattle.std.specs.Str.{bytes_eq}
use Rattle.ow_value.specs.Value.{V}
use Rattle.ow_names.specs.declared.full.FullName.{FullName}
use Rattle.ow_entity.specs.declared.kinds.EntityKind.TheVariants as kinds
use Rattle.ow_entity.specs.declared.packages.Package.{Package}
use Rattle.ow_entity.specs.declared.rows.Row.{Row}
use Rattle.ow_entity.specs.Row.{name_of}
use Rattle.ow_entity.specs.Written.{package_entry}
use Rattle.ow_packages.specs.Access.{reached_package}
use Rattle.ow_tables.specs.Rows.{standing, stands_in}

abbrev pub is_called : List ℕ → Option (List ℕ) → Bool
is_called name None = false
is_called name (Some «package») = bytes_eq name «package»

-- the row lies in a package that is called so
abbrev pub lies_under : List ℕ → Row → Bool
lies_under name r = is_called name (name_of r).package

-- the row is an action in the package of this name
abbrev pub lies_in : FullName → Row → Bool
lies_in name r = stands_in kinds.Action name.namespace r && lies_under name.name r

abbrev pub actions_in : FullName → List Row → List Row
actions_in name rows = filter (lies_in name) rows

abbrev pub holds_actions : FullName → List Row → Bool
holds_actions name rows = list_any (lies_in name) rows

-- ---- what is shown

-- none where the package can't be reached
abbrev pub actions_if : Option Package → FullName → List Row → List Row
actions_if None name rows = []
actions_if (Some p) name rows = actions_in name rows

-- of a binding those of the package that it binds, where that is reached from the binding's namespace
abbrev pub actions_behind : Package → Option FullName → List Row → List Row
actions_behind p None rows = actions_in p.name rows
actions_behind p (Some target) rows = actions_if (reached_package (standing rows) target p.name.namespace) target rows

-- what a package shows of the actions that are called by its name
abbrev pub shown_actions : Package → List Row → List V
shown_actions p rows = map package_entry (actions_behind p p.binding rows)
