-- The rows that are there from the start.
use Rattle.std.specs.Prelude.{List, [], ◌∷◌, Bool, codes, true, false, Some, None}
use Rattle.std.specs.List.{list_any}
use Rattle.std.specs.Str.{bytes_eq}
use Rattle.ow_entity.specs.declared.actions.Action.{Action}
use Rattle.ow_entity.specs.declared.exec.Exec.TheVariants.{Plain}
use Rattle.ow_entity.specs.declared.finishing.TheConstants.{FIRST_VERSION}
use Rattle.ow_entity.specs.Finish.{default_limits}
use Rattle.ow_entity.specs.declared.packages.Package.{Package}
use Rattle.ow_entity.specs.declared.rows.Row.{Row}
use Rattle.ow_entity.specs.declared.rows.Row.TheVariants as rows
use Rattle.ow_tables.specs.Rows.{key_of}

-- /whisk.system/utils/echo, which returns what it is given
abbrev pub echo : Action
echo = record {
  name = record { namespace = codes "whisk.system"; «package» = Some (codes "utils"); name = codes "echo" };
  version = FIRST_VERSION;
  publish = false;
  params = [];
  notes = [];
  exec = Plain (codes "{\"cases\":[{\"give\":{\"$all\":true},\"when\":{}}]}");
  limits = default_limits;
}

-- /whisk.system/utils, in which it lies, and which is shared
abbrev pub utils : Package
utils = record {
  name = record { namespace = codes "whisk.system"; «package» = None; name = codes "utils" };
  version = FIRST_VERSION;
  publish = true;
  params = [];
  notes = [];
  binding = None;
}

abbrev pub builtin : List Row
builtin = rows.Action echo ∷ rows.Package utils ∷ []

-- a built-in row has its key
abbrev pub is_builtin : Row → Bool
is_builtin r = list_any (λ b. bytes_eq (key_of r) (key_of b)) builtin
