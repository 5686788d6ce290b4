-- The row under a kind and a name, and what can be reached from a namespace.
use Rattle.std.specs.Prelude.{◌||◌, ℕ, Bool, false, List, option_map, if◌then◌else◌, Option, Some, None}
use Rattle.ow_entity.specs.Finish.{as_action, as_package}
use Rattle.std.specs.Str.{bytes_eq}
use Rattle.ow_names.specs.declared.full.FullName.{FullName}
use Rattle.ow_entity.specs.declared.kinds.EntityKind.{EntityKind}
use Rattle.ow_entity.specs.declared.kinds.EntityKind.TheVariants as kinds
use Rattle.ow_entity.specs.declared.actions.Action.{Action}
use Rattle.ow_entity.specs.declared.packages.Package.{Package}
use Rattle.ow_entity.specs.declared.rows.Row.{Row}
use Rattle.ow_entity.specs.declared.rows.Row.TheVariants as rows

-- the stored entity under a kind and a name, if any
abbrev pub Standing : Type 0
Standing = EntityKind → FullName → Option Row

abbrev pub action_at : Standing → FullName → Option Action
action_at standing name = as_action (standing kinds.Action name)

abbrev pub package_at : Standing → FullName → Option Package
package_at standing name = as_package (standing kinds.Package name)

-- ---- names

-- the package in which the name lies, if it lies in one
abbrev pub package_of : FullName → Option FullName
package_of name = option_map (λ p. record { namespace = name.namespace; «package» = None; name = p }) name.package

-- what a name is called in a package
abbrev pub lying_in : FullName → List ℕ → FullName
lying_in bundle name = record { namespace = bundle.namespace; «package» = Some bundle.name; name = name }

-- ---- access

abbrev pub is_shared : Option Package → Bool
is_shared None = false
is_shared (Some p) = p.publish

-- a package of this namespace is reached from its own namespace, and where it is shared from any other
abbrev pub is_reached : List ℕ → List ℕ → Package → Bool
is_reached namespace from p = p.publish || bytes_eq namespace from

abbrev pub if_reached : List ℕ → List ℕ → Option Package → Option Package
if_reached namespace from None = None
if_reached namespace from (Some p) = if is_reached namespace from p then Some p else None

-- the package of the name, where it is reached from the namespace
abbrev pub reached_package : Standing → FullName → List ℕ → Option Package
reached_package standing name from = if_reached name.namespace from (package_at standing name)
