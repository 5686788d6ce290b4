-- Rows have the names by which they are found, for private clauses.
use Rattle.std.specs.Prelude.{◌≡◌, ℕ, List, is_some, if◌then◌else◌, IfSome, Option, Some, None}
use Rattle.ow_names.specs.declared.full.FullName.{FullName}
use Rattle.ow_entity.specs.Row.{name_of}
use Rattle.ow_entity.specs.declared.kinds.EntityKind.{EntityKind}
use Rattle.ow_entity.specs.declared.kinds.EntityKind.TheVariants as kinds
use Rattle.ow_entity.specs.declared.rows.Row.{Row}
use Rattle.ow_packages.specs.Access.{lying_in, package_of, reached_package}
use Rattle.ow_tables.specs.Rows.{found, standing}
use Rattle.ow_reads.specs.Reading.{target_of}

abbrev pub IsNamed : List Row → EntityKind → FullName → Type 0
IsNamed rs kind name = IfSome (found kind name rs) (λ r. name_of r ≡ name)

-- the package in which the name lies
abbrev pub IsPackageNamed : List Row → Option FullName → Type 0
IsPackageNamed rs None = Unit {0}
IsPackageNamed rs (Some name) = IsNamed rs kinds.Package name

-- what the name calls in the package that is bound
abbrev pub bound_name : FullName → Option FullName → FullName
bound_name name None = name
bound_name name (Some target) = lying_in target name.name

-- of an action its package, and the action that the name calls
abbrev pub AreNamed : List Row → EntityKind → FullName → Type 0
AreNamed rs kinds.Action name = IsPackageNamed rs (package_of name) × IsNamed rs kinds.Action (bound_name name (target_of rs (package_of name)))
AreNamed rs kind name = IsNamed rs kind name

-- ---- the action that is read, step by step

-- in the package that is bound, where the binding's namespace reaches that
abbrev pub action_bound : List Row → FullName → List ℕ → FullName → Option Row
action_bound rs name from target = if is_some (reached_package (standing rs) target from) then found kinds.Action (lying_in target name.name) rs else None

abbrev pub action_in : List Row → FullName → List ℕ → Option FullName → Option Row
action_in rs name from None = found kinds.Action name rs
action_in rs name from (Some target) = action_bound rs name from target
