-- Why a package can't be bound.
use Rattle.std.specs.Prelude.{ℕ, List, is_some, if◌then◌else◌, Option, Some, None}
use Rattle.ow_names.specs.declared.full.FullName.{FullName}
use Rattle.ow_entity.specs.declared.packages.Package.{Package}
use Rattle.ow_packages.specs.Access.{Standing, reached_package}
use Rattle.ow_packages.specs.declared.refusal.PackageRefusal.{PackageRefusal}
use Rattle.ow_packages.specs.declared.refusal.PackageRefusal.TheVariants.{NotFound, BindsABinding}

abbrev pub unbindable : Option Package → Option PackageRefusal
unbindable None = Some NotFound
unbindable (Some p) = if is_some p.binding then Some BindsABinding else None

-- the package can't be reached from the namespace, or is a binding itself
abbrev pub binding_refusal : Standing → FullName → List ℕ → Option PackageRefusal
binding_refusal standing target from = unbindable (reached_package standing target from)
