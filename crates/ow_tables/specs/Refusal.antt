-- Why a change is refused, the number by which a client knows each refusal, and the order in which they are reported.
use Rattle.std.specs.Prelude.{◌&&◌, ℕ, Bool, not, List, [], ◌∷◌, is_some, option_map, unwrap_or, if◌then◌else◌, Option, Some, None}
use Rattle.std.specs.Result.{result_err}
use Rattle.ow_names.specs.declared.full.FullName.{FullName}
use Rattle.ow_entity.specs.declared.kinds.EntityKind.{EntityKind}
use Rattle.ow_entity.specs.declared.kinds.EntityKind.TheVariants as kinds
use Rattle.ow_entity.specs.declared.refusal.EntityRefusal.{EntityRefusal}
use Rattle.ow_entity.specs.declared.refusal.EntityRefusal.TheVariants as entity
use Rattle.ow_entity.specs.declared.rows.Row.{Row}
use Rattle.ow_entity.specs.declared.packages.Package.{Package}
use Rattle.ow_entity.specs.declared.rows.Draft.{Draft}
use Rattle.ow_entity.specs.declared.rows.Draft.TheVariants as drafts
use Rattle.ow_entity.specs.Chain.{first_some}
use Rattle.ow_entity.specs.Finish.{finished_row}
use Rattle.ow_entity.specs.Refusal.{refusal_number}
use Rattle.ow_entity.specs.Row.{draft_kind, draft_name}
use Rattle.ow_packages.specs.declared.refusal.PackageRefusal.{PackageRefusal}
use Rattle.ow_packages.specs.declared.refusal.PackageRefusal.TheVariants as packages
use Rattle.ow_packages.specs.Access.{package_at, package_of}
use Rattle.ow_packages.specs.Binding.{binding_refusal}
use Rattle.ow_tables.specs.declared.refusal.TableRefusal.{TableRefusal}
use Rattle.ow_tables.specs.declared.refusal.TableRefusal.TheVariants.{NotFound, BindsABinding, Exists, NotEmpty, SequenceTooLong, SequenceLoops, Entity, NoMemory}
use Rattle.ow_tables.specs.Rows.{found, standing}
use Rattle.ow_tables.specs.Inside.{holds_actions}
use Rattle.ow_tables.specs.Joined.{rule_at, joined_refusal}
use Rattle.ow_tables.specs.Sequences.{sequence_refusal}

abbrev pub table_refusal_number : TableRefusal → ℕ
table_refusal_number NoMemory = 0
table_refusal_number NotFound = 14
table_refusal_number BindsABinding = 15
table_refusal_number Exists = 17
table_refusal_number SequenceTooLong = 19
table_refusal_number SequenceLoops = 20
table_refusal_number NotEmpty = 21
table_refusal_number (Entity e) = refusal_number e

-- a refusal of a draft is one of the tables, and out of memory is the same everywhere
abbrev pub table_refusal : EntityRefusal → TableRefusal
table_refusal entity.NoMemory = NoMemory
table_refusal e = Entity e

-- a refusal of a package is one of the tables. Tables refuse no parameter
abbrev pub refusal_of_package : PackageRefusal → TableRefusal
refusal_of_package packages.NotFound = NotFound
refusal_of_package packages.BindsABinding = BindsABinding
refusal_of_package (packages.Fixed name) = NotFound
refusal_of_package packages.NoMemory = NoMemory

-- ---- each refusal alone

abbrev pub missing_refusal : Option Row → Option TableRefusal
missing_refusal row = if is_some row then None else Some NotFound

-- the package is a binding
abbrev pub binds_refusal : Option Package → Option TableRefusal
binds_refusal None = None
binds_refusal (Some p) = if is_some p.binding then Some BindsABinding else None

-- the package isn't there, or is a binding
abbrev pub unfillable : Option Package → Option TableRefusal
unfillable None = Some NotFound
unfillable (Some p) = binds_refusal (Some p)

-- a rule joins what its namespace lacks: its trigger, or an action that the namespace can call
abbrev pub rule_refusal : Draft → List Row → Option TableRefusal
rule_refusal (drafts.Rule d) rows = joined_refusal (standing rows) d (rule_at (standing rows) d.name)
rule_refusal draft rows = None

-- nothing can be put into the package of the name in which a draft lies
abbrev pub package_refusal : Option FullName → List Row → Option TableRefusal
package_refusal None rows = None
package_refusal (Some name) rows = unfillable (package_at (standing rows) name)

-- the package that a draft gives to be bound
abbrev pub target_of : Draft → Option FullName
target_of (drafts.Package d) = unwrap_or d.binding None
target_of d = None

-- it can't be bound by a package of this namespace
abbrev pub target_refusal : Option FullName → List ℕ → List Row → Option TableRefusal
target_refusal None from rows = None
target_refusal (Some target) from rows = option_map refusal_of_package (binding_refusal (standing rows) target from)

-- the entity exists, and is not to be overwritten
abbrev pub exists_refusal : Bool → Option Row → Option TableRefusal
exists_refusal overwrite old = if not overwrite && is_some old then Some Exists else None

-- the draft makes no row over the old one
abbrev pub finish_refusal : Draft → Option Row → Option TableRefusal
finish_refusal draft old = option_map table_refusal (result_err (finished_row draft old))

-- what is to be removed lies in a package that is a binding
abbrev pub bound_refusal : Option FullName → List Row → Option TableRefusal
bound_refusal None rows = None
bound_refusal (Some name) rows = binds_refusal (package_at (standing rows) name)

-- a package that is to be removed holds actions
abbrev pub holding_refusal : EntityKind → FullName → List Row → Option TableRefusal
holding_refusal kinds.Package name rows = if holds_actions name rows then Some NotEmpty else None
holding_refusal kind name rows = None

-- ---- what is reported

-- the old row that a draft is put over
abbrev pub old_row : Draft → List Row → Option Row
old_row draft rows = found (draft_kind draft) (draft_name draft) rows

-- the first refusal of a put, in this order
abbrev pub put_refusal : Draft → Bool → List Row → Option TableRefusal
put_refusal draft overwrite rows = first_some (
    rule_refusal draft rows
    ∷ package_refusal (package_of (draft_name draft)) rows
    ∷ target_refusal (target_of draft) (draft_name draft).namespace rows
    ∷ exists_refusal overwrite (old_row draft rows)
    ∷ finish_refusal draft (old_row draft rows)
    ∷ sequence_refusal rows (finished_row draft (old_row draft rows))
    ∷ [])

-- the first refusal of a removal, in this order
abbrev pub remove_refusal : EntityKind → FullName → List Row → Option TableRefusal
remove_refusal kind name rows = first_some (
    missing_refusal (found kind name rows)
    ∷ bound_refusal (package_of name) rows
    ∷ holding_refusal kind name rows
    ∷ [])
