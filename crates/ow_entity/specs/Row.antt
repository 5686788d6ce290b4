-- What is common to rows of all kinds, and to drafts.
use Rattle.std.specs.Prelude.{ℕ}
use Rattle.ow_names.specs.declared.full.FullName.{FullName}
use Rattle.ow_entity.specs.declared.kinds.EntityKind.{EntityKind}
use Rattle.ow_entity.specs.declared.kinds.EntityKind.TheVariants as kinds
use Rattle.ow_entity.specs.declared.rows.Row.{Row}
use Rattle.ow_entity.specs.declared.rows.Row.TheVariants as rows
use Rattle.ow_entity.specs.declared.rows.Draft.{Draft}
use Rattle.ow_entity.specs.declared.rows.Draft.TheVariants as drafts

abbrev pub kind_of : Row → EntityKind
kind_of (rows.Action a) = kinds.Action
kind_of (rows.Package p) = kinds.Package
kind_of (rows.Rule r) = kinds.Rule
kind_of (rows.Trigger t) = kinds.Trigger

abbrev pub name_of : Row → FullName
name_of (rows.Action a) = a.name
name_of (rows.Package p) = p.name
name_of (rows.Rule r) = r.name
name_of (rows.Trigger t) = t.name

abbrev pub version_of : Row → ℕ
version_of (rows.Action a) = a.version
version_of (rows.Package p) = p.version
version_of (rows.Rule r) = r.version
version_of (rows.Trigger t) = t.version

abbrev pub draft_kind : Draft → EntityKind
draft_kind (drafts.Action d) = kinds.Action
draft_kind (drafts.Package d) = kinds.Package
draft_kind (drafts.Rule d) = kinds.Rule
draft_kind (drafts.Trigger d) = kinds.Trigger

abbrev pub draft_name : Draft → FullName
draft_name (drafts.Action d) = d.name
draft_name (drafts.Package d) = d.name
draft_name (drafts.Rule d) = d.name
draft_name (drafts.Trigger d) = d.name

-- the row with this version instead of its own
abbrev pub with_version : ℕ → Row → Row
with_version n (rows.Action a) = rows.Action (record a { version = n })
with_version n (rows.Package p) = rows.Package (record p { version = n })
with_version n (rows.Rule r) = rows.Rule (record r { version = n })
with_version n (rows.Trigger t) = rows.Trigger (record t { version = n })
