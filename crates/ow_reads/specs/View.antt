-- What the caller may see: every read is answered from this and from the request.
use Rattle.std.specs.Prelude.{◌≤◌, ◌&&◌, ◌||◌, ℕ, List, Bool, false, filter, length, is_some, Option, Some, None}
use Rattle.std.specs.List.{list_any}
use Rattle.ow_names.specs.declared.full.FullName.{FullName}
use Rattle.ow_entity.specs.Row.{name_of}
use Rattle.ow_entity.specs.declared.kinds.EntityKind.TheVariants as kinds
use Rattle.ow_entity.specs.declared.packages.Package.{Package}
use Rattle.ow_entity.specs.declared.rows.Row.{Row}
use Rattle.ow_entity.specs.declared.rows.Row.TheVariants as rows
use Rattle.ow_packages.specs.Access.{reached_package}
use Rattle.ow_tables.specs.Inside.{lies_in}
use Rattle.ow_tables.specs.Rows.{is_row, standing}
use Rattle.ow_records.specs.Records.{id_key, is_of_id, sorted_by}
use Rattle.ow_records.specs.declared.ids.Id.{Id}
use Rattle.ow_records.specs.declared.record.Record.{Record}
use Rattle.ow_value.specs.ByText.{ByText, value_at}
use Rattle.ow_tenant.specs.Rights.{has_right, rights_or_none}
use Rattle.ow_tenant.specs.declared.entries.Holder.{Holder}
use Rattle.ow_tenant.specs.declared.rights.Right.TheVariants.{Read}
use Rattle.ow_tenant.specs.declared.rights.Rights.{Rights}

-- a key's own namespace, its subject, its rights, the rows that it may see, by kind and name, and the records of the namespaces in
-- which it may read, by their ids
pub record View : Type 0 where
  pub home : List ℕ
  pub subject : List ℕ
  pub rights : ByText Rights
  pub rows : List Row
  pub records : List Record

-- the key may read in a namespace
abbrev pub may_read : ByText Rights → List ℕ → Bool
may_read rights namespace = has_right Read (rights_or_none (value_at namespace rights))

-- ---- packages

-- the caller may read in the package's namespace, or the package is shared
abbrev pub is_open : ByText Rights → Package → Bool
is_open rights p = may_read rights p.name.namespace || p.publish

-- the row is the package of this name, or an action in it
abbrev pub belongs_to : FullName → Row → Bool
belongs_to name r = is_row kinds.Package name r || lies_in name r

-- the row belongs to the package that is bound, which is reached from the binding's namespace
abbrev pub is_bound : List Row → List ℕ → Option FullName → Row → Bool
is_bound rs from None r = false
is_bound rs from (Some target) r = is_some (reached_package (standing rs) target from) && belongs_to target r

-- a package that the caller may see shows itself and its actions, and a binding the package that it binds and the actions of that
abbrev pub is_shown_by : ByText Rights → List Row → Row → Row → Bool
is_shown_by rights rs (rows.Package p) r = is_open rights p && (belongs_to p.name r || is_bound rs p.name.namespace p.binding r)
is_shown_by rights rs other r = false

-- ---- what is seen

-- a row of a namespace in which the key may read, or one that a package shows
unfoldable pub is_visible : ByText Rights → List Row → Row → Bool
is_visible rights rs r = may_read rights (name_of r).namespace || list_any (λ b. is_shown_by rights rs b r) rs

-- the rows that are seen among these
abbrev pub visible_rows : ByText Rights → List Row → List Row
visible_rows rights rs = filter (is_visible rights rs) rs

-- a record of a namespace in which the key may read
abbrev pub is_visible_record : ByText Rights → Record → Bool
is_visible_record rights r = may_read rights r.namespace

-- the records that are seen among these, by their ids
abbrev pub seen_records : ByText Rights → List Record → List Record
seen_records rights ended = sorted_by id_key (filter (is_visible_record rights) ended)

-- what the holder of a key sees of these rows and records
abbrev pub view_over : List Row → List Record → Holder → View
view_over rs ended h = record {
  home = h.home;
  subject = h.subject;
  rights = h.rights;
  rows = visible_rows h.rights rs;
  records = seen_records h.rights ended;
}

-- no two of these records have one id
abbrev pub AreOnce : List Record → Type 0
AreOnce ended = (id : Id) → length (filter (is_of_id id) ended) ≤ 1
