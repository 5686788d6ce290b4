-- The rows that bodies make are read back.
use Rattle.std.specs.Prelude.{◌≡◌, ◌≤◌, true, IfSome, Option, Ok}
use Rattle.ow_value.specs.Nesting.{most_nested}
use Rattle.ow_value.specs.Value.{V, depth}
use Rattle.ow_names.specs.declared.full.FullName.{FullName}
use Rattle.ow_entity.specs.Body.{entity_of}
use Rattle.ow_entity.specs.Exec.{components_of}
use Rattle.ow_entity.specs.Finish.{finished_row}
use Rattle.ow_entity.specs.Given.{IsPlaced}
use Rattle.ow_entity.specs.Row.{name_of}
use Rattle.ow_entity.specs.declared.kinds.EntityKind.{EntityKind}
use Rattle.ow_entity.specs.declared.rows.Draft.{Draft}
use Rattle.ow_entity.specs.declared.rows.Row.{Row}
use Rattle.ow_entity.specs.declared.rows.Row.TheVariants as rows
use Rattle.ow_row_text.specs.declared.item.Item.TheVariants as items
use Rattle.ow_keep.specs.Allowed.{are_few, is_entity, is_shallow}

-- a sequence has no more components than a put allows
abbrev pub IsShort : Row → Type 0
IsShort (rows.Action a) = are_few (components_of a.exec) ≡ true
IsShort r = Unit {0}

-- a row of an entity that is read back as it was written, as far as its nesting and the names in it go
pub record IsWritable (r : Row) : Type 0 where
  pub shallow : is_shallow (items.Row r) ≡ true
  pub entity : is_entity r ≡ true

-- a row that a body makes over a row of that name that is, or over none, is one, unless it has too many components
abbrev pub RowsOfBodiesAreWritable : Type 0
RowsOfBodiesAreWritable = (kind : EntityKind) (name : FullName) (body : V) (d : Draft) (old : Option Row) (r : Row)
    → IsPlaced kind name → depth body ≤ most_nested → entity_of kind name body ≡ Ok d → finished_row d old ≡ Ok r → IfSome old (λ o. IsWritable o × (name_of o ≡ name)) → IsShort r → IsWritable r
