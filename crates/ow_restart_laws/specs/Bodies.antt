-- For lemmas: what is known of the rows that bodies make.
use Rattle.std.specs.Prelude.{◌≡◌, ◌≤◌, IfSome, Option, Ok}
use Rattle.ow_value.specs.Nesting.{most_nested}
use Rattle.ow_value.specs.Value.{V, depth}
use Rattle.ow_names.specs.declared.full.FullName.{FullName}
use Rattle.ow_entity.specs.Body.{entity_of}
use Rattle.ow_entity.specs.Finish.{finished_row}
use Rattle.ow_entity.specs.Given.{IsPlaced}
use Rattle.ow_entity.specs.Row.{name_of}
use Rattle.ow_entity.specs.declared.kinds.EntityKind.{EntityKind}
use Rattle.ow_entity.specs.declared.rows.Draft.{Draft}
use Rattle.ow_entity.specs.declared.rows.Row.{Row}
use Rattle.ow_row_text.specs.declared.item.Item.TheVariants as items
use Rattle.ow_restart_laws.specs.Lasting.{IsLasting}
use Rattle.ow_restart_laws.specs.RowsKept.{IsShort}

-- a row that a body makes over a row of that name that lasts, or over none, lasts, unless it has too many components
abbrev pub RowsOfBodies : Type 0
RowsOfBodies = (kind : EntityKind) (name : FullName) (body : V) (d : Draft) (old : Option Row) (r : Row)
    → IsPlaced kind name → depth body ≤ most_nested → entity_of kind name body ≡ Ok d → finished_row d old ≡ Ok r
    → IfSome old (λ o. IsLasting (items.Row o) × (name_of o ≡ name)) → IsShort r → IsLasting (items.Row r)
