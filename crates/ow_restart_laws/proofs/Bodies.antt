-- The rows that bodies make last, where they are writable.
use Rattle.std.proofs.Common.{◌≡◌, IfSome, Option, Some, None}
use Rattle.ow_names.specs.declared.full.FullName.{FullName}
use Rattle.ow_entity.specs.Row.{name_of}
use Rattle.ow_entity.specs.declared.rows.Row.{Row}
use Rattle.ow_row_text.specs.declared.item.Item.TheVariants as items
use Rattle.ow_restart_laws.specs.RowsKept.{IsWritable, RowsOfBodiesAreWritable}
use Rattle.ow_restart_laws.specs.Bodies.{RowsOfBodies}
use Rattle.ow_restart_laws.specs.Lasting.{IsLasting}

old_so : (name : FullName) (o : Option Row) → IfSome o (λ (r : Row). IsLasting (items.Row r) × (name_of r ≡ name)) → IfSome o (λ (r : Row). IsWritable r × (name_of r ≡ name))
old_so name None h = tt
old_so name (Some r) h = (record { shallow = h.0.shallow; entity = h.0.fit }, h.1)

pub bodies_last : RowsOfBodiesAreWritable → RowsOfBodies
bodies_last core kind name body d old r placed within drafted finished before short =
    let w = core kind name body d old r placed within drafted finished (old_so name old before) short in
    record { shallow = w.shallow; fit = w.entity }
