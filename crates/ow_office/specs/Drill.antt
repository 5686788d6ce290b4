-- The command `drill`: made calls are carried out over an office table and a store, and their counts are written. The input isn't touched.
use Rattle.std.specs.Prelude.{◌≡◌, ℕ}
use Rattle.ow_traits.specs.Streams.{Rose}
use Rattle.ow_tenant.specs.Table.{Table}
use Rattle.ow_command_line.specs.declared.status.Status.{Status}
use Rattle.ow_command_line.specs.declared.status.Status.TheVariants as statuses
use Rattle.ow_drill.specs.Drilled.{EndsDrill, TellsDrill}
use Rattle.ow_office.specs.Sides.{Sides, sides}

-- a drill over a good table: what was written and kept, and why it could not be written on
pub record DoesDrill (n seed : ℕ) (t : Table) (before after : Sides) (status : Status) : Type 0 where
  pub ends : EndsDrill status
  pub told : TellsDrill t n seed before.store after.store before.out.taken after.out.taken status
  pub write : status ≡ statuses.WriteFault → Rose before.out.faults after.out.faults
  pub others : after ≡ sides after.table before.day after.out after.store
