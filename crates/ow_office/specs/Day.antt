-- The command `day`: the statements of the input are carried out over an office table and a store.
use Rattle.std.specs.Prelude.{◌≡◌, IfSome}
use Rattle.ow_traits.specs.Streams.{Rose}
use Rattle.ow_tenant.specs.Table.{Table}
use Rattle.ow_command_line.specs.declared.status.Status.{Status}
use Rattle.ow_command_line.specs.declared.status.Status.TheVariants as statuses
use Rattle.ow_day.specs.Carried.{IsOverTable, TellsDay}
use Rattle.ow_day.specs.Reads.{IsAnsweredOver, LeavesRest}
use Rattle.ow_office.specs.Sides.{Sides}

-- a day over a good table: what was written and kept, how much of the input was read, and why it could not be read or written on
pub record DoesDay (t : Table) (before after : Sides) (status : Status) : Type 0 where
  pub ends : IsOverTable status
  pub told : TellsDay t before.store after.store before.day.left before.out.taken after.out.taken status
  pub reads : IfSome before.day.left (λ bytes. LeavesRest bytes after.day.left)
  pub answered : status ≡ statuses.ReadFault → IfSome before.day.left (λ bytes. IsAnsweredOver t before.store bytes after.day.left before.out.taken after.out.taken)
  pub read : status ≡ statuses.ReadFault → Rose before.day.faults after.day.faults
  pub write : status ≡ statuses.WriteFault → Rose before.out.faults after.out.faults

-- a status with which the command ends, for private clauses
abbrev pub EndsDay : Status → Type 0
EndsDay statuses.BadWords = ⊥
EndsDay (statuses.Passed words tenants) = ⊥
EndsDay other = Unit {0}
