-- A command over an office table: how the table is read, and what is done over it.
use Rattle.std.specs.Prelude.{◌≡◌, ◌⊎◌, ℕ, Bool, true, false, List, [], Option, Some, Result, Ok, Err, IfSome, drop}
use Rattle.ow_traits.specs.Streams.{Rose}
use Rattle.ow_tenant.specs.Reading.{ReadsUpTo, most_read}
use Rattle.ow_tenant.specs.Table.{Table, table_of}
use Rattle.ow_tenant.specs.declared.refusal.TenantRefusal.{TenantRefusal}
use Rattle.ow_tenant.specs.declared.refusal.TenantRefusal.TheVariants as refusals
use Rattle.ow_command_line.specs.declared.status.Status.{Status}
use Rattle.ow_command_line.specs.declared.status.Status.TheVariants as statuses
use Rattle.ow_office.specs.Sides.{Sides, TouchesTable}

-- the bytes of the office table: what its source reports, where the words name a table, and else no bytes
abbrev pub rows_named : Bool → Option (List ℕ) → Option (List ℕ)
rows_named false left = Some []
rows_named true left = left

-- what is left of a table: at most one byte more is read than a table may have, and `most_read` bytes are gone where it is read whole
pub record LeavesTable (text left : Option (List ℕ)) (status : Status) : Type 0 where
  pub most : ReadsUpTo most_read text left
  pub whole : IfSome text (λ bytes. (status ≡ statuses.NoMemory) ⊎ ((status ≡ statuses.ReadFault) ⊎ (left ≡ Some (drop most_read bytes))))

-- the table isn't read: there is no memory, or a read of the table fails. Nothing else is touched
abbrev pub IsUnread : Sides → Sides → Status → Type 0
IsUnread before after statuses.NoMemory = TouchesTable before after
IsUnread before after statuses.ReadFault = Rose before.table.faults after.table.faults × TouchesTable before after
IsUnread before after other = ⊥

-- what is done over a table that has no bad row, by the status
abbrev pub Doing : Type 1
Doing = Table → Sides → Sides → Status → Type 0

-- a table with a bad row ends the command, and no other does. Nothing else is touched then. Over a good table that is read this is done
abbrev pub TellsOver : Doing → Result Table ℕ → Sides → Sides → Status → Type 0
TellsOver Does (Ok t) before after status = IsUnread before after status ⊎ Does t before after status
TellsOver Does (Err row) before after (statuses.BadTable n) = (n ≡ row) × TouchesTable before after
TellsOver Does (Err row) before after status = IsUnread before after status

-- a command over the table that the source's bytes give, where it reports them, and else over some table or bad row
pub record TellsTable (Does : Doing) (named : Bool) (before after : Sides) (status : Status) : Type 0 where
  pub want : Result Table ℕ
  pub told : IfSome (rows_named named before.table.left) (λ text. want ≡ table_of text)
  pub leaves : named ≡ true → LeavesTable before.table.left after.table.left status
  pub over : TellsOver Does want before after status

-- how it ends where the table isn't read, for private clauses
abbrev pub unread : TenantRefusal → Status
unread (refusals.BadRow row) = statuses.BadTable row
unread refusals.ReadFault = statuses.ReadFault
unread refusals.NoMemory = statuses.NoMemory
unread refusals.UnknownKey = statuses.NoMemory
unread refusals.NotGranted = statuses.NoMemory
