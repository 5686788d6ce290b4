-- The claim of a command over an office table, whatever is done over a good one.
use Rattle.std.proofs.Common.{◌≡◌, ◌⊎◌, ℕ, Bool, true, List, Option, Some, None, IfSome, Result, Ok, Err, drop, inl, inr, refl, sym, arith}
use Rattle.ow_traits.specs.Streams.{Rose}
use Rattle.ow_tenant.specs.Reading.{ReadsUpTo, Tells as TellsRows, TellsTable as TellsBytes, most_read}
use Rattle.ow_tenant.specs.Table.{Table, table_of}
use Rattle.ow_tenant.specs.declared.refusal.TenantRefusal.{TenantRefusal}
use Rattle.ow_tenant.specs.declared.refusal.TenantRefusal.TheVariants as refusals
use Rattle.ow_command_line.specs.declared.status.Status.{Status}
use Rattle.ow_command_line.specs.declared.status.Status.TheVariants as statuses
use Rattle.ow_office.specs.Sides.{Sides, TouchesTable}
use Rattle.ow_office.specs.Table.{Doing, LeavesTable, TellsOver, TellsTable, rows_named, unread}

-- the result of reading a table, where its source reports its bytes
abbrev pub IsToldBy : Option (List ℕ) → Result Table TenantRefusal → Type 0
IsToldBy rows result = IfSome rows (λ text. TellsRows (table_of text) result)

-- ---- what is left of it

read_whole : (text left : Option (List ℕ)) (t : Table) (status : Status) → ReadsUpTo most_read text left → TellsBytes text left (Ok t) → LeavesTable text left status
read_whole None left t status most told = record { most = most; whole = tt }
read_whole (Some text) left t status most told = record { most = most; whole = inr (inr told.1) }

unread_leaves : (text left : Option (List ℕ)) (refusal : TenantRefusal) → ReadsUpTo most_read text left → TellsBytes text left (Err refusal) → LeavesTable text left (unread refusal)
unread_leaves None left refusal most told = record { most = most; whole = tt }
unread_leaves (Some text) left (refusals.BadRow row) most told = record { most = most; whole = inr (inr told.1) }
unread_leaves (Some text) left refusals.ReadFault most told = record { most = most; whole = inr (inl refl) }
unread_leaves (Some text) left refusals.NoMemory most told = record { most = most; whole = inl refl }
unread_leaves (Some text) left refusals.UnknownKey most told = record { most = most; whole = inl refl }
unread_leaves (Some text) left refusals.NotGranted most told = record { most = most; whole = inl refl }

up_to_none : (text : Option (List ℕ)) → ReadsUpTo most_read text text
up_to_none None = tt
up_to_none (Some text) = (0, omega arith, refl)

wanted_whole : (text left : Option (List ℕ)) → IfSome text (λ bytes. (statuses.NoMemory ≡ statuses.NoMemory) ⊎ ((statuses.NoMemory ≡ statuses.ReadFault) ⊎ (left ≡ Some (drop most_read bytes))))
wanted_whole None left = tt
wanted_whole (Some text) left = inl refl

-- ---- the command

told_table : (rows : Option (List ℕ)) (t : Table) → IsToldBy rows (Ok t) → IfSome rows (λ text. Ok t ≡ table_of text)
told_table None t told = tt
told_table (Some text) t told = sym told

module _ (Does : Doing) (named : Bool) (before after : Sides) where
  -- over a table that was read
  pub read_over : (t : Table) (status : Status) → IsToldBy (rows_named named before.table.left) (Ok t) → (named ≡ true → TellsBytes before.table.left after.table.left (Ok t))
      → (named ≡ true → ReadsUpTo most_read before.table.left after.table.left) → Does t before after status → TellsTable Does named before after status
  read_over t status told reads most does = record {
    want = Ok t;
    told = told_table (rows_named named before.table.left) t told;
    leaves = λ is. read_whole before.table.left after.table.left t status (most is) (reads is);
    over = inr does;
  }

  unread_so : (want : Result Table ℕ) (refusal : TenantRefusal) → TellsRows want (Err refusal) → (refusal ≡ refusals.ReadFault → Rose before.table.faults after.table.faults) → TouchesTable before after
      → TellsOver Does want before after (unread refusal)
  unread_so want (refusals.BadRow row) told cause touches = rw told (refl, touches)
  unread_so (Ok t) refusals.ReadFault told cause touches = inl (cause refl, touches)
  unread_so (Err row) refusals.ReadFault told cause touches = (cause refl, touches)
  unread_so (Ok t) refusals.NoMemory told cause touches = inl touches
  unread_so (Err row) refusals.NoMemory told cause touches = touches
  unread_so want refusals.UnknownKey told cause touches = absurd told
  unread_so want refusals.NotGranted told cause touches = absurd told

  -- the first bad row, where the source doesn't report its bytes
  untold : TenantRefusal → Result Table ℕ
  untold (refusals.BadRow row) = Err row
  untold other = Err 0

  untold_so : (refusal : TenantRefusal) → (refusal ≡ refusals.ReadFault → Rose before.table.faults after.table.faults) → TouchesTable before after → TellsOver Does (untold refusal) before after (unread refusal)
  unfolding untold
  untold_so (refusals.BadRow row) cause touches = (refl, touches)
  untold_so refusals.ReadFault cause touches = (cause refl, touches)
  untold_so refusals.NoMemory cause touches = touches
  untold_so refusals.UnknownKey cause touches = touches
  untold_so refusals.NotGranted cause touches = touches

  over_by : (rows : Option (List ℕ)) (refusal : TenantRefusal) → IsToldBy rows (Err refusal) → (refusal ≡ refusals.ReadFault → Rose before.table.faults after.table.faults) → TouchesTable before after
      → (want : Result Table ℕ) × (IfSome rows (λ text. want ≡ table_of text) × TellsOver Does want before after (unread refusal))
  over_by None refusal told cause touches = (untold refusal, (tt, untold_so refusal cause touches))
  over_by (Some text) refusal told cause touches = (table_of text, (refl, unread_so (table_of text) refusal told cause touches))

  -- and over one that was not
  pub unread_over : (refusal : TenantRefusal) → IsToldBy (rows_named named before.table.left) (Err refusal) → (named ≡ true → TellsBytes before.table.left after.table.left (Err refusal))
      → (named ≡ true → ReadsUpTo most_read before.table.left after.table.left) → (refusal ≡ refusals.ReadFault → Rose before.table.faults after.table.faults) → TouchesTable before after
      → TellsTable Does named before after (unread refusal)
  unread_over refusal told reads most cause touches =
      let by = over_by (rows_named named before.table.left) refusal told cause touches in
      record {
        want = by.0;
        told = by.1.0;
        leaves = λ is. unread_leaves before.table.left after.table.left refusal (most is) (reads is);
        over = by.1.1;
      }

-- where the memory runs out before the table is read, nothing is touched
pub wanted_over : (Does : Doing) (named : Bool) (s : Sides) → TellsTable Does named s s statuses.NoMemory
wanted_over Does named s =
    let by = over_by Does named s s (rows_named named s.table.left) refusals.NoMemory (told_none (rows_named named s.table.left)) (λ e. absurd (no_fault e)) refl in
    record {
      want = by.0;
      told = by.1.0;
      leaves = λ is. record { most = up_to_none s.table.left; whole = wanted_whole s.table.left s.table.left };
      over = by.1.1;
    }
  where
    no_fault : refusals.NoMemory ≡ refusals.ReadFault → ⊥
    no_fault e = cc

    told_none : (rows : Option (List ℕ)) → IsToldBy rows (Err refusals.NoMemory)
    told_none None = tt
    told_none (Some text) = tt
