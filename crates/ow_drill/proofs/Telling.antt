-- The claim of a drill, by how it ends.
use Rattle.std.proofs.Common.{◌≡◌, ◌+◌, ◌≤◌, ℕ, List, Option, Result, Ok, Err, inl, inr, refl, sym, subst, arith}
use Rattle.ow_traits.specs.Telling.{Telling}
use Rattle.ow_value.specs.declared.memory.NoMemory.{NoMemory as Want}
use Rattle.ow_hall.specs.Comes.{HoldsBook}
use Rattle.ow_hall.specs.History.{IsLegal}
use Rattle.ow_hall.specs.Openings.{HasStartCause}
use Rattle.ow_hall.specs.declared.refusals.StartFault.{StartFault}
use Rattle.ow_hall.specs.declared.refusals.StartFault.TheVariants as starts
use Rattle.ow_tenant.specs.Table.{Table}
use Rattle.ow_command_line.specs.declared.status.Status.{Status}
use Rattle.ow_command_line.specs.declared.status.Status.TheVariants as statuses
use Rattle.ow_day.specs.declared.session.Session.{Session}
use Rattle.ow_day.specs.declared.session.Unopened.{Unopened}
use Rattle.ow_day.specs.Carried.{IsOpeningFault, IsUnopened, not_opened}
use Rattle.ow_day.specs.Faults.{RoseBy}
use Rattle.ow_day.specs.Machine.{IsBehind, start}
use Rattle.ow_day.specs.Session.{Begins, IsHandedBack, machine_of}
use Rattle.ow_day.proofs.Rising.{rose_none}
use Rattle.ow_drill.specs.Counting.{Counts, GoesOn, WritesMade}
use Rattle.ow_drill.specs.Drill.{IsMade}
use Rattle.ow_drill.specs.Drilled.{EndsDrill, IsCutShort, IsDrilled, TellsDrill}
use Rattle.ow_drill.specs.declared.tally.Tally.{Tally}

rose_since : (n before mid now : ℕ) → before ≤ mid → RoseBy n mid now → RoseBy n before now
rose_since n before mid now first (later, rose) = (omega arith, λ most. let there : mid + n ≤ now = rose most in omega arith)

module _ {P : Type 0} (telling : P → Telling) (t : Table) (n seed : ℕ) (store : P) where
  -- ---- the service isn't opened

  pub unopened_told : (old : Option (List ℕ)) (u : Unopened P) → IsHandedBack telling store u → TellsDrill t n seed (telling store) (telling u.store) old old (not_opened u.why)
  unopened_told old u h = go u.why h.cause
    where
      none_written : IsUnopened (telling store) (telling u.store) old old
      none_written = record { unwritten = refl; rows_stay = h.rows_stay; old_rows_stay = h.old_rows_stay; later = h.later }

      go : (why : StartFault) → HasStartCause telling store u.store why → TellsDrill t n seed (telling store) (telling u.store) old old (not_opened why)
      go (starts.BadKept key) cause = (none_written, cause)
      go starts.StoreFault cause = (none_written, cause)
      go starts.NoMemory cause = inl none_written

  -- ---- the service is opened

  behind_start : (s last : Session P) (b : Begins telling store t s) → IsBehind (machine_of s) (machine_of last) → IsBehind (start t b.loaded) (machine_of last)
  behind_start s last b later = subst (λ M. IsBehind M (machine_of last)) b.machine later

  module _ (s last : Session P) (b : Begins telling store t s) (legal : IsLegal last.hall.tenants last.hall.ledger.entries)
      (holds : HoldsBook (telling last.hall.store).rows last.hall.tenants last.hall.ledger) (old new : Option (List ℕ)) where
    drilled : (tally : Tally) → GoesOn telling s last (IsMade n seed (machine_of s)) tally → IsDrilled t n seed (telling store) (telling last.hall.store) tally
    drilled tally goes = record {
      rows = b.loaded;
      opened = record { told = b.told; allowed = b.allowed };
      failed = goes.failed;
      last = machine_of last;
      made = subst (λ M. IsMade n seed M tally goes.failed (machine_of last)) b.machine goes.is;
      leaves = record { rose = rose_since goes.failed (telling store).faults (telling s.hall.store).faults (telling last.hall.store).faults b.later goes.rose; legal = legal; holds = holds };
    }

    cut_short : IsBehind (machine_of s) (machine_of last) → (telling s.hall.store).faults ≤ (telling last.hall.store).faults → new ≡ old
        → IsCutShort t (telling store) (telling last.hall.store) old new
    cut_short later count same = record {
      rows = b.loaded;
      opened = record { told = b.told; allowed = b.allowed };
      last = machine_of last;
      behind = behind_start s last b later;
      leaves = record {
        rose = rose_since 0 (telling store).faults (telling s.hall.store).faults (telling last.hall.store).faults b.later (rose_none (telling s.hall.store).faults (telling last.hall.store).faults count);
        legal = legal;
        holds = holds;
      };
      unwritten = same;
    }

    told : (made : Result Tally Want) (status : Status) → Counts telling s last (IsMade n seed (machine_of s)) made → WritesMade n seed made old new status
        → TellsDrill t n seed (telling store) (telling last.hall.store) old new status
    told (Ok tally) statuses.Ok goes took = (tally, drilled tally goes, took)
    told (Ok tally) (statuses.BadDay statement) goes never = absurd never
    told (Ok tally) statuses.BadWords goes never = absurd never
    told (Ok tally) statuses.ReadFault goes never = absurd never
    told (Ok tally) statuses.WriteFault goes front = (tally, drilled tally goes, front)
    told (Ok tally) statuses.StoreFault goes never = absurd never
    told (Ok tally) (statuses.BadTable row) goes never = absurd never
    told (Ok tally) statuses.NoMemory goes same = inr (cut_short goes.later.behind goes.later.count same)
    told (Ok tally) statuses.DayTooLong goes never = absurd never
    told (Ok tally) (statuses.BadKept key) goes never = absurd never
    told (Ok tally) (statuses.BadManifest number text) goes never = absurd never
    told (Ok tally) (statuses.Undeployed place number text) goes never = absurd never
    told (Ok tally) (statuses.Passed words tenants) goes never = absurd never
    told (Err e) status later (is, same) =
        subst (λ (x : Status). TellsDrill t n seed (telling store) (telling last.hall.store) old new x) (sym is) (inr (cut_short later.behind later.count same))

  pub drill_told : (s last : Session P) (back : P) (made : Result Tally Want) (old new : Option (List ℕ)) (status : Status) → back ≡ last.hall.store → Begins telling store t s
      → IsLegal last.hall.tenants last.hall.ledger.entries → HoldsBook (telling last.hall.store).rows last.hall.tenants last.hall.ledger
      → Counts telling s last (IsMade n seed (machine_of s)) made → WritesMade n seed made old new status → TellsDrill t n seed (telling store) (telling back) old new status
  drill_told s last back made old new status is b legal holds goes wrote =
      subst (λ x. TellsDrill t n seed (telling store) (telling x) old new status) (sym is) (told s last b legal holds old new made status goes wrote)

-- ---- statuses

module _ (t : Table) (n seed : ℕ) where
  pub told_ends : (before after : Telling) (old new : Option (List ℕ)) (status : Status) → TellsDrill t n seed before after old new status → EndsDrill status
  told_ends before after old new statuses.Ok told = tt
  told_ends before after old new (statuses.BadDay statement) never = absurd never
  told_ends before after old new statuses.BadWords never = absurd never
  told_ends before after old new statuses.ReadFault never = absurd never
  told_ends before after old new statuses.WriteFault told = tt
  told_ends before after old new statuses.StoreFault told = tt
  told_ends before after old new (statuses.BadTable row) never = absurd never
  told_ends before after old new statuses.NoMemory told = tt
  told_ends before after old new statuses.DayTooLong never = absurd never
  told_ends before after old new (statuses.BadKept key) told = tt
  told_ends before after old new (statuses.BadManifest number text) never = absurd never
  told_ends before after old new (statuses.Undeployed place number text) never = absurd never
  told_ends before after old new (statuses.Passed words tenants) never = absurd never

  -- a drill that was begun ends by no fault of the opening
  pub no_opening : (made : Result Tally Want) (old new : Option (List ℕ)) (status : Status) → WritesMade n seed made old new status → IsOpeningFault status → ⊥
  no_opening (Ok tally) old new statuses.Ok wrote never = never
  no_opening (Ok tally) old new (statuses.BadDay statement) wrote never = never
  no_opening (Ok tally) old new statuses.BadWords wrote never = never
  no_opening (Ok tally) old new statuses.ReadFault wrote never = never
  no_opening (Ok tally) old new statuses.WriteFault wrote never = never
  no_opening (Ok tally) old new statuses.StoreFault never fault = never
  no_opening (Ok tally) old new (statuses.BadTable row) wrote never = never
  no_opening (Ok tally) old new statuses.NoMemory wrote never = never
  no_opening (Ok tally) old new statuses.DayTooLong wrote never = never
  no_opening (Ok tally) old new (statuses.BadKept key) never fault = never
  no_opening (Ok tally) old new (statuses.BadManifest number text) wrote never = never
  no_opening (Ok tally) old new (statuses.Undeployed place number text) wrote never = never
  no_opening (Ok tally) old new (statuses.Passed words tenants) wrote never = never
  no_opening (Err e) old new status (is, same) fault = subst IsOpeningFault is fault
