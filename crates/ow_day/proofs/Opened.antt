-- A day over a service that was opened over a store: how it begins, goes on and ends.
use Rattle.std.proofs.Common.{◌≡◌, ◌≤◌, ℕ, false, List, [], Option, Some, None, IfSome, inr, refl, sym, ap, subst, ◌∙◌, arith}
use Rattle.ow_traits.specs.Telling.{Telling}
use Rattle.ow_hall.specs.Comes.{HoldsBook}
use Rattle.ow_hall.specs.History.{IsLegal}
use Rattle.ow_row_text.specs.Sorted.{Entries}
use Rattle.ow_tenant.specs.Table.{Table}
use Rattle.ow_day.specs.declared.run.DayReader.{DayReader}
use Rattle.ow_day.specs.declared.session.Session.{Session}
use Rattle.ow_command_line.specs.declared.status.Status.{Status}
use Rattle.ow_command_line.specs.declared.status.Status.TheVariants as statuses
use Rattle.ow_day.specs.Carried.{IsCarriedOut, IsOpenedOver, IsOpeningFault, IsOverTable, IsUnopened, TellsDay}
use Rattle.ow_day.specs.Reads.{IsAnsweredOver, LeavesRest}
use Rattle.ow_day.specs.Run.{IsOfDay, IsUnderWay, Opening, Turns}
use Rattle.ow_day.specs.Machine.{Machine, IsBehind, start}
use Rattle.ow_day.specs.Session.{Begins, IsLater, machine_of}
use Rattle.ow_day.proofs.Behind.{behind_then}
use Rattle.ow_day.proofs.Rising.{rose_none}
use Rattle.ow_day.proofs.Runs.{begins}

-- nothing was written, and the store is as it was
pub untouched : (store : Telling) (taken : Option (List ℕ)) → IsUnopened store store taken taken
untouched store taken = record { unwritten = refl; rows_stay = refl; old_rows_stay = refl; later = omega arith }

-- ---- statuses

pub over_table : (status : Status) → IsOfDay status → IsOverTable status
over_table statuses.Ok of = tt
over_table (statuses.BadDay statement) of = tt
over_table statuses.BadWords never = absurd never
over_table statuses.ReadFault of = tt
over_table statuses.WriteFault of = tt
over_table statuses.StoreFault never = absurd never
over_table (statuses.BadTable row) never = absurd never
over_table statuses.NoMemory of = tt
over_table statuses.DayTooLong of = tt
over_table (statuses.BadKept key) never = absurd never
over_table (statuses.BadManifest number text) never = absurd never
over_table (statuses.Undeployed place number text) never = absurd never
over_table (statuses.Passed words tenants) never = absurd never

pub no_opening : (status : Status) → IsOfDay status → IsOpeningFault status → ⊥
no_opening statuses.Ok of never = never
no_opening (statuses.BadDay statement) of never = never
no_opening statuses.BadWords of never = never
no_opening statuses.ReadFault of never = never
no_opening statuses.WriteFault of never = never
no_opening statuses.StoreFault never fault = never
no_opening (statuses.BadTable row) of never = never
no_opening statuses.NoMemory of never = never
no_opening statuses.DayTooLong of never = never
no_opening (statuses.BadKept key) never fault = never
no_opening (statuses.BadManifest number text) never fault = never
no_opening (statuses.Undeployed place number text) never fault = never
no_opening (statuses.Passed words tenants) never fault = never

module _ {P : Type 0} (telling : P → Telling) (t : Table) (store : P) where
  abbrev pub opening : Entries → Opening
  opening loaded = record { tenants = t; rows = loaded; met = (telling store).faults }

  -- the service was opened, and so far the day is carried out
  pub record IsBegun (day before left taken : Option (List ℕ)) (r : DayReader P) : Type 0 where
    pub loaded : Entries
    pub opened : IsOpenedOver (telling store) loaded
    pub behind : IsBehind (start t loaded) (machine_of r.session)
    pub later : (telling store).faults ≤ (telling r.session.hall.store).faults
    pub under_way : (bytes : List ℕ) → day ≡ Some bytes → IsUnderWay telling (opening loaded) bytes before left taken r

  pub begun : (day taken : Option (List ℕ)) (s : Session P) (r : DayReader P) → Begins telling store t s → r.session ≡ s → r.input.pending ≡ [] → r.input.taken ≡ 0 → r.answers.items ≡ []
      → r.number ≡ 1 → r.ended ≡ false → IsBegun day taken day taken r
  begun day taken s r b same pending read answers number unended =
      let at : machine_of r.session ≡ start t b.loaded = ap machine_of same ∙ b.machine in
      let count : (telling store).faults ≤ (telling r.session.hall.store).faults = rw same b.later in
      record {
        loaded = b.loaded;
        opened = record { told = b.told; allowed = b.allowed };
        behind = (ap (λ (M : Machine). M.tenants) at, ([], ap (λ (M : Machine). M.ledger.entries) at));
        later = count;
        under_way = λ bytes told. begins telling bytes day taken r told at count pending read answers number unended;
      }

  pub begun_on : (day before left left' taken taken' : Option (List ℕ)) (old new : DayReader P) → IsLater telling old.session new.session → Turns telling left left' taken taken' old new None
      → IsBegun day before left taken old → IsBegun day before left' taken' new
  begun_on day before left left' taken taken' old new on turns b = record {
    loaded = b.loaded;
    opened = b.opened;
    behind = behind_then (start t b.loaded) (machine_of old.session) (machine_of new.session) b.behind on.behind;
    later = let first = b.later in let count = on.count in omega (arith, first, count);
    under_way = λ bytes told. turns (opening b.loaded) bytes before (b.under_way bytes told);
  }

  -- ---- its end

  carried_by : (day day' before left left' taken taken' : Option (List ℕ)) (old new : DayReader P) (status : Status) → day' ≡ day → IsLater telling old.session new.session
      → Turns telling left left' taken taken' old new (Some status) → IsLegal new.session.hall.tenants new.session.hall.ledger.entries
      → HoldsBook (telling new.session.hall.store).rows new.session.hall.tenants new.session.hall.ledger → IsBegun day before left taken old
      → IsCarriedOut t (telling store) (telling new.session.hall.store) day' before taken' status
  carried_by day None before left left' taken taken' old new status is on turns legal holds b = record {
    rows = b.loaded;
    opened = b.opened;
    failed = 0;
    last = machine_of new.session;
    behind = behind_then (start t b.loaded) (machine_of old.session) (machine_of new.session) b.behind on.behind;
    tells = tt;
    leaves = record { rose = rose_none (telling store).faults (telling new.session.hall.store).faults (let first = b.later in let count = on.count in omega (arith, first, count)); legal = legal; holds = holds };
  }
  carried_by day (Some bytes) before left left' taken taken' old new status is on turns legal holds b =
      let h = turns (opening b.loaded) bytes before (b.under_way bytes (sym is)) in
      record {
        rows = b.loaded;
        opened = b.opened;
        failed = h.told.failed;
        last = machine_of new.session;
        behind = behind_then (start t b.loaded) (machine_of old.session) (machine_of new.session) b.behind on.behind;
        tells = h.told.tells;
        leaves = record { rose = h.told.rose; legal = legal; holds = holds };
      }

  tells_of : (before after : Telling) (day old new : Option (List ℕ)) (status : Status) → IsOfDay status → IsCarriedOut t before after day old new status → TellsDay t before after day old new status
  tells_of before after day old new statuses.Ok of c = c
  tells_of before after day old new (statuses.BadDay statement) of c = c
  tells_of before after day old new statuses.BadWords never c = absurd never
  tells_of before after day old new statuses.ReadFault of c = c
  tells_of before after day old new statuses.WriteFault of c = c
  tells_of before after day old new statuses.StoreFault never c = absurd never
  tells_of before after day old new (statuses.BadTable row) never c = absurd never
  tells_of before after day old new statuses.NoMemory of c = inr c
  tells_of before after day old new statuses.DayTooLong of c = c
  tells_of before after day old new (statuses.BadKept key) never c = absurd never
  tells_of before after day old new (statuses.BadManifest number text) never c = absurd never
  tells_of before after day old new (statuses.Undeployed place number text) never c = absurd never
  tells_of before after day old new (statuses.Passed words tenants) never c = absurd never

  -- the claim of the day, by its status
  pub day_told : (day before left left' taken taken' : Option (List ℕ)) (old new : DayReader P) (status : Status) (back : P) → back ≡ new.session.hall.store → IsOfDay status → IsLater telling old.session new.session
      → Turns telling left left' taken taken' old new (Some status) → IsLegal new.session.hall.tenants new.session.hall.ledger.entries
      → HoldsBook (telling new.session.hall.store).rows new.session.hall.tenants new.session.hall.ledger → IsBegun day before left taken old
      → TellsDay t (telling store) (telling back) day before taken' status
  day_told day before left left' taken taken' old new status back is of on turns legal holds b =
      subst (λ s. TellsDay t (telling store) (telling s) day before taken' status) (sym is)
      (tells_of _ _ day before taken' status of (carried_by day day before left left' taken taken' old new status refl on turns legal holds b))

  leaves_by : (day day' before left left' taken taken' : Option (List ℕ)) (old new : DayReader P) (status : Status) → day' ≡ day → Turns telling left left' taken taken' old new (Some status) → IsBegun day before left taken old
      → IfSome day' (λ bytes. LeavesRest bytes left')
  leaves_by day None before left left' taken taken' old new status is turns b = tt
  leaves_by day (Some bytes) before left left' taken taken' old new status is turns b = (turns (opening b.loaded) bytes before (b.under_way bytes (sym is))).leaves

  -- what is left of the day
  pub day_leaves : (day before left left' taken taken' : Option (List ℕ)) (old new : DayReader P) (status : Status) → Turns telling left left' taken taken' old new (Some status) → IsBegun day before left taken old
      → IfSome day (λ bytes. LeavesRest bytes left')
  day_leaves day before left left' taken taken' old new status turns b = leaves_by day day before left left' taken taken' old new status refl turns b

  answers_by : (day day' before left left' taken taken' : Option (List ℕ)) (old new : DayReader P) (status : Status) → day' ≡ day → status ≡ statuses.ReadFault → Turns telling left left' taken taken' old new (Some status)
      → IsBegun day before left taken old → IfSome day' (λ bytes. IsAnsweredOver t (telling store) bytes left' before taken')
  answers_by day None before left left' taken taken' old new status is fault turns b = tt
  answers_by day (Some bytes) before left left' taken taken' old new status is fault turns b =
      inr (b.loaded, (b.opened, (turns (opening b.loaded) bytes before (b.under_way bytes (sym is))).answered fault))

  -- that all that was read is answered, where it could not be read on
  pub day_answers : (day before left left' taken taken' : Option (List ℕ)) (old new : DayReader P) (status : Status) → status ≡ statuses.ReadFault → Turns telling left left' taken taken' old new (Some status)
      → IsBegun day before left taken old → IfSome day (λ bytes. IsAnsweredOver t (telling store) bytes left' before taken')
  day_answers day before left left' taken taken' old new status fault turns b = answers_by day day before left left' taken taken' old new status refl fault turns b
