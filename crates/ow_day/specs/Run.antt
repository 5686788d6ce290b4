-- A day that is under way: what was read of it, carried out and written, for private clauses.
use Rattle.std.specs.Prelude.{◌≡◌, ◌<◌, ◌≤◌, ◌+◌, ◌-◌, ◌*◌, ◌++◌, ◌⊎◌, ℕ, true, false, List, [], Option, Some, None, length, take, if◌then◌else◌}
use Rattle.ow_traits.specs.Telling.{Telling}
use Rattle.ow_traits.specs.Streams.{Takes, TakesFront}
use Rattle.ow_tenant.specs.Table.{Table}
use Rattle.ow_command_line.specs.declared.status.Status.{Status}
use Rattle.ow_command_line.specs.declared.status.Status.TheVariants as statuses
use Rattle.ow_day.specs.declared.session.StepOutcome.{StepOutcome}
use Rattle.ow_day.specs.declared.session.StepOutcome.TheVariants as steps
use Rattle.ow_day.specs.declared.run.DayReader.{DayReader}
use Rattle.ow_day.specs.Statement.{Statement}
use Rattle.ow_row_text.specs.Sorted.{Entries}
use Rattle.ow_day.specs.Faults.{RoseBy}
use Rattle.ow_day.specs.Machine.{CarriesOut, Machine, start}
use Rattle.ow_day.specs.Session.{IsLater, machine_of}
use Rattle.ow_day.specs.Limits.{most_bytes, most_piece}
use Rattle.ow_day.specs.Day.{DayEnd, Finished, Bad, Cut, day_from, day_of, first_statement, has_more, with_statements}
use Rattle.ow_day.specs.Carried.{Tells}
use Rattle.ow_day.specs.Reads.{IsAnswered, IsUnfinished, LeavesRest}

-- what is left of a day inside its greatest length, where so much was read
unfoldable pub in_window : ℕ → List ℕ → List ℕ
in_window taken rest = take (most_bytes - taken) rest

-- whatever follows what was read, its statements are the ones that are done, and then those of the pending bytes
abbrev pub GoesOn : List ℕ → List Statement → ℕ → List ℕ → Type 0
GoesOn read done number pending = (later : List ℕ) → (count : ℕ) × (length (pending ++ later) < count)
    × (day_from (length (read ++ later) + 1) true 1 (read ++ later) ≡ with_statements done (day_from count true number (pending ++ later)))

-- what was read of a day: a prefix in which the day isn't over, and the last piece after it
pub record HasRead {P : Type 0} (bytes rest : List ℕ) (done : List Statement) (r : DayReader P) : Type 0 where
  pub front : List ℕ
  pub last : List ℕ
  pub whole : bytes ≡ front ++ (last ++ rest)
  pub unfinished : IsUnfinished front
  pub piece : length last ≤ most_piece
  pub taken : r.input.taken ≡ length (front ++ last)
  pub goes_on : r.ended ≡ false → GoesOn (front ++ last) done r.number r.input.pending

-- the office table and the kept rows that the service was opened over, and how many faults its store had met then
pub record Opening : Type 0 where
  pub tenants : Table
  pub rows : Entries
  pub met : ℕ

-- the machine at the opening
abbrev pub begin : Opening → Machine
begin o = start o.tenants o.rows

-- some statements are done, and their lines written or ready: the rest of the day gives the rest of the statements
pub record IsUnderWay {P : Type 0} (telling : P → Telling) (o : Opening) (bytes : List ℕ) (before left taken : Option (List ℕ)) (r : DayReader P) : Type 0 where
  pub rest : List ℕ
  pub done : List Statement
  pub count : ℕ
  pub written : List ℕ
  pub failed : ℕ
  pub told : left ≡ Some rest
  pub read : HasRead bytes rest done r
  pub all : length bytes ≡ r.input.taken + length rest
  pub none : r.ended ≡ true → rest ≡ []
  pub enough : length (r.input.pending ++ in_window r.input.taken rest) < count
  pub took : Takes before taken written
  pub carried : CarriesOut (begin o) done (written ++ r.answers.items) failed (machine_of r.session)
  pub rose : RoseBy failed o.met (telling r.session.hall.store).faults
  pub whole : day_of bytes ≡ with_statements done (day_from count (has_more bytes) r.number (r.input.pending ++ in_window r.input.taken rest))

-- the day ends here: what was written and what is ready are its lines
pub record IsAtEnd {P : Type 0} (telling : P → Telling) (o : Opening) (bytes : List ℕ) (before taken : Option (List ℕ)) (r : DayReader P) (ending : DayEnd) : Type 0 where
  pub written : List ℕ
  pub failed : ℕ
  pub took : Takes before taken written
  pub carried : CarriesOut (begin o) (day_of bytes).statements (written ++ r.answers.items) failed (machine_of r.session)
  pub rose : RoseBy failed o.met (telling r.session.hall.store).faults
  pub ends : (day_of bytes).ending ≡ ending

abbrev pub EndsSo : {P : Type 0} → (P → Telling) → DayReader P → DayReader P → DayEnd → Type 0
EndsSo telling old new ending = (o : Opening) (bytes : List ℕ) (before left taken : Option (List ℕ)) → IsUnderWay telling o bytes before left taken old → IsAtEnd telling o bytes before taken new ending

-- the first statement was carried out or ends the day, or waits for more bytes
abbrev pub StepsOn : {P : Type 0} → (P → Telling) → DayReader P → DayReader P → StepOutcome → Type 0
StepsOn telling old new steps.Done =
    (o : Opening) (bytes : List ℕ) (before left taken : Option (List ℕ)) → IsUnderWay telling o bytes before left taken old → IsUnderWay telling o bytes before left taken new
StepsOn telling old new steps.End = EndsSo telling old new Finished
StepsOn telling old new steps.Bad = EndsSo telling old new (Bad new.number)
StepsOn telling old new steps.Cut = (new ≡ old) × (old.ended ≡ false) × (first_statement true old.input.pending ≡ Cut)
StepsOn telling old new steps.NoMemory = IsLater telling old.session new.session

-- the lines were written, or a fault cut them
abbrev pub ClosesSo : Option (List ℕ) → Option (List ℕ) → List ℕ → Status → Status → Type 0
ClosesSo old new lines status result = ((result ≡ status) × Takes old new lines) ⊎ ((result ≡ statuses.WriteFault) × TakesFront old new lines)

-- the status after a step that ends the day
abbrev pub Closes : {P : Type 0} → Option (List ℕ) → Option (List ℕ) → DayReader P → StepOutcome → Status → Type 0
Closes old new r steps.End result = ClosesSo old new r.answers.items statuses.Ok result
Closes old new r steps.Bad result = ClosesSo old new r.answers.items (statuses.BadDay r.number) result
Closes old new r step result = (result ≡ statuses.NoMemory) × (new ≡ old)

-- what was written for the day by its status, and how the store's count of faults rose
pub record IsTold {P : Type 0} (telling : P → Telling) (o : Opening) (bytes : List ℕ) (before taken : Option (List ℕ)) (r : DayReader P) (status : Status) : Type 0 where
  pub failed : ℕ
  pub tells : Tells o.tenants o.rows before taken status failed (machine_of r.session) (day_of bytes)
  pub rose : RoseBy failed o.met (telling r.session.hall.store).faults

-- the day ended with this status: what is left of it, too, and that all that was read is answered where it could not be read on
pub record HasEnded {P : Type 0} (telling : P → Telling) (o : Opening) (bytes : List ℕ) (before left taken : Option (List ℕ)) (r : DayReader P) (status : Status) : Type 0 where
  pub told : IsTold telling o bytes before taken r status
  pub leaves : LeavesRest bytes left
  pub answered : status ≡ statuses.ReadFault → IsAnswered o.tenants o.rows bytes left before taken

-- one turn: the day goes on, or ends with this status
abbrev pub Turns : {P : Type 0} → (P → Telling) → Option (List ℕ) → Option (List ℕ) → Option (List ℕ) → Option (List ℕ) → DayReader P → DayReader P → Option Status → Type 0
Turns telling left left' taken taken' old new None =
    (o : Opening) (bytes : List ℕ) (before : Option (List ℕ)) → IsUnderWay telling o bytes before left taken old → IsUnderWay telling o bytes before left' taken' new
Turns telling left left' taken taken' old new (Some status) =
    (o : Opening) (bytes : List ℕ) (before : Option (List ℕ)) → IsUnderWay telling o bytes before left taken old → HasEnded telling o bytes before left' taken' new status

-- a turn that reads nothing
abbrev pub WritesOn : {P : Type 0} → (P → Telling) → Option (List ℕ) → Option (List ℕ) → DayReader P → DayReader P → Option Status → Type 0
WritesOn telling taken taken' old new result = (left : Option (List ℕ)) → Turns telling left left taken taken' old new result

-- no number can pass its type: each statement has a byte of the day
pub record IsBounded {P : Type 0} (r : DayReader P) : Type 0 where
  pub bytes : r.number + length r.input.pending ≤ r.input.taken + 1
  pub most : r.input.taken ≤ most_bytes

-- the work that is left: bytes to be read, the end to be seen, and bytes to be carried out
abbrev pub work : {P : Type 0} → DayReader P → ℕ
work r = 2 * (most_bytes - r.input.taken) + (if r.ended then 0 else 1) + length r.input.pending

-- a status that a day can end with, once the service was opened
abbrev pub IsOfDay : Status → Type 0
IsOfDay statuses.Ok = Unit {0}
IsOfDay (statuses.BadDay statement) = Unit {0}
IsOfDay statuses.ReadFault = Unit {0}
IsOfDay statuses.WriteFault = Unit {0}
IsOfDay statuses.DayTooLong = Unit {0}
IsOfDay statuses.NoMemory = Unit {0}
IsOfDay other = ⊥
