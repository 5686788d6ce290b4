-- A day that ended: what was written, and what is left of it.
use Rattle.std.proofs.Common.{◌≡◌, ◌≤◌, ◌<◌, ◌++◌, ℕ, false, true, List, [], Option, Some, IfSome, length, drop, sym, ap, ◌∙◌, arith, append_assoc, append-nil}
use Rattle.std.specs.Option.{option_map}
use Rattle.ow_traits.specs.Telling.{Telling}
use Rattle.ow_day.specs.declared.run.DayReader.{DayReader}
use Rattle.ow_command_line.specs.declared.status.Status.{Status}
use Rattle.ow_command_line.specs.declared.status.Status.TheVariants as statuses
use Rattle.ow_day.specs.Limits.{most_bytes}
use Rattle.ow_day.specs.Day.{Cut, first_statement}
use Rattle.ow_day.specs.Session.{machine_of}
use Rattle.ow_day.specs.Run.{HasEnded, IsTold, IsUnderWay, Opening}
use Rattle.ow_day.proofs.Runs.{past_tells, read_told}
use Rattle.ow_day.proofs.SoFar.{all_done, leaves, leaves_past, unfinished}

dropped : (left left' : Option (List ℕ)) (rest : List ℕ) → left ≡ Some rest → left' ≡ option_map (drop 1) left → left' ≡ Some (drop 1 rest)
dropped left left' rest told is = is ∙ ap (option_map (drop 1)) told

module _ {P : Type 0} (telling : P → Telling) where
  -- nothing more was read
  pub ends_with : {o : Opening} (bytes : List ℕ) (before left taken taken' : Option (List ℕ)) (r new : DayReader P) (status : Status) → r.input.taken ≤ most_bytes → (status ≡ statuses.ReadFault → ⊥)
      → IsUnderWay telling o bytes before left taken r → IsTold telling o bytes before taken' new status → HasEnded telling o bytes before left taken' new status
  ends_with bytes before left taken taken' r new status most other u told = record {
    told = told;
    leaves = leaves bytes u.rest u.done left r u.told most u.read;
    answered = λ e. absurd (other e);
  }

  -- a read gave nothing
  pub nothing_read : {o : Opening} (bytes : List ℕ) (before left left' taken taken' : Option (List ℕ)) (r new : DayReader P) (status : Status) → r.input.taken ≤ most_bytes → (status ≡ statuses.ReadFault → ⊥) → left' ≡ left
      → IsUnderWay telling o bytes before left taken r → IsTold telling o bytes before taken' new status → HasEnded telling o bytes before left' taken' new status
  nothing_read bytes before left left' taken taken' r new status most other same u told = rw same (ends_with bytes before left taken taken' r new status most other u told)

  -- the day could not be read on
  pub fault_ends : {o : Opening} (bytes : List ℕ) (before left left' taken : Option (List ℕ)) (r new : DayReader P) → new.session ≡ r.session → first_statement true r.input.pending ≡ Cut → r.ended ≡ false → r.answers.items ≡ []
      → r.input.taken ≤ most_bytes → left' ≡ left → IsUnderWay telling o bytes before left taken r → HasEnded telling o bytes before left' taken new statuses.ReadFault
  fault_ends bytes before left left' taken r new session cut unended none most same u =
      let h = u.read in
      let seen = h.front ++ h.last in
      record {
        told = read_told telling bytes before left taken r new session u;
        leaves = leaves bytes u.rest u.done left' r (same ∙ u.told) most h;
        answered = λ e. record {
          read = seen;
          rest = u.rest;
          whole = h.whole ∙ sym (append_assoc h.front h.last u.rest);
          leaves = same ∙ u.told;
          unfinished = unfinished seen u.done r.number r.input.pending cut (h.goes_on unended);
          failed = u.failed;
          last = machine_of r.session;
          wrote = record {
            lines = u.written;
            carried = rw (all_done seen u.done r.number r.input.pending cut (h.goes_on unended)) (rw (none, append-nil u.written) at u.carried);
            took = u.took;
          };
        };
      }

  -- more bytes follow than a day may have
  pub past_ends : {o : Opening} (bytes : List ℕ) (before left left' taken : Option (List ℕ)) (r new : DayReader P) → new.session ≡ r.session → first_statement true r.input.pending ≡ Cut → r.ended ≡ false → r.answers.items ≡ []
      → left' ≡ option_map (drop 1) left → r.input.taken ≡ most_bytes → IfSome left (λ b. 0 < length b) → IsUnderWay telling o bytes before left taken r
      → HasEnded telling o bytes before left' taken new statuses.DayTooLong
  past_ends bytes before left left' taken r new session cut unended none is most some u = record {
    told = past_tells telling bytes before left taken r new session cut unended none most some u;
    leaves = leaves_past bytes u.rest u.done left' r (dropped left left' u.rest u.told is) cut unended (omega (arith, most)) u.read;
    answered = λ e. cc;
  }
