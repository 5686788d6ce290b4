-- A day under way: how each step of the code takes it on, and what it ends in.
use Rattle.std.proofs.Common.{◌≡◌, ◌<◌, ◌≤◌, ◌+◌, ◌-◌, ◌++◌, ℕ, Bool, true, false, not, List, [], ◌∷◌, Option, Some, None, Result, Ok, Err, OnOk, OnErr, IfNone, IfSome, length, take, drop, refl, sym, ap, subst, ◌∙◌, arith, append_assoc, append-nil, length-append, length-drop, inl, inr, if◌then◌else◌}
use Rattle.std.specs.Result.{is_err}
use Rattle.std.proofs.lemmas.Bool.{false≢true, le-ltb, lt-ltb}
use Rattle.std.proofs.Math.Seq.{take-append-add, take-nil, take-append_seam, take-length}
use Rattle.ow_traits.specs.Telling.{Telling}
use Rattle.ow_traits.specs.Streams.{Takes, TakesFront}
use Rattle.ow_traits.proofs.Taking.{Takes-none, Takes-then, TakesFront-then, took_nothing}
use Rattle.ow_day.specs.declared.run.DayReader.{DayReader}
use Rattle.ow_day.specs.declared.session.StepOutcome.{StepOutcome}
use Rattle.ow_day.specs.declared.session.StepOutcome.TheVariants as steps
use Rattle.ow_command_line.specs.declared.status.Status.{Status}
use Rattle.ow_command_line.specs.declared.status.Status.TheVariants as statuses
use Rattle.ow_day.specs.declared.input.Filled.TheVariants.{More}
use Rattle.ow_day.specs.Limits.{most_bytes}
use Rattle.ow_day.specs.Input.{Fills, Gives}
use Rattle.ow_day.specs.Statement.{Statement, End}
use Rattle.ow_day.specs.Session.{machine_of, Performs, CarriesOut as Carries}
use Rattle.ow_day.specs.Texts.{lines_of}
use Rattle.ow_day.specs.Day.{Day, DayEnd, Finished, Bad, TooLong, ended, with_statements, First, Found, Wrong, Cut, first_statement, day_step, day_from, day_of, has_more, window}
use Rattle.ow_day.specs.Carried.{Wrote, WroteFront}
use Rattle.ow_day.specs.Run.{Closes, ClosesSo, EndsSo, IsAtEnd, IsBounded, IsOfDay, IsTold, IsUnderWay, Opening, StepsOn, Turns, WritesOn, begin, in_window}
use Rattle.ow_day.proofs.Carrying.{carried_more}
use Rattle.ow_day.proofs.Rising.{rose_later, rose_none, rose_then}
use Rattle.ow_day.proofs.SoFar.{cut_day, read_at_start, read_done, read_more, read_same}
use Rattle.ow_day.proofs.Days.{at_no_bytes, by_first, cut_nothing, extended, extended-nil, first_last, first_longer, statement_goes_on, with_both}

module _ {P : Type 0} (telling : P → Telling) where
  -- at the start nothing is read, carried out or written
  pub begins : {t : Opening} (bytes : List ℕ) (left taken : Option (List ℕ)) (r : DayReader P) → left ≡ Some bytes → machine_of r.session ≡ begin t → t.met ≤ (telling r.session.hall.store).faults → r.input.pending ≡ [] → r.input.taken ≡ 0 → r.answers.items ≡ []
      → r.number ≡ 1 → r.ended ≡ false → IsUnderWay telling t bytes taken left taken r
  unfolding in_window window
  begins {t = t} bytes left taken r told at later pending read answers number unended = record {
    rest = bytes;
    done = [];
    count = length (window bytes) + 1;
    written = [];
    failed = 0;
    told = told;
    read = read_at_start bytes r pending read number;
    all = omega arith;
    none = λ e. absurd (false≢true (sym unended ∙ e));
    enough = rw (pending, read) (omega arith);
    took = Takes-none taken;
    carried = (answers, refl, at);
    rose = rose_none t.met (telling r.session.hall.store).faults later;
    whole = rw (pending, read, number) refl;
  }

  -- the day ends here with this ending
  ends_so : {t : Opening} (bytes : List ℕ) (before left taken : Option (List ℕ)) (r new : DayReader P) (u : IsUnderWay telling t bytes before left taken r) (ending : DayEnd)
      → new.answers.items ≡ r.answers.items → new.session ≡ r.session
      → day_from u.count (has_more bytes) r.number (r.input.pending ++ in_window r.input.taken u.rest) ≡ ended ending → IsAtEnd telling t bytes before taken new ending
  ends_so bytes before left taken r new u ending answers session is =
      let e : day_of bytes ≡ with_statements u.done (ended ending) = u.whole ∙ ap (with_statements u.done) is in
      let all : (day_of bytes).statements ≡ u.done = ap (λ (d : Day). d.statements) e ∙ append-nil u.done in
      record {
        written = u.written;
        failed = u.failed;
        took = u.took;
        carried = rw (all, answers, session) u.carried;
        rose = rw session u.rose;
        ends = ap (λ (d : Day). d.ending) e;
      }

  in_window-nil : (read : ℕ) → in_window read [] ≡ []
  unfolding in_window
  in_window-nil read = take-nil (most_bytes - read)

  in_window-most : (read : ℕ) (rest : List ℕ) → read ≡ most_bytes → in_window read rest ≡ []
  unfolding in_window
  in_window-most read rest is = rw is refl

  has_more-false : (bytes : List ℕ) → length bytes ≤ most_bytes → has_more bytes ≡ false
  unfolding has_more
  has_more-false bytes le = le-ltb most_bytes (length bytes) le

  has_more-true : (bytes : List ℕ) → most_bytes < length bytes → has_more bytes ≡ true
  unfolding has_more
  has_more-true bytes lt = lt-ltb most_bytes (length bytes) lt

  -- where the end was read, all that was read has its place in the window
  at_end : {t : Opening} (bytes : List ℕ) (before left taken : Option (List ℕ)) (r : DayReader P) (u : IsUnderWay telling t bytes before left taken r) → r.input.taken ≤ most_bytes → r.ended ≡ true
      → (in_window r.input.taken u.rest ≡ []) × (has_more bytes ≡ false)
  at_end bytes before left taken r u most end =
      let none : u.rest ≡ [] = u.none end in
      (rw none (in_window-nil r.input.taken), has_more-false bytes (omega (arith, u.all, ap length none, most)))

  -- the day goes by the first statement of the bytes that wait
  first_at : {t : Opening} (bytes : List ℕ) (before left taken : Option (List ℕ)) (r : DayReader P) (u : IsUnderWay telling t bytes before left taken r) (b : Bool) → r.input.taken ≤ most_bytes → r.ended ≡ b
      → (first_statement (not b) r.input.pending ≡ Cut → ⊥)
      → first_statement (has_more bytes) (r.input.pending ++ in_window r.input.taken u.rest) ≡ extended (in_window r.input.taken u.rest) (first_statement (not b) r.input.pending)
  first_at bytes before left taken r u false most is found = first_longer (has_more bytes) r.input.pending (in_window r.input.taken u.rest) found
  first_at bytes before left taken r u true most is found =
      let e = at_end bytes before left taken r u most is in
      rw (e.0, e.1, append-nil r.input.pending) (sym (extended-nil (first_statement false r.input.pending)))

  goes_by : {t : Opening} (bytes : List ℕ) (before left taken : Option (List ℕ)) (r : DayReader P) (u : IsUnderWay telling t bytes before left taken r) (f : First) → r.input.taken ≤ most_bytes → 0 < length r.input.pending
      → f ≡ first_statement (not r.ended) r.input.pending → (f ≡ Cut → ⊥)
      → day_from u.count (has_more bytes) r.number (r.input.pending ++ in_window r.input.taken u.rest)
      ≡ day_step r.number (extended (in_window r.input.taken u.rest) f) (λ rest. day_from (u.count - 1) (has_more bytes) (r.number + 1) rest)
  goes_by bytes before left taken r u f most some is found =
      let later = in_window r.input.taken u.rest in
      let longer : 0 < length (r.input.pending ++ later) = simp length-append (omega arith) in
      let first : first_statement (has_more bytes) (r.input.pending ++ later) ≡ extended later f =
      first_at bytes before left taken r u r.ended most refl (λ cut. found (is ∙ cut)) ∙ ap (extended later) (sym is) in
      by_first u.count (has_more bytes) r.number (r.input.pending ++ later) u.enough longer
      ∙ ap (λ x. day_step r.number x (λ rest. day_from (u.count - 1) (has_more bytes) (r.number + 1) rest)) first

  found_more : (bytes : List ℕ) (s : Statement) (rest : List ℕ) (b : Bool) → b ≡ false → Found s rest ≡ first_statement (not b) bytes → first_statement true bytes ≡ Found s rest
  found_more bytes s rest b unended is = sym (rw unended at is)

  -- a statement is carried out
  pub statement_done : {t : Opening} (bytes : List ℕ) (before left taken : Option (List ℕ)) (old new : DayReader P) (s : Statement) (used : ℕ) → old.input.taken ≤ most_bytes → 0 < length old.input.pending
      → Found s (drop used old.input.pending) ≡ first_statement (not old.ended) old.input.pending → used ≤ length old.input.pending → 0 < used
      → (s ≡ End → ⊥) → Performs telling old.session new.session s old.answers.items new.answers.items
      → new.input.pending ≡ drop used old.input.pending → new.input.taken ≡ old.input.taken → new.number ≡ old.number + 1 → new.ended ≡ old.ended
      → IsUnderWay telling t bytes before left taken old → IsUnderWay telling t bytes before left taken new
  statement_done {t = t} bytes before left taken old new s used most some is within moves not_end (outcome, ((here, (does, rose)), lines)) pending read number unended u =
      let later = in_window old.input.taken u.rest in
      let rest = drop used old.input.pending ++ later in
      let found : Found s (drop used old.input.pending) ≡ Cut → ⊥ = λ e. cc in
      let e : day_from u.count (has_more bytes) old.number (old.input.pending ++ later) ≡ with_statements (s ∷ []) (day_from (u.count - 1) (has_more bytes) (old.number + 1) rest) =
      goes_by bytes before left taken old u (Found s (drop used old.input.pending)) most some is found
      ∙ statement_goes_on s (day_from (u.count - 1) (has_more bytes) (old.number + 1) rest) not_end in
      record {
        rest = u.rest;
        done = u.done ++ s ∷ [];
        count = u.count - 1;
        written = u.written;
        failed = u.failed + here;
        told = u.told;
        read = read_done bytes u.rest u.done old new s used some (λ e. found_more old.input.pending s (drop used old.input.pending) old.ended e is) moves not_end pending read number unended u.read;
        all = rw read u.all;
        none = λ end. u.none (sym unended ∙ end);
        enough = rw (pending, read) (omega (arith, u.enough, length-append old.input.pending later, length-append (drop used old.input.pending) later, length-drop used old.input.pending));
        took = u.took;
        carried = rw (lines, ← append_assoc u.written old.answers.items (lines_of outcome))
            (carried_more (begin t) (machine_of old.session) (machine_of new.session) u.done s outcome (u.written ++ old.answers.items) u.failed here u.carried does);
        rose = rose_then u.failed here t.met (telling old.session.hall.store).faults (telling new.session.hall.store).faults u.rose rose;
        whole = rw (pending, read, number) (u.whole ∙ ap (with_statements u.done) e ∙ with_both u.done (s ∷ []) (day_from (u.count - 1) (has_more bytes) (old.number + 1) rest));
      }

  -- what is no statement ends the day, and `end`
  pub wrong_ends : (old new : DayReader P) → old.input.taken ≤ most_bytes → 0 < length old.input.pending → Wrong ≡ first_statement (not old.ended) old.input.pending
      → new.answers.items ≡ old.answers.items → new.session ≡ old.session → new.number ≡ old.number → EndsSo telling old new (Bad new.number)
  wrong_ends old new most some is answers session number = λ t bytes before left taken u.
      let P : ℕ → Type 0 = λ n. IsAtEnd telling t bytes before taken new (Bad n) in
      subst P (sym number) (ends_so bytes before left taken old new u (Bad old.number) answers session (goes_by bytes before left taken old u Wrong most some is (λ e. cc)))

  pub end_ends : (old new : DayReader P) (rest : List ℕ) → old.input.taken ≤ most_bytes → 0 < length old.input.pending → Found End rest ≡ first_statement (not old.ended) old.input.pending
      → new.answers.items ≡ old.answers.items → new.session ≡ old.session → EndsSo telling old new Finished
  end_ends old new rest most some is answers session = λ t bytes before left taken u.
      ends_so bytes before left taken old new u Finished answers session (goes_by bytes before left taken old u (Found End rest) most some is (λ e. cc))

  -- nothing waits, and the end was read
  pub nothing_ends : (old : DayReader P) → old.input.taken ≤ most_bytes → length old.input.pending ≡ 0 → old.ended ≡ true → EndsSo telling old old Finished
  nothing_ends old most none end = λ t bytes before left taken u.
      let e = at_end bytes before left taken old u most end in
      let all : old.input.pending ++ in_window old.input.taken u.rest ≡ old.input.pending = rw e.0 (append-nil old.input.pending) in
      let enough : length old.input.pending < u.count = rw (← all) u.enough in
      ends_so bytes before left taken old old u Finished refl refl (rw (all, e.1) (at_no_bytes u.count false old.number old.input.pending enough none))

  -- ---- a step

  idle_at : (old : DayReader P) (step : StepOutcome) → IsBounded old → length old.input.pending ≡ 0 → (b : Bool) → old.ended ≡ b → step ≡ (if b then steps.End else steps.Cut) → StepsOn telling old old step
  idle_at old step bounded none true end is = subst (StepsOn telling old old) (sym is) (nothing_ends old bounded.most none end)
  idle_at old step bounded none false unended is = subst (StepsOn telling old old) (sym is) (refl, unended, cut_nothing old.input.pending none)

  -- nothing waits: the day ends, or more is to be read
  pub idle_steps : (old : DayReader P) (step : StepOutcome) → IsBounded old → length old.input.pending ≡ 0 → step ≡ (if old.ended then steps.End else steps.Cut) → StepsOn telling old old step
  idle_steps old step bounded none is = idle_at old step bounded none old.ended refl is

  -- the first statement was found
  pub found_steps : (old new : DayReader P) (s : Statement) (used : ℕ) (step : StepOutcome) → IsBounded old → 0 < length old.input.pending
      → Found s (drop used old.input.pending) ≡ first_statement (not old.ended) old.input.pending → used ≤ length old.input.pending → 0 < used
      → Carries telling old.session new.session s old.answers.items new.answers.items step
      → (step ≡ steps.Done → (new.input.pending ≡ drop used old.input.pending) × (new.number ≡ old.number + 1)) → new.input.taken ≡ old.input.taken → new.ended ≡ old.ended → StepsOn telling old new step
  found_steps old new s used steps.Done bounded some is within moves (not_end, performs) goes read unended =
      let g = goes refl in
      λ t bytes before left taken u. statement_done bytes before left taken old new s used bounded.most some is within moves not_end performs g.0 read g.1 unended u
  found_steps old new s used steps.End bounded some is within moves (end, lines, session) goes read unended =
      end_ends old new (drop used old.input.pending) bounded.most some (rw end at is) lines session
  found_steps old new s used steps.Bad bounded some is within moves never goes read unended = absurd never
  found_steps old new s used steps.Cut bounded some is within moves never goes read unended = absurd never
  found_steps old new s used steps.NoMemory bounded some is within moves later goes read unended = later

  cut_at : (old new : DayReader P) (b : Bool) → old.ended ≡ b → Cut ≡ first_statement (not b) old.input.pending → new ≡ old → StepsOn telling old new steps.Cut
  cut_at old new true end is same = absurd (first_last old.input.pending (sym is))
  cut_at old new false unended is same = (same, unended, sym is)

  -- more of it is to be read
  pub cut_steps : (old new : DayReader P) → Cut ≡ first_statement (not old.ended) old.input.pending → new ≡ old → StepsOn telling old new steps.Cut
  cut_steps old new is same = cut_at old new old.ended refl is same

  -- ---- what is written

  -- the first statements
  front_is : (done later : List Statement) → take (length done) (done ++ later) ≡ done
  front_is done later = take-append_seam done later

  -- what is written so far is a prefix of the day's lines
  pub front_with : {t : Opening} (bytes : List ℕ) (before left taken taken' : Option (List ℕ)) (old : DayReader P) → TakesFront taken taken' old.answers.items
      → (u : IsUnderWay telling t bytes before left taken old) → WroteFront t.tenants t.rows before taken' (day_of bytes).statements u.failed (machine_of old.session)
  front_with bytes before left taken taken' old front u =
      let later = (day_from u.count (has_more bytes) old.number (old.input.pending ++ in_window old.input.taken u.rest)).statements in
      let e : take (length u.done) (day_of bytes).statements ≡ u.done = ap (λ (d : Day). take (length u.done) d.statements) u.whole ∙ front_is u.done later in
      record {
        count = length u.done;
        lines = u.written ++ old.answers.items;
        carried = rw e u.carried;
        took = TakesFront-then before taken taken' u.written old.answers.items u.took front;
      }

  -- the answers are written
  pub written : {t : Opening} (bytes : List ℕ) (before left taken taken' : Option (List ℕ)) (old new : DayReader P) → Takes taken taken' old.answers.items → new.answers.items ≡ [] → new.input ≡ old.input → new.session ≡ old.session
      → new.number ≡ old.number → new.ended ≡ old.ended → IsUnderWay telling t bytes before left taken old → IsUnderWay telling t bytes before left taken' new
  written bytes before left taken taken' old new took none input session number unended u = record {
    rest = u.rest;
    done = u.done;
    count = u.count;
    written = u.written ++ old.answers.items;
    failed = u.failed;
    told = u.told;
    read = read_same bytes u.rest u.done old new input number (λ e. sym unended ∙ e) u.read;
    all = rw input u.all;
    none = λ end. u.none (sym unended ∙ end);
    enough = rw input u.enough;
    took = Takes-then before taken taken' u.written old.answers.items u.took took;
    carried = rw (none, session, append-nil (u.written ++ old.answers.items)) u.carried;
    rose = rw session u.rose;
    whole = rw (input, number) u.whole;
  }

  -- a statement is carried out, and then the answers are written or not
  pub done_turns : (left taken taken' : Option (List ℕ)) (old mid new : DayReader P) (result : Option Status) → StepsOn telling old mid steps.Done → WritesOn telling taken taken' mid new result
      → Turns telling left left taken taken' old new result
  done_turns left taken taken' old mid new None steps writes = λ t bytes before u. writes left t bytes before (steps t bytes before left taken u)
  done_turns left taken taken' old mid new (Some status) steps writes = λ t bytes before u. writes left t bytes before (steps t bytes before left taken u)

  -- more bytes were read
  window_after : (most read n : ℕ) (piece rest : List ℕ) → length piece ≡ n → read + n ≤ most → take (most - read) (piece ++ rest) ≡ piece ++ take (most - (read + n)) rest
  window_after most read n piece rest is le =
      let e : most - read ≡ length piece + (most - (read + n)) = omega arith in
      rw e (take-append-add piece rest (most - (read + n)))

  in_window-append : (read : ℕ) (piece rest : List ℕ) → read + length piece ≤ most_bytes → in_window read (piece ++ rest) ≡ piece ++ in_window (read + length piece) rest
  unfolding in_window
  in_window-append read piece rest le = window_after most_bytes read (length piece) piece rest refl le

  given_rest : (left left' : Option (List ℕ)) (piece rest : List ℕ) → left ≡ Some rest → Gives left left' piece → (rest' : List ℕ) × (left' ≡ Some rest') × (rest ≡ piece ++ rest')
  given_rest None left' piece rest told gives = cc
  given_rest (Some bytes) left' piece rest told gives =
      let e : rest ≡ bytes = cc in
      (gives.0, gives.1, e ∙ gives.2)

  pub filled : {t : Opening} (bytes : List ℕ) (before left left' taken : Option (List ℕ)) (old new : DayReader P) → Fills left left' old.input new.input (Ok More) → new.session ≡ old.session → new.answers.items ≡ old.answers.items
      → new.number ≡ old.number → new.ended ≡ old.ended → old.ended ≡ false → first_statement true old.input.pending ≡ Cut → IsUnderWay telling t bytes before left taken old → IsUnderWay telling t bytes before left' taken new
  filled bytes before left left' taken old new (piece, some, short, pending, read, most, gives) session answers number same unended cut u =
      let g = given_rest left left' piece u.rest u.told gives in
      let le : old.input.taken + length piece ≤ most_bytes = omega arith in
      let later : in_window old.input.taken u.rest ≡ piece ++ in_window (old.input.taken + length piece) g.0 = ap (in_window old.input.taken) g.2 ∙ in_window-append old.input.taken piece g.0 le in
      let joined : old.input.pending ++ in_window old.input.taken u.rest ≡ new.input.pending ++ in_window new.input.taken g.0 =
      rw (later, pending, read) (sym (append_assoc old.input.pending piece (in_window (old.input.taken + length piece) g.0))) in
      record {
        rest = g.0;
        done = u.done;
        count = u.count;
        written = u.written;
        failed = u.failed;
        told = g.1;
        read = read_more bytes u.rest g.0 piece u.done old new cut unended g.2 short pending read number u.read;
        all = rw read (omega (arith, u.all, ap length g.2, length-append piece g.0));
        none = λ end. absurd (false≢true (sym (same ∙ unended) ∙ end));
        enough = rw (← joined) u.enough;
        took = u.took;
        carried = rw (answers, session) u.carried;
        rose = rw session u.rose;
        whole = rw (number, ← joined) u.whole;
      }

  nothing_left : (left : Option (List ℕ)) (rest : List ℕ) → left ≡ Some rest → IfSome left (λ bytes. bytes ≡ []) → rest ≡ []
  nothing_left None rest told none = cc
  nothing_left (Some bytes) rest told none = let e : bytes ≡ rest = cc in sym e ∙ none

  -- the end was read, which changes nothing else
  pub end_read : {t : Opening} (bytes : List ℕ) (before left left' taken : Option (List ℕ)) (old new : DayReader P) → left' ≡ left → IfSome left (λ b. b ≡ []) → old.ended ≡ false → new.ended ≡ true → new.input ≡ old.input → new.session ≡ old.session
      → new.answers.items ≡ old.answers.items → new.number ≡ old.number → IsUnderWay telling t bytes before left taken old → IsUnderWay telling t bytes before left' taken new
  end_read bytes before left left' taken old new same none unended end input session answers number u = record {
    rest = u.rest;
    done = u.done;
    count = u.count;
    written = u.written;
    failed = u.failed;
    told = same ∙ u.told;
    read = read_same bytes u.rest u.done old new input number (λ e. absurd (false≢true (sym e ∙ end))) u.read;
    all = rw input u.all;
    none = λ e. nothing_left left u.rest u.told none;
    enough = rw input u.enough;
    took = u.took;
    carried = rw (answers, session) u.carried;
    rose = rw session u.rose;
    whole = rw (input, number) u.whole;
  }

  -- ---- the status

  wrote : {t : Opening} (bytes : List ℕ) (before taken taken' : Option (List ℕ)) (r : DayReader P) (ending : DayEnd) → Takes taken taken' r.answers.items → (e : IsAtEnd telling t bytes before taken r ending)
      → ((day_of bytes).ending ≡ ending) × Wrote t.tenants t.rows before taken' (day_of bytes).statements e.failed (machine_of r.session)
  wrote bytes before taken taken' r ending took e = (
    e.ends,
    record {
      lines = e.written ++ r.answers.items;
      carried = e.carried;
      took = Takes-then before taken taken' e.written r.answers.items e.took took;
    },
  )

  wrote_front : {t : Opening} (bytes : List ℕ) (before taken taken' : Option (List ℕ)) (r : DayReader P) (ending : DayEnd) → TakesFront taken taken' r.answers.items → (e : IsAtEnd telling t bytes before taken r ending)
      → WroteFront t.tenants t.rows before taken' (day_of bytes).statements e.failed (machine_of r.session)
  wrote_front bytes before taken taken' r ending front e = record {
    count = length (day_of bytes).statements;
    lines = e.written ++ r.answers.items;
    carried = rw (take-length (day_of bytes).statements) e.carried;
    took = TakesFront-then before taken taken' e.written r.answers.items e.took front;
  }

  tells_bad : {t : Opening} (bytes : List ℕ) (before taken taken' : Option (List ℕ)) (r : DayReader P) (n : ℕ) (result : Status) → ClosesSo taken taken' r.answers.items (statuses.BadDay n) result → (e : IsAtEnd telling t bytes before taken r (Bad n))
      → IsTold telling t bytes before taken' r result
  tells_bad {t = t} bytes before taken taken' r n result (inl (is, took)) e =
      let P : Status → Type 0 = λ s. IsTold telling t bytes before taken' r s in
      subst P (sym is) (record { failed = e.failed; tells = wrote bytes before taken taken' r (Bad n) took e; rose = e.rose })
  tells_bad {t = t} bytes before taken taken' r n result (inr (is, front)) e =
      let P : Status → Type 0 = λ s. IsTold telling t bytes before taken' r s in
      subst P (sym is) (record { failed = e.failed; tells = wrote_front bytes before taken taken' r (Bad n) front e; rose = e.rose })

  tells_ok : {t : Opening} (bytes : List ℕ) (before taken taken' : Option (List ℕ)) (r : DayReader P) (result : Status) → ClosesSo taken taken' r.answers.items statuses.Ok result → (e : IsAtEnd telling t bytes before taken r Finished)
      → IsTold telling t bytes before taken' r result
  tells_ok {t = t} bytes before taken taken' r result (inl (is, took)) e =
      let P : Status → Type 0 = λ s. IsTold telling t bytes before taken' r s in
      subst P (sym is) (record { failed = e.failed; tells = wrote bytes before taken taken' r Finished took e; rose = e.rose })
  tells_ok {t = t} bytes before taken taken' r result (inr (is, front)) e =
      let P : Status → Type 0 = λ s. IsTold telling t bytes before taken' r s in
      subst P (sym is) (record { failed = e.failed; tells = wrote_front bytes before taken taken' r Finished front e; rose = e.rose })

  -- the same where nothing more is written
  pub front_of : {t : Opening} (bytes : List ℕ) (before left taken : Option (List ℕ)) (old : DayReader P) (u : IsUnderWay telling t bytes before left taken old)
      → WroteFront t.tenants t.rows before taken (day_of bytes).statements u.failed (machine_of old.session)
  front_of bytes before left taken old u = front_with bytes before left taken taken old (took_nothing taken old.answers.items) u

  -- a fault cut what was written
  pub write_told : {t : Opening} (bytes : List ℕ) (before left taken taken' : Option (List ℕ)) (old new : DayReader P) → new.session ≡ old.session → TakesFront taken taken' old.answers.items → IsUnderWay telling t bytes before left taken old
      → IsTold telling t bytes before taken' new statuses.WriteFault
  write_told bytes before left taken taken' old new session front u = record {
    failed = u.failed;
    tells = rw session (front_with bytes before left taken taken' old front u);
    rose = rw session u.rose;
  }

  -- there was no memory
  pub want_told : {t : Opening} (bytes : List ℕ) (before left taken taken' : Option (List ℕ)) (old new : DayReader P) → (telling old.session.hall.store).faults ≤ (telling new.session.hall.store).faults → TakesFront taken taken' old.answers.items
      → IsUnderWay telling t bytes before left taken old → IsTold telling t bytes before taken' new statuses.NoMemory
  want_told {t = t} bytes before left taken taken' old new later front u = record {
    failed = u.failed;
    tells = (machine_of old.session, front_with bytes before left taken taken' old front u);
    rose = rose_later u.failed t.met (telling old.session.hall.store).faults (telling new.session.hall.store).faults u.rose later;
  }

  -- the day could not be read on
  pub read_told : {t : Opening} (bytes : List ℕ) (before left taken : Option (List ℕ)) (old new : DayReader P) → new.session ≡ old.session → IsUnderWay telling t bytes before left taken old
      → IsTold telling t bytes before taken new statuses.ReadFault
  read_told bytes before left taken old new session u = record {
    failed = u.failed;
    tells = rw session (front_of bytes before left taken old u);
    rose = rw session u.rose;
  }

  tells_none : {t : Opening} (bytes : List ℕ) (before left taken taken' : Option (List ℕ)) (old new : DayReader P) (result : Status) → (telling old.session.hall.store).faults ≤ (telling new.session.hall.store).faults → (result ≡ statuses.NoMemory) × (taken' ≡ taken)
      → IsUnderWay telling t bytes before left taken old → IsTold telling t bytes before taken' new result
  tells_none {t = t} bytes before left taken taken' old new result later (is, same) u =
      let P : Status → Type 0 = λ s. IsTold telling t bytes before taken' new s in
      subst P (sym is) (rw same (want_told bytes before left taken taken old new later (took_nothing taken old.answers.items) u))

  -- a step that ends the day
  pub step_tells : (old new : DayReader P) (left taken taken' : Option (List ℕ)) (step : StepOutcome) (result : Status) → (step ≡ steps.Done → ⊥) → (step ≡ steps.Cut → ⊥) → StepsOn telling old new step
      → Closes taken taken' new step result → (t : Opening) (bytes : List ℕ) (before : Option (List ℕ)) → IsUnderWay telling t bytes before left taken old → IsTold telling t bytes before taken' new result
  step_tells old new left taken taken' steps.Done result not_done not_cut on closes = absurd (not_done refl)
  step_tells old new left taken taken' steps.Cut result not_done not_cut on closes = absurd (not_cut refl)
  step_tells old new left taken taken' steps.End result not_done not_cut on closes = λ t bytes before u. tells_ok bytes before taken taken' new result closes (on t bytes before left taken u)
  step_tells old new left taken taken' steps.Bad result not_done not_cut on closes = λ t bytes before u. tells_bad bytes before taken taken' new new.number result closes (on t bytes before left taken u)
  step_tells old new left taken taken' steps.NoMemory result not_done not_cut on closes = λ t bytes before u. tells_none bytes before left taken taken' old new result on.count closes u

  some_left : (left : Option (List ℕ)) (rest : List ℕ) → left ≡ Some rest → IfSome left (λ bytes. 0 < length bytes) → 0 < length rest
  some_left None rest told some = cc
  some_left (Some bytes) rest told some = let e : bytes ≡ rest = cc in rw (← e) some

  -- where more bytes follow than a day may have
  pub past_tells : {t : Opening} (bytes : List ℕ) (before left taken : Option (List ℕ)) (r new : DayReader P) → new.session ≡ r.session → first_statement true r.input.pending ≡ Cut → r.ended ≡ false → r.answers.items ≡ []
      → r.input.taken ≡ most_bytes → IfSome left (λ b. 0 < length b) → IsUnderWay telling t bytes before left taken r → IsTold telling t bytes before taken new statuses.DayTooLong
  past_tells bytes before left taken r new session cut unended answers most some u =
      let more : has_more bytes ≡ true = has_more-true bytes (omega (arith, u.all, most, some_left left u.rest u.told some)) in
      let seen : r.input.pending ++ in_window r.input.taken u.rest ≡ r.input.pending = rw (in_window-most r.input.taken u.rest most) (append-nil r.input.pending) in
      let enough : length r.input.pending < u.count = rw (← seen) u.enough in
      let e = ends_so bytes before left taken r r u TooLong refl refl (rw (seen, more) (cut_day u.count r.number r.input.pending enough cut)) in
      let none : Takes taken taken r.answers.items = rw answers (Takes-none taken) in
      record { failed = e.failed; tells = rw session (wrote bytes before taken taken r TooLong none e); rose = rw session e.rose }

pub if_some : {X : Type 0} (o : Option X) (P : X → Type 0) → ((x : X) → o ≡ Some x → P x) → IfSome o P
if_some None P holds = tt
if_some (Some x) P holds = holds x refl

-- ---- the outcome of writing alone

pub if_none : {X P : Type 0} (o : Option X) → P → IfNone o P
if_none None p = p
if_none (Some x) p = tt

abbrev OnlyFaults : Option Status → Type 0
OnlyFaults o = IfSome o (λ status. status ≡ statuses.WriteFault)

pub of_day : (o : Option Status) → OnlyFaults o → IfSome o IsOfDay
of_day None fault = tt
of_day (Some status) fault = subst IsOfDay (sym fault) tt

pub unread : (o : Option Status) → OnlyFaults o → o ≡ Some statuses.ReadFault → ⊥
unread None fault e = cc
unread (Some status) fault e = let never : statuses.WriteFault ≡ statuses.ReadFault = cc in cc

pub was_written : {P : Type 0} (o : Option Status) → IfSome o (λ status. P) → o ≡ Some statuses.WriteFault → P
was_written None rose e = cc
was_written (Some status) rose e = rose

pub at_err : {T E P : Type 0} (r : Result T E) (b : Bool) → b ≡ is_err r → b ≡ true → OnErr r P → P
at_err (Ok x) b is true_is holds = absurd (false≢true (sym is ∙ true_is))
at_err (Err x) b is true_is holds = holds

pub at_ok : {T E P : Type 0} (r : Result T E) (b : Bool) → b ≡ is_err r → b ≡ false → OnOk r P → P
at_ok (Ok x) b is false_is holds = holds
at_ok (Err x) b is false_is holds = absurd (false≢true (sym false_is ∙ is))

pub begins_bounded : {P : Type 0} (r : DayReader P) → r.input.pending ≡ [] → r.input.taken ≡ 0 → r.number ≡ 1 → IsBounded r
begins_bounded r pending read number = record {
  bytes = rw (pending, read, number) (omega arith);
  most = rw read (omega arith);
}
