-- A session that goes on, and what is counted of it.
use Rattle.std.proofs.Common.{◌≡◌, ◌+◌, ℕ, suc, Bool, true, false, Result, Ok, Err, IsErr, refl, sym, ap, subst, arith}
use Rattle.std.proofs.lemmas.Bool.{false≢true}
use Rattle.ow_traits.specs.Telling.{Telling}
use Rattle.ow_value.specs.declared.memory.NoMemory.{NoMemory as Want}
use Rattle.ow_day.specs.declared.statement_outcome.StatementOutcome.{StatementOutcome}
use Rattle.ow_day.specs.declared.session.Session.{Session}
use Rattle.ow_day.specs.Machine.{Does, Machine}
use Rattle.ow_day.specs.Session.{ComesTo, GoesTo, IsLater, machine_of}
use Rattle.ow_day.specs.Statement.{At, Drain, Statement, Turn}
use Rattle.ow_day.proofs.Behind.{behind_then}
use Rattle.ow_day.proofs.Meeting.{same_session}
use Rattle.ow_day.proofs.Rising.{rose_none, rose_then}
use Rattle.ow_day.proofs.Sessions.{goes_later}
use Rattle.ow_drill.specs.Counting.{Counts, GoesOn}
use Rattle.ow_drill.specs.Drill.{Calls, Drills, Follows, IsMade, both, call_of, gap, is_accepted, moment_of, next_number, none, number_of, one_accepted, one_refused, recorded_of}
use Rattle.ow_drill.specs.declared.tally.Tally.{Tally}

-- ---- numbers and moments

pub number_next : (seed k next : ℕ) → next ≡ suc k → number_of seed next ≡ next_number (number_of seed k)
unfolding number_of
number_next seed k next is = rw is refl

pub moment_next : (seed k next : ℕ) → next ≡ suc k → moment_of seed next ≡ moment_of seed k + gap (number_of seed next)
unfolding moment_of
moment_next seed k next is = rw is refl

module _ {P : Type 0} (telling : P → Telling) where
  -- the faults that the store of a session has met
  abbrev faults : Session P → ℕ
  faults s = (telling s.hall.store).faults

  -- ---- going on

  pub later_then : (old mid new : Session P) → IsLater telling old mid → IsLater telling mid new → IsLater telling old new
  later_then old mid new first second = record {
    behind = behind_then (machine_of old) (machine_of mid) (machine_of new) first.behind second.behind;
    count = let a = first.count in let b = second.count in omega (arith, a, b);
  }

  -- there was no memory
  pub counts_none : (old new : Session P) (Is : Tally → ℕ → Machine → Type 0) (r : Result Tally Want) → IsErr r → IsLater telling old new → Counts telling old new Is r
  counts_none old new Is (Ok tally) never later = absurd (false≢true never)
  counts_none old new Is (Err e) is later = later

  -- whatever the outcome of a statement
  pub comes_later : (old new : Session P) (s : Statement) (r : Result StatementOutcome Want) → ComesTo telling old new (Does (machine_of old) s) r → IsLater telling old new
  comes_later old new s (Ok outcome) goes = goes_later telling old new s outcome goes
  comes_later old new s (Err e) later = later

  -- whatever is counted
  pub counts_later : (old new : Session P) (Is : Tally → ℕ → Machine → Type 0) (r : Result Tally Want) → Counts telling old new Is r → IsLater telling old new
  counts_later old new Is (Ok tally) goes = goes.later
  counts_later old new Is (Err e) later = later

  -- ---- one call

  pub refused_so : (s : Session P) → GoesOn telling s s (Follows false (machine_of s)) one_refused
  refused_so s = record {
    failed = 0;
    is = (refl, refl, refl);
    rose = rose_none (faults s) (faults s) (omega arith);
    later = same_session telling s;
  }

  pub turned_so : (old new : Session P) (outcome : StatementOutcome) (recorded : ℕ) → GoesTo telling old new (Does (machine_of old) Turn) outcome → recorded ≡ recorded_of outcome
      → GoesOn telling old new (Follows true (machine_of old)) (one_accepted recorded)
  turned_so old new outcome recorded (failed, (does, rose)) is = record {
    failed = failed;
    is = (outcome, does, ap one_accepted is);
    rose = rose;
    later = goes_later telling old new Turn outcome (failed, (does, rose));
  }

  called_by : (k moment : ℕ) (old ready mid new : Session P) (silent outcome : StatementOutcome) (accepted : Bool) (r : Result Tally Want) → GoesTo telling old ready (Does (machine_of old) (At moment)) silent
      → GoesTo telling ready mid (Does (machine_of ready) (call_of k)) outcome → accepted ≡ is_accepted outcome → Counts telling mid new (Follows accepted (machine_of mid)) r
      → Counts telling old new (Calls k moment (machine_of old)) r
  called_by k moment old ready mid new silent outcome accepted (Ok tally) (quiet, ((none_failed, is_silent, same), set)) (here, (does, rose)) is follows = record {
    failed = (quiet + here) + follows.failed;
    is = record {
      ready = machine_of ready;
      at = (refl, refl, same);
      called = machine_of mid;
      outcome = outcome;
      here = here;
      call = does;
      later = follows.failed;
      follows = subst (λ b. Follows b (machine_of mid) tally follows.failed (machine_of new)) is follows.is;
      sum = omega (arith, none_failed);
    };
    rose = rose_then (quiet + here) follows.failed (faults old) (faults mid) (faults new) (rose_then quiet here (faults old) (faults ready) (faults mid) set rose) follows.rose;
    later = later_then old ready new (goes_later telling old ready (At moment) silent (quiet, ((none_failed, is_silent, same), set)))
        (later_then ready mid new (goes_later telling ready mid (call_of k) outcome (here, (does, rose))) follows.later);
  }
  called_by k moment old ready mid new silent outcome accepted (Err e) at call is later =
      later_then old ready new (goes_later telling old ready (At moment) silent at) (later_then ready mid new (goes_later telling ready mid (call_of k) outcome call) later)

  pub called_so : (k moment : ℕ) (old ready mid new : Session P) (s : Statement) (silent outcome : StatementOutcome) (accepted : Bool) (r : Result Tally Want) → s ≡ call_of k
      → GoesTo telling old ready (Does (machine_of old) (At moment)) silent → GoesTo telling ready mid (Does (machine_of ready) s) outcome → accepted ≡ is_accepted outcome
      → Counts telling mid new (Follows accepted (machine_of mid)) r → Counts telling old new (Calls k moment (machine_of old)) r
  called_so k moment old ready mid new s silent outcome accepted r it at call is follows =
      called_by k moment old ready mid new silent outcome accepted r at (subst (λ x. GoesTo telling ready mid (Does (machine_of ready) x) outcome) it call) is follows

  -- ---- all calls

  pub none_yet : (seed : ℕ) (s : Session P) → GoesOn telling s s (Drills seed 0 (machine_of s)) none
  none_yet seed s = record {
    failed = 0;
    is = (refl, refl, refl);
    rose = rose_none (faults s) (faults s) (omega arith);
    later = same_session telling s;
  }

  one_more : (seed k : ℕ) (first old new : Session P) (tally now : Tally) → GoesOn telling first old (Drills seed k (machine_of first)) tally
      → GoesOn telling old new (Calls (suc k) (moment_of seed (suc k)) (machine_of old)) now → GoesOn telling first new (Drills seed (suc k) (machine_of first)) (both tally now)
  one_more seed k first old new tally now so_far call = record {
    failed = so_far.failed + call.failed;
    is = (machine_of old, tally, now, so_far.failed, call.failed, so_far.is, call.is, refl, refl);
    rose = rose_then so_far.failed call.failed (faults first) (faults old) (faults new) so_far.rose call.rose;
    later = later_then first old new so_far.later call.later;
  }

  pub drilled_on : (seed k next moment : ℕ) (first old new : Session P) (tally now sum : Tally) → next ≡ suc k → moment ≡ moment_of seed next → sum ≡ both tally now
      → GoesOn telling first old (Drills seed k (machine_of first)) tally → GoesOn telling old new (Calls next moment (machine_of old)) now
      → GoesOn telling first new (Drills seed next (machine_of first)) sum
  drilled_on seed k next moment first old new tally now sum is at adds so_far call =
      let there = subst (λ x. GoesOn telling old new (Calls next x (machine_of old)) now) at call in
      let here = subst (λ m. GoesOn telling old new (Calls m (moment_of seed m) (machine_of old)) now) is there in
      let all = one_more seed k first old new tally now so_far here in
      subst (λ (t : Tally). GoesOn telling first new (Drills seed next (machine_of first)) t) (sym adds)
      (subst (λ m. GoesOn telling first new (Drills seed m (machine_of first)) (both tally now)) (sym is) all)

  -- ---- the drain

  pub made_so : (n seed : ℕ) (old mid new : Session P) (tally : Tally) (outcome : StatementOutcome) → GoesOn telling old mid (Drills seed n (machine_of old)) tally
      → GoesTo telling mid new (Does (machine_of mid) Drain) outcome → GoesOn telling old new (IsMade n seed (machine_of old)) tally
  made_so n seed old mid new tally outcome calls (here, (does, rose)) = record {
    failed = calls.failed + here;
    is = record { called = machine_of mid; earlier = calls.failed; drills = calls.is; outcome = outcome; here = here; drains = does; sum = refl };
    rose = rose_then calls.failed here (faults old) (faults mid) (faults new) calls.rose rose;
    later = later_then old mid new calls.later (goes_later telling mid new Drain outcome (here, (does, rose)));
  }
