-- What was read of a day: how its statements go on, and what it leaves.
use Rattle.std.proofs.Common.{◌≡◌, ◌<◌, ◌≤◌, ◌+◌, ◌-◌, ◌++◌, ℕ, zero, suc, true, false, List, [], ◌∷◌, Option, Some, None, IfSome, length, take, drop, refl, sym, ap, ◌∙◌, arith, append_assoc, append-nil, length-append, length-drop, length-take}
use Rattle.std.proofs.lemmas.List.{take-append-drop}
use Rattle.ow_day.specs.declared.run.DayReader.{DayReader}
use Rattle.ow_day.specs.Limits.{most_bytes, most_piece}
use Rattle.ow_day.specs.Statement.{Statement, End}
use Rattle.ow_day.specs.Day.{Day, TooLong, ended, with_statements, Found, Cut, first_statement, day_step, day_from}
use Rattle.ow_day.specs.Reads.{IsUnfinished, LeavesRest, day_so_far}
use Rattle.ow_day.specs.Run.{GoesOn, HasRead}
use Rattle.ow_day.proofs.Days.{at_no_bytes, by_first, extended, first_longer, statement_goes_on, with_both}

-- ---- how the statements go on

pub unfinished_nothing : IsUnfinished []
unfinished_nothing = ap (λ (d : Day). d.ending) (at_no_bytes 1 true 1 [] (omega arith) refl)

pub begins_on : (pending : List ℕ) (n : ℕ) → pending ≡ [] → n ≡ 1 → GoesOn [] [] n pending
begins_on pending n none first = λ later. rw (none, first) (length later + 1, omega arith, refl)

-- the first statement of what waits is done
pub done_on : (read : List ℕ) (done : List Statement) (n used : ℕ) (pending : List ℕ) (s : Statement) → 0 < length pending → first_statement true pending ≡ Found s (drop used pending) → 0 < used
    → (s ≡ End → ⊥) → GoesOn read done n pending → GoesOn read (done ++ s ∷ []) (n + 1) (drop used pending)
done_on read done n used pending s some is moves not_end on = λ later.
    let g = on later in
    let longer : 0 < length (pending ++ later) = simp length-append (omega arith) in
    let found : first_statement true pending ≡ Cut → ⊥ = λ cut. let e : Found s (drop used pending) ≡ Cut = sym is ∙ cut in cc in
    let first : first_statement true (pending ++ later) ≡ Found s (drop used pending ++ later) = first_longer true pending later found ∙ ap (extended later) is in
    let day = day_from (g.0 - 1) true (n + 1) (drop used pending ++ later) in
    let step : day_from g.0 true n (pending ++ later) ≡ with_statements (s ∷ []) day = by_first g.0 true n (pending ++ later) g.1 longer
    ∙ ap (λ x. day_step n x (λ rest. day_from (g.0 - 1) true (n + 1) rest)) first ∙ statement_goes_on s day not_end in (
      g.0 - 1,
      omega (arith, g.1, some, moves, length-append pending later, length-append (drop used pending) later, length-drop used pending),
      g.2 ∙ ap (with_statements done) step ∙ with_both done (s ∷ []) day,
    )

-- more was read
pub more_on : (read : List ℕ) (done : List Statement) (n : ℕ) (pending piece : List ℕ) → GoesOn read done n pending → GoesOn (read ++ piece) done n (pending ++ piece)
more_on read done n pending piece on = λ later. rw (append_assoc read piece later, append_assoc pending piece later) (on (piece ++ later))

cut_at : (count n : ℕ) (pending : List ℕ) → length pending < count → first_statement true pending ≡ Cut → (k : ℕ) → length pending ≡ k → day_from count true n pending ≡ ended TooLong
cut_at count n pending enough cut zero is = at_no_bytes count true n pending enough is
cut_at count n pending enough cut (suc k) is = by_first count true n pending enough (omega arith) ∙ rw cut refl

pub cut_day : (count n : ℕ) (pending : List ℕ) → length pending < count → first_statement true pending ≡ Cut → day_from count true n pending ≡ ended TooLong
cut_day count n pending enough cut = cut_at count n pending enough cut (length pending) refl

-- where what waits is cut, the statements that are done are all of what was read
so_far : (read : List ℕ) (done : List Statement) (n : ℕ) (pending : List ℕ) → first_statement true pending ≡ Cut → GoesOn read done n pending → day_so_far read ≡ with_statements done (ended TooLong)
so_far read done n pending cut on =
    let g = on [] in
    let enough : length pending < g.0 = omega (arith, g.1, length-append pending []) in
    let e : day_so_far read ≡ with_statements done (day_from g.0 true n pending) = rw (append-nil read, append-nil pending) at g.2 in
    e ∙ ap (with_statements done) (cut_day g.0 n pending enough cut)

pub unfinished : (read : List ℕ) (done : List Statement) (n : ℕ) (pending : List ℕ) → first_statement true pending ≡ Cut → GoesOn read done n pending → IsUnfinished read
unfinished read done n pending cut on = ap (λ (d : Day). d.ending) (so_far read done n pending cut on)

pub all_done : (read : List ℕ) (done : List Statement) (n : ℕ) (pending : List ℕ) → first_statement true pending ≡ Cut → GoesOn read done n pending → (day_so_far read).statements ≡ done
all_done read done n pending cut on = ap (λ (d : Day). d.statements) (so_far read done n pending cut on) ∙ append-nil done

-- ---- what was read

pub read_at_start : {P : Type 0} (bytes : List ℕ) (r : DayReader P) → r.input.pending ≡ [] → r.input.taken ≡ 0 → r.number ≡ 1 → HasRead bytes bytes [] r
read_at_start bytes r pending read number = record {
  front = [];
  last = [];
  whole = refl;
  unfinished = unfinished_nothing;
  piece = omega arith;
  taken = read;
  goes_on = λ e. begins_on r.input.pending r.number pending number;
}

-- a statement is carried out
pub read_done : {P : Type 0} (bytes rest : List ℕ) (done : List Statement) (old new : DayReader P) (s : Statement) (used : ℕ) → 0 < length old.input.pending
    → (old.ended ≡ false → first_statement true old.input.pending ≡ Found s (drop used old.input.pending)) → 0 < used → (s ≡ End → ⊥)
    → new.input.pending ≡ drop used old.input.pending → new.input.taken ≡ old.input.taken → new.number ≡ old.number + 1 → new.ended ≡ old.ended
    → HasRead bytes rest done old → HasRead bytes rest (done ++ s ∷ []) new
read_done bytes rest done old new s used some is moves not_end pending read number same h = record {
  front = h.front;
  last = h.last;
  whole = h.whole;
  unfinished = h.unfinished;
  piece = h.piece;
  taken = read ∙ h.taken;
  goes_on = λ e. let unended : old.ended ≡ false = sym same ∙ e in
      rw (pending, number) (done_on (h.front ++ h.last) done old.number used old.input.pending s some (is unended) moves not_end (h.goes_on unended));
}

-- a reader that has read the same
pub read_same : {P : Type 0} (bytes rest : List ℕ) (done : List Statement) (old new : DayReader P) → new.input ≡ old.input → new.number ≡ old.number → (new.ended ≡ false → old.ended ≡ false)
    → HasRead bytes rest done old → HasRead bytes rest done new
read_same bytes rest done old new input number unended h = record {
  front = h.front;
  last = h.last;
  whole = h.whole;
  unfinished = h.unfinished;
  piece = h.piece;
  taken = rw input h.taken;
  goes_on = λ e. rw (input, number) (h.goes_on (unended e));
}

-- the day isn't over in what was read, and one piece more was read
pub read_more : {P : Type 0} (bytes rest rest' piece : List ℕ) (done : List Statement) (old new : DayReader P) → first_statement true old.input.pending ≡ Cut → old.ended ≡ false → rest ≡ piece ++ rest'
    → length piece ≤ most_piece → new.input.pending ≡ old.input.pending ++ piece → new.input.taken ≡ old.input.taken + length piece → new.number ≡ old.number
    → HasRead bytes rest done old → HasRead bytes rest' done new
read_more bytes rest rest' piece done old new cut unended is short pending read number h =
    let seen = h.front ++ h.last in
    record {
      front = seen;
      last = piece;
      whole = h.whole ∙ ap (λ x. h.front ++ (h.last ++ x)) is ∙ sym (append_assoc h.front h.last (piece ++ rest'));
      unfinished = unfinished seen done old.number old.input.pending cut (h.goes_on unended);
      piece = short;
      taken = read ∙ ap (λ n. n + length piece) h.taken ∙ sym (length-append seen piece);
      goes_on = λ e. rw (pending, number) (more_on seen done old.number old.input.pending piece (h.goes_on unended));
    }

-- ---- what is left

pub leaves : {P : Type 0} (bytes rest : List ℕ) (done : List Statement) (left : Option (List ℕ)) (r : DayReader P) → left ≡ Some rest → r.input.taken ≤ most_bytes → HasRead bytes rest done r → LeavesRest bytes left
leaves bytes rest done left r told most h = (
  rest,
  told,
  record {
    front = h.front;
    last = h.last;
    whole = h.whole;
    unfinished = h.unfinished;
    piece = h.piece;
    most = omega (arith, most, h.taken, length-append h.front h.last);
  },
)

-- one byte more was taken than a day may have
pub leaves_past : {P : Type 0} (bytes rest : List ℕ) (done : List Statement) (left : Option (List ℕ)) (r : DayReader P) → left ≡ Some (drop 1 rest) → first_statement true r.input.pending ≡ Cut → r.ended ≡ false
    → r.input.taken ≤ most_bytes → HasRead bytes rest done r → LeavesRest bytes left
leaves_past bytes rest done left r told cut unended most h =
    let seen = h.front ++ h.last in
    let short : length (take 1 rest) ≤ 1 = omega (arith, length-take 1 rest) in (
      drop 1 rest,
      told,
      record {
        front = seen;
        last = take 1 rest;
        whole = h.whole ∙ sym (append_assoc h.front h.last rest) ∙ ap (λ x. seen ++ x) (sym (take-append-drop 1 rest));
        unfinished = unfinished seen done r.number r.input.pending cut (h.goes_on unended);
        piece = omega (arith, short);
        most = omega (arith, short, most, h.taken);
      },
    )

-- nothing was read
pub leaves_all : (bytes : List ℕ) (left : Option (List ℕ)) → left ≡ Some bytes → LeavesRest bytes left
leaves_all bytes left told = (
  bytes,
  told,
  record {
    front = [];
    last = [];
    whole = refl;
    unfinished = unfinished_nothing;
    piece = omega arith;
    most = omega arith;
  },
)

pub leaves_unread : (left : Option (List ℕ)) → IfSome left (λ bytes. LeavesRest bytes left)
leaves_unread None = tt
leaves_unread (Some bytes) = leaves_all bytes (Some bytes) refl
