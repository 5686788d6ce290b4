-- How a day goes on: by its first statement, to its end.
use Rattle.std.proofs.Common.{◌≡◌, ◌<◌, ◌+◌, ◌-◌, ◌++◌, ◌==◌, ℕ, zero, suc, Bool, true, false, nat_lt, List, [], ◌∷◌, Option, Some, None, if◌then◌else◌, length, take, drop, position, slice_index, refl, sym, ap, ◌∙◌, arith, append_assoc, append-nil, length-append, length-take}
use Rattle.std.specs.Option.{option_map}
use Rattle.std.proofs.lemmas.Bool.{le-ltb, lt-ltb, ltb-true}
use Rattle.std.proofs.lemmas.List.{take-append-le, drop-append-le}
use Rattle.std.proofs.lemmas.List.Quantifiers.{position-Some}
use Rattle.ow_day.specs.Limits.{most_line}
use Rattle.ow_runners.specs.Program.{is_newline}
use Rattle.ow_day.specs.Statement.{Statement, At, Call, Ask, Next, Begun, Answer, Logged, Exit, NoStart, Fault, Lost, Gone, Sweep, Turn, Collect, Drain, Reopen, End, Reading, Whole, Asks, Logs, line_of}
use Rattle.ow_day.specs.Day.{Day, Finished, TooLong, ended, with_statements, First, Found, Wrong, Cut, Lines, LinesAre, NoLines, CutLines, line_at, lines_in, logged, asked, behind_line, first_in, first_statement, going_on, day_step, day_from}
use Rattle.ow_day.proofs.Choices.{is_apart, over}
use Rattle.ow_day.proofs.Logging.{lines_extended, lines_last, lines_longer}
use Rattle.ow_day.proofs.Newlines.{position-append_none, position-append_some}

-- a day whose bytes are not at their end goes by its first statement
pub by_first : (count : ℕ) (more : Bool) (n : ℕ) (bytes : List ℕ) → length bytes < count → 0 < length bytes
    → day_from count more n bytes ≡ day_step n (first_statement more bytes) (λ rest. day_from (count - 1) more (n + 1) rest)
unfolding day_from
by_first zero more n bytes enough some = absurd (omega arith)
by_first (suc count) more n [] enough some = absurd (omega arith)
by_first (suc count) more n (c ∷ cs) enough some =
    let e : suc count - 1 ≡ count = omega arith in
    rw e refl

pub at_no_bytes : (count : ℕ) (more : Bool) (n : ℕ) (bytes : List ℕ) → length bytes < count → length bytes ≡ 0
    → day_from count more n bytes ≡ ended (if more then TooLong else Finished)
unfolding day_from
at_no_bytes zero more n bytes enough none = absurd (omega arith)
at_no_bytes (suc count) more n [] enough none = refl
at_no_bytes (suc count) more n (c ∷ cs) enough none = absurd (omega arith)

-- the rest of the day follows each statement but `end`
pub statement_goes_on : (s : Statement) (day : Day) → (s ≡ End → ⊥) → going_on s day ≡ with_statements (s ∷ []) day
statement_goes_on (At moment) day not_end = refl
statement_goes_on (Call name words) day not_end = refl
statement_goes_on (Ask request) day not_end = refl
statement_goes_on Next day not_end = refl
statement_goes_on (Begun run) day not_end = refl
statement_goes_on (Answer run words) day not_end = refl
statement_goes_on (Logged run words logs) day not_end = refl
statement_goes_on (Exit run code) day not_end = refl
statement_goes_on (NoStart run words) day not_end = refl
statement_goes_on (Fault run) day not_end = refl
statement_goes_on (Lost run) day not_end = refl
statement_goes_on (Gone slot generation) day not_end = refl
statement_goes_on Sweep day not_end = refl
statement_goes_on (Collect id) day not_end = refl
statement_goes_on Turn day not_end = refl
statement_goes_on Drain day not_end = refl
statement_goes_on Reopen day not_end = refl
statement_goes_on End day not_end = absurd (not_end refl)

pub with_both : (a b : List Statement) (day : Day) → with_statements a (with_statements b day) ≡ with_statements (a ++ b) day
with_both a b day = ap (λ t. record { statements = t; ending = day.ending }) (sym (append_assoc a b day.statements))

-- ---- the first statement of bytes, and what follows them

abbrev pub extended : List ℕ → First → First
extended later (Found s rest) = Found s (rest ++ later)
extended later Wrong = Wrong
extended later Cut = Cut

pub extended-nil : (f : First) → extended [] f ≡ f
extended-nil (Found s rest) = ap (Found s) (append-nil rest)
extended-nil Wrong = refl
extended-nil Cut = refl

picked : (b : Bool) (s : Statement) (rest later : List ℕ) → ◌≡◌ {A = First} (if b then Found s (rest ++ later) else Wrong) (extended later (if b then Found s rest else Wrong))
picked true s rest later = refl
picked false s rest later = refl

index_before : (bytes later : List ℕ) (n : ℕ) → n < length bytes → slice_index (bytes ++ later) n ≡ slice_index bytes n
index_before [] later n lt = absurd (omega arith)
index_before (c ∷ cs) later zero lt = refl
index_before (c ∷ cs) later (suc n) lt = index_before cs later n (omega arith)

asked_at : (more : Bool) (count : ℕ) (bytes later : List ℕ) (a b : Bool) → nat_lt (length bytes) count ≡ a → (length bytes == count) ≡ b
    → (asked true count bytes ≡ Cut → ⊥) → asked more count (bytes ++ later) ≡ extended later (asked true count bytes)
unfolding asked
asked_at more count bytes later true b lt eq found = absurd (found (rw lt refl))
asked_at more count bytes later false true lt eq found = absurd (found (rw (lt, eq) refl))
asked_at more count bytes later false false lt eq found =
    let within : count < length bytes = over (length bytes) count lt eq in
    let longer : count < length (bytes ++ later) = simp length-append (omega arith) in
    let lt' : nat_lt (length (bytes ++ later)) count ≡ false = le-ltb (length (bytes ++ later)) count (omega arith) in
    let eq' : (length (bytes ++ later) == count) ≡ false = is_apart (length (bytes ++ later)) count longer in
    rw (lt', eq', lt, eq, index_before bytes later count within, take-append-le count bytes later (omega arith), drop-append-le (count + 1) bytes later (omega arith))
    (picked (slice_index bytes count == 10) (Ask (take count bytes)) (drop (count + 1) bytes) later)

logged_longer : (run : ℕ) (text later : List ℕ) (lines : Lines) → logged run text (lines_extended later lines) ≡ extended later (logged run text lines)
logged_longer run text later (LinesAre lines rest) = refl
logged_longer run text later NoLines = refl
logged_longer run text later CutLines = refl

behind_longer : (more : Bool) (o : Option Reading) (rest later : List ℕ) → (behind_line true o rest ≡ Cut → ⊥) → behind_line more o (rest ++ later) ≡ extended later (behind_line true o rest)
behind_longer more None rest later found = refl
behind_longer more (Some (Whole s)) rest later found = refl
behind_longer more (Some (Asks count)) rest later found = asked_at more count rest later _ _ refl refl found
behind_longer more (Some (Logs run count text)) rest later found =
    ap (logged run text) (lines_longer more count rest later (λ cut. found (ap (logged run text) cut))) ∙ logged_longer run text later (lines_in true count rest)

-- a line that is too long is none
pub too_long : (line : List ℕ) → most_line < length line → line_of line ≡ None
unfolding line_of
too_long line lt = rw (lt-ltb most_line (length line) lt) refl

long_at : (more : Bool) (bytes later : List ℕ) (o : Option ℕ) → most_line < length bytes
    → first_in more (line_at more (bytes ++ later) (option_map (λ k. length bytes + k) o)) ≡ Wrong
long_at more bytes later None lt =
    let longer : most_line < length (bytes ++ later) = simp length-append (omega arith) in
    rw (lt-ltb most_line (length (bytes ++ later)) longer, too_long (bytes ++ later) longer) refl
long_at more bytes later (Some k) lt =
    let longer : most_line < length (take (length bytes + k) (bytes ++ later)) = omega (arith, length-take (length bytes + k) (bytes ++ later), length-append bytes later) in
    rw (too_long (take (length bytes + k) (bytes ++ later)) longer) refl

longer_at : (more : Bool) (bytes later : List ℕ) (o : Option ℕ) (b : Bool) → position is_newline bytes ≡ o → nat_lt most_line (length bytes) ≡ b
    → (first_in true (line_at true bytes o) ≡ Cut → ⊥) → first_statement more (bytes ++ later) ≡ extended later (first_in true (line_at true bytes o))
unfolding first_statement
longer_at more bytes later (Some k) b is long found =
    let within : k < length bytes = (position-Some is_newline bytes k 0 is).0 in
    let front : take k (bytes ++ later) ≡ take k bytes = take-append-le k bytes later (omega arith) in
    let back : drop (k + 1) (bytes ++ later) ≡ drop (k + 1) bytes ++ later = drop-append-le (k + 1) bytes later (omega arith) in
    rw (position-append_some is_newline bytes later k is, front, back) (behind_longer more (line_of (take k bytes)) (drop (k + 1) bytes) later found)
longer_at more bytes later None false is long found = absurd (found (rw long refl))
longer_at more bytes later None true is long found =
    let lt : most_line < length bytes = ltb-true most_line (length bytes) long in
    rw (position-append_none is_newline bytes later is, long_at more bytes later (position is_newline later) lt, long, too_long bytes lt) refl

-- what the first bytes hold stays the same, whatever follows
pub first_longer : (more : Bool) (bytes later : List ℕ) → (first_statement true bytes ≡ Cut → ⊥) → first_statement more (bytes ++ later) ≡ extended later (first_statement true bytes)
unfolding first_statement
first_longer more bytes later found = longer_at more bytes later _ _ refl refl found

-- ---- where no more bytes come, nothing is cut

at_last : (count : ℕ) (bytes : List ℕ) (a b c : Bool) → nat_lt (length bytes) count ≡ a → (length bytes == count) ≡ b → (slice_index bytes count == 10) ≡ c → asked false count bytes ≡ Cut → ⊥
unfolding asked
at_last count bytes true b c lt eq is cut = let e : Wrong ≡ Cut = rw lt at cut in cc
at_last count bytes false true c lt eq is cut = let e : Found (Ask bytes) [] ≡ Cut = rw (lt, eq) at cut in cc
at_last count bytes false false true lt eq is cut = let e : Found (Ask (take count bytes)) (drop (count + 1) bytes) ≡ Cut = rw (lt, eq, is) at cut in cc
at_last count bytes false false false lt eq is cut = let e : Wrong ≡ Cut = rw (lt, eq, is) at cut in cc

logged_last : (run : ℕ) (text : List ℕ) (lines : Lines) → (lines ≡ CutLines → ⊥) → logged run text lines ≡ Cut → ⊥
logged_last run text (LinesAre lines rest) uncut cut = cc
logged_last run text NoLines uncut cut = cc
logged_last run text CutLines uncut cut = uncut refl

behind_last : (o : Option Reading) (rest : List ℕ) → behind_line false o rest ≡ Cut → ⊥
behind_last None rest cut = cc
behind_last (Some (Whole s)) rest cut = cc
behind_last (Some (Asks count)) rest cut = at_last count rest _ _ _ refl refl refl cut
behind_last (Some (Logs run count text)) rest cut = logged_last run text (lines_in false count rest) (lines_last count rest) cut

line_last : (bytes : List ℕ) (o : Option ℕ) (b : Bool) → nat_lt most_line (length bytes) ≡ b → first_in false (line_at false bytes o) ≡ Cut → ⊥
line_last bytes (Some k) b long cut = behind_last (line_of (take k bytes)) (drop (k + 1) bytes) cut
line_last bytes None true long cut = behind_last (line_of bytes) [] (rw long at cut)
line_last bytes None false long cut = behind_last (line_of bytes) [] (rw long at cut)

pub first_last : (bytes : List ℕ) → first_statement false bytes ≡ Cut → ⊥
unfolding first_statement
first_last bytes cut = line_last bytes (position is_newline bytes) _ refl cut

-- of no bytes the first statement is cut, where more come
pub cut_nothing : (bytes : List ℕ) → length bytes ≡ 0 → first_statement true bytes ≡ Cut
unfolding first_statement
cut_nothing [] none = refl
cut_nothing (c ∷ cs) none = absurd (omega arith)
