-- What is found as a statement was printed as one.
use Rattle.std.proofs.Common.{◌≡◌, ◌⊎◌, ℕ, zero, suc, ◌==◌, ◌&&◌, ◌+◌, ◌^◌, ◌<◌, ◌≤◌, Bool, true, false, not, nat_lt, List, [], ◌∷◌, ◌++◌, length, codes, take, drop, position, slice_index, Option, Some, None, inl, inr, refl, sym, ap, ◌∙◌, subst, arith, if◌then◌else◌, append_assoc, append-nil, length-append, length-take}
use Rattle.std.specs.Fmt.{decimal}
use Rattle.std.specs.List.{All}
use Rattle.std.proofs.lemmas.Bool.{eqb-true}
use Rattle.std.proofs.lemmas.List.{drop_more, take-append-drop}
use Rattle.std.proofs.lemmas.List.Elements.{All-cons, All-nil}
use Rattle.ow_day.specs.Limits.{most_line}
use Rattle.ow_day.specs.Statement.{Statement, At, Call, Ask, Next, Begun, Answer, Logged, Exit, NoStart, Fault, Lost, Gone, Sweep, Turn, Collect, Drain, Reopen, End, Reading, Whole, Asks, Logs, line_of}
use Rattle.ow_day.specs.Day.{Day, First, Found, Wrong, Cut, Lines, LinesAre, NoLines, CutLines, lines_in, logged, asked, at_end, behind_line, day_from, day_of, day_step, first_in, first_statement, going_on, has_more, line_at, window}
use Rattle.ow_day.specs.Printed.{HasNo, IsLogLine, IsPrintable, IsPrintedAt, logs_head, printed, printed_logs}
use Rattle.ow_day.proofs.Choices.{either, over}
use Rattle.ow_day.proofs.Lines.{IsWritten, line_written}
use Rattle.ow_day.proofs.Parting.{nowhere, split_at}
use Rattle.ow_day.proofs.PrintedLogs.{ArePrinted, lines_printed, of_nothing}

not_wrong : (s : Statement) (later : List ℕ) → Wrong ≡ Found s later → ⊥
not_wrong s later e = cc

not_cut : (s : Statement) (later : List ℕ) → Cut ≡ Found s later → ⊥
not_cut s later e = cc

same_found : (s t : Statement) (rest later : List ℕ) → Found s rest ≡ Found t later → (s ≡ t) × (rest ≡ later)
same_found s t rest later e = (cc, cc)

ends_found : (more : Bool) (t s : Statement) (rest later : List ℕ) → at_end more (Found t rest) ≡ Found s later → (t ≡ s) × (rest ≡ later)
ends_found true t s rest later e = absurd (not_cut s later e)
ends_found false t s rest later e = same_found t s rest later e

ends_wrong : (more : Bool) (s : Statement) (later : List ℕ) → at_end more Wrong ≡ Found s later → ⊥
ends_wrong true s later e = not_cut s later e
ends_wrong false s later e = not_wrong s later e

-- the request of `count` bytes is found
record IsAsked (count : ℕ) (bytes : List ℕ) (s : Statement) (later : List ℕ) : Type 0 where
  request : List ℕ
  is : Ask request ≡ s
  size : length request ≡ count
  ends : (bytes ≡ request ++ 10 ∷ later) ⊎ (bytes ≡ request) × (later ≡ [])

asked_all : (more : Bool) (count : ℕ) (bytes later : List ℕ) (s : Statement) → (length bytes == count) ≡ true → at_end more (Found (Ask bytes) []) ≡ Found s later → IsAsked count bytes s later
asked_all more count bytes later s all e =
    let same = ends_found more (Ask bytes) s [] later e in
    record { request = bytes; is = same.0; size = eqb-true (length bytes) count all; ends = inr (refl, sym same.1) }

asked_some : (count : ℕ) (bytes later : List ℕ) (s : Statement) → count < length bytes → (slice_index bytes count == 10) ≡ true → Found (Ask (take count bytes)) (drop (count + 1) bytes) ≡ Found s later → IsAsked count bytes s later
asked_some count bytes later s lt is e =
    let same = same_found (Ask (take count bytes)) s (drop (count + 1) bytes) later e in
    let there : slice_index bytes count ≡ 10 = eqb-true (slice_index bytes count) 10 is in
    let from : drop count bytes ≡ 10 ∷ later = drop_more bytes count 0 lt ∙ (λ i. there i ∷ same.1 i) in
    record {
      request = take count bytes;
      is = same.0;
      size = omega (arith, length-take count bytes);
      ends = inl (sym (take-append-drop count bytes) ∙ ap (λ t. take count bytes ++ t) from);
    }

asked_read : (more : Bool) (count : ℕ) (bytes later : List ℕ) (s : Statement) → asked more count bytes ≡ Found s later → IsAsked count bytes s later
unfolding asked
asked_read more count bytes later s e =
    either (nat_lt (length bytes) count) _ _ _ e (λ _ e. absurd (ends_wrong more s later e)) (λ enough e.
    either (length bytes == count) _ _ _ e (λ all e. asked_all more count bytes later s all e) (λ part e.
    either (slice_index bytes count == 10) _ _ _ e (λ is e. asked_some count bytes later s (over (length bytes) count enough part) is e) (λ _ e.
    absurd (not_wrong s later e))))

-- ---- after a line

ask_printed : (line bytes later : List ℕ) (s : Statement) (count : ℕ) → IsWritten line (Asks count) → IsAsked count bytes s later → IsPrintable s × IsPrintedAt (line ++ 10 ∷ bytes) s later
unfolding printed
ask_printed line bytes later s count written found =
    let q = found.request in
    let head : line ≡ codes "ask " ++ decimal (length q) = written.1 ∙ ap (λ n. codes "ask " ++ decimal n) (sym found.size) in
    let can : length q ≤ most_line = rw found.size written.0 in
    subst (λ t. IsPrintable t × IsPrintedAt (line ++ 10 ∷ bytes) t later) found.is (
      can,
      elim found.ends [
        | inl before ↦ inl ((λ i. head i ++ 10 ∷ before i) ∙ sym (append_assoc (codes "ask " ++ decimal (length q)) (10 ∷ q) (10 ∷ later)))
        | inr last ↦ inr (last.1, inl (λ i. head i ++ 10 ∷ last.0 i))
      ],
    )

logged_by : (run : ℕ) (text later : List ℕ) (lines : Lines) (s : Statement) → logged run text lines ≡ Found s later → (logs : List (List ℕ)) × (lines ≡ LinesAre logs later) × (Logged run text logs ≡ s)
logged_by run text later NoLines s e = absurd (not_wrong s later e)
logged_by run text later CutLines s e = absurd (not_cut s later e)
logged_by run text later (LinesAre logs rest) s e =
    let same = same_found (Logged run text logs) s rest later e in
    (logs, ap (LinesAre logs) same.1, same.0)

logs_printed : (line rest later : List ℕ) (run count : ℕ) (text : List ℕ) (logs : List (List ℕ)) → IsWritten line (Logs run count text) → ArePrinted count rest logs later
    → IsPrintable (Logged run text logs) × IsPrintedAt (line ++ 10 ∷ rest) (Logged run text logs) later
unfolding printed
logs_printed line rest later run count text logs written p =
    let head : line ≡ logs_head run (length logs) text = written.4 ∙ ap (λ n. logs_head run n text) (sym p.size) in
    let few : length logs < 2 ^ 64 = rw p.size written.1 in
    let fits : length (logs_head run (length logs) text) ≤ most_line = subst (λ l. length l ≤ most_line) head written.3 in (
      (written.0, few, written.2, fits, p.all),
      elim p.ends [
        | inl before ↦ inl ((λ i. head i ++ before i) ∙ sym (append_assoc (logs_head run (length logs) text) (printed_logs logs) (10 ∷ later)))
        | inr last ↦ inr (last.0, inl (λ i. head i ++ last.1 i))
      ],
    )

behind_by : (more : Bool) (line rest later : List ℕ) (s : Statement) (o : Option Reading) → line_of line ≡ o → HasNo 10 line → behind_line more o rest ≡ Found s later → IsPrintable s × IsPrintedAt (line ++ 10 ∷ rest) s later
behind_by more line rest later s None is none e = absurd (not_wrong s later e)
behind_by more line rest later s (Some (Whole t)) is none e =
    let same = same_found t s rest later e in
    let written = line_written line (Whole t) none is in
    (subst IsPrintable same.0 written.0, inl (λ i. (written.1 ∙ ap printed same.0) i ++ 10 ∷ same.1 i))
behind_by more line rest later s (Some (Asks count)) is none e =
    ask_printed line rest later s count (line_written line (Asks count) none is) (asked_read more count rest later s e)
behind_by more line rest later s (Some (Logs run count text)) is none e =
    let found = logged_by run text later (lines_in more count rest) s e in
    subst (λ t. IsPrintable t × IsPrintedAt (line ++ 10 ∷ rest) t later) found.2
    (logs_printed line rest later run count text found.0 (line_written line (Logs run count text) none is) (lines_printed more count rest found.0 later found.1))

-- ---- the last line of a day

last_asked : (count : ℕ) (s : Statement) (later : List ℕ) → IsAsked count [] s later → (Ask [] ≡ s) × (count ≡ 0) × (later ≡ [])
last_asked count s later found = elim found.ends [
  | inl before ↦ absurd (let size = ap length before in omega (arith, size, length-append found.request (10 ∷ later)))
  | inr last ↦ (ap Ask last.0 ∙ found.is, sym found.size ∙ ap length (sym last.0), last.1)
]

last_by : (more : Bool) (line later : List ℕ) (s : Statement) (o : Option Reading) → line_of line ≡ o → HasNo 10 line → behind_line more o [] ≡ Found s later → IsPrintable s × IsPrintedAt line s later
unfolding printed
last_by more line later s None is none e = absurd (not_wrong s later e)
last_by more line later s (Some (Whole t)) is none e =
    let same = same_found t s [] later e in
    let written = line_written line (Whole t) none is in
    (subst IsPrintable same.0 written.0, inr (sym same.1, inl (written.1 ∙ ap printed same.0)))
last_by more line later s (Some (Asks count)) is none e =
    let written = line_written line (Asks count) none is in
    let last = last_asked count s later (asked_read more count [] later s e) in
    subst (λ t. IsPrintable t × IsPrintedAt line t later) last.0
    (omega arith, inr (last.2, inr (ap (λ l. l ++ 10 ∷ []) (written.1 ∙ ap (λ n. codes "ask " ++ decimal n) last.1) ∙ append_assoc (codes "ask ") (decimal 0) (10 ∷ []))))
last_by more line later s (Some (Logs run count text)) is none e =
    let found = logged_by run text later (lines_in more count []) s e in
    let none_left = of_nothing more count found.0 later found.1 in
    let written = line_written line (Logs run count text) none is in
    let head : line ≡ logs_head run 0 text = written.4 ∙ ap (λ n. logs_head run n text) none_left.0 in
    let fits : length (logs_head run 0 text) ≤ most_line = subst (λ l. length l ≤ most_line) head written.3 in
    subst (λ t. IsPrintable t × IsPrintedAt line t later) (ap (Logged run text) (sym none_left.1) ∙ found.2)
    ((written.0, omega arith, written.2, fits, All-nil IsLogLine), inr (none_left.2, inl (head ∙ sym (append-nil (logs_head run 0 text)))))

-- ---- every statement

without_newline : (more : Bool) (bytes later : List ℕ) (s : Statement) (cut : Bool) → HasNo 10 bytes → first_in more (if cut then None else Some (bytes, [])) ≡ Found s later → IsPrintable s × IsPrintedAt bytes s later
without_newline more bytes later s true none e = absurd (not_cut s later e)
without_newline more bytes later s false none e = last_by more bytes later s (line_of bytes) refl none e

first_by : (more : Bool) (bytes later : List ℕ) (s : Statement) (o : Option ℕ) → position (λ c. c == 10) bytes ≡ o → first_in more (line_at more bytes o) ≡ Found s later → IsPrintable s × IsPrintedAt bytes s later
first_by more bytes later s (Some k) is e =
    let at = split_at 10 bytes k is in
    subst (λ b. IsPrintable s × IsPrintedAt b s later) (sym at.0) (behind_by more (take k bytes) (drop (k + 1) bytes) later s (line_of (take k bytes)) refl at.1 e)
first_by more bytes later s None is e = without_newline more bytes later s (not (nat_lt most_line (length bytes)) && more) (nowhere 10 bytes is) e

pub first_printed : (more : Bool) (bytes later : List ℕ) (s : Statement) → first_statement more bytes ≡ Found s later → IsPrintable s × IsPrintedAt bytes s later
unfolding first_statement
first_printed more bytes later s e = first_by more bytes later s (position (λ c. c == 10) bytes) refl e

-- ---- every day

goes_on : (s : Statement) (day : Day) → IsPrintable s → All IsPrintable day.statements → All IsPrintable (going_on s day).statements
goes_on End day can rest = All-nil IsPrintable
goes_on (At moment) day can rest = All-cons IsPrintable (At moment) day.statements can rest
goes_on (Call name text) day can rest = All-cons IsPrintable (Call name text) day.statements can rest
goes_on (Ask request) day can rest = All-cons IsPrintable (Ask request) day.statements can rest
goes_on Next day can rest = All-cons IsPrintable Next day.statements can rest
goes_on (Begun run) day can rest = All-cons IsPrintable (Begun run) day.statements can rest
goes_on (Answer run text) day can rest = All-cons IsPrintable (Answer run text) day.statements can rest
goes_on (Logged run text logs) day can rest = All-cons IsPrintable (Logged run text logs) day.statements can rest
goes_on (Exit run code) day can rest = All-cons IsPrintable (Exit run code) day.statements can rest
goes_on (NoStart run text) day can rest = All-cons IsPrintable (NoStart run text) day.statements can rest
goes_on (Fault run) day can rest = All-cons IsPrintable (Fault run) day.statements can rest
goes_on (Lost run) day can rest = All-cons IsPrintable (Lost run) day.statements can rest
goes_on (Gone slot generation) day can rest = All-cons IsPrintable (Gone slot generation) day.statements can rest
goes_on Sweep day can rest = All-cons IsPrintable Sweep day.statements can rest
goes_on (Collect id) day can rest = All-cons IsPrintable (Collect id) day.statements can rest
goes_on Turn day can rest = All-cons IsPrintable Turn day.statements can rest
goes_on Drain day can rest = All-cons IsPrintable Drain day.statements can rest
goes_on Reopen day can rest = All-cons IsPrintable Reopen day.statements can rest

step_by : (more : Bool) (n : ℕ) (bytes : List ℕ) (f : First) (then' : List ℕ → Day) → first_statement more bytes ≡ f → ((rest : List ℕ) → All IsPrintable (then' rest).statements)
    → All IsPrintable (day_step n f then').statements
step_by more n bytes Cut then' is rest_can = All-nil IsPrintable
step_by more n bytes Wrong then' is rest_can = All-nil IsPrintable
step_by more n bytes (Found s rest) then' is rest_can = goes_on s (then' rest) (first_printed more bytes rest s is).0 (rest_can rest)

can_be_printed : (count : ℕ) (more : Bool) (n : ℕ) (bytes : List ℕ) → All IsPrintable (day_from count more n bytes).statements
unfolding day_from
can_be_printed zero more n bytes = All-nil IsPrintable
can_be_printed (suc count) more n [] = All-nil IsPrintable
can_be_printed (suc count) more n (c ∷ cs) = step_by more n (c ∷ cs) (first_statement more (c ∷ cs)) (λ rest. day_from count more (n + 1) rest) refl (λ rest. can_be_printed count more (n + 1) rest)

pub day_can_be_printed : (bytes : List ℕ) → All IsPrintable (day_of bytes).statements
day_can_be_printed bytes = can_be_printed (length (window bytes) + 1) (has_more bytes) 1 (window bytes)
