-- What is printed of a statement is read as the statement.
use Rattle.std.proofs.Common.{◌≡◌, ℕ, ◌==◌, ◌<◌, ◌≤◌, ◌^◌, Bool, false, List, [], ◌∷◌, ◌++◌, length, codes, position, slice_index, Some, None, refl, ap, ◌∙◌, arith, append_assoc, append-nil, length-append}
use Rattle.std.specs.Fmt.{decimal}
use Rattle.std.specs.Str.{IsUtf8}
use Rattle.std.proofs.lemmas.Bool.{le-ltb}
use Rattle.std.proofs.lemmas.Bool.Decides.{nat_tests}
use Rattle.std.proofs.lemmas.Fmt.{length-decimal-le}
use Rattle.std.proofs.lemmas.List.{get_or_at}
use Rattle.std.proofs.lemmas.Str.{is_utf8-from_IsUtf8}
use Rattle.ow_keep.specs.declared.allowed.TheConstants.{GREATEST_MOMENT}
use Rattle.ow_day.specs.Limits.{most_line}
use Rattle.ow_day.specs.Statement.{Statement, At, Call, Ask, Next, Begun, Answer, Logged, Exit, NoStart, Fault, Lost, Gone, Sweep, Turn, Collect, Drain, Reopen, End, Whole, Asks, Logs, answer_of, ask_of, at_of, begun_of, call_of, collect_of, container_of, exit_of, fault_of, gone_of, line_of, logged_of, lost_of, no_start_of, numbered, reply_of, utf8_text, worded}
use Rattle.ow_day.specs.Day.{Found, asked, behind_line, first_statement, lines_in, logged}
use Rattle.ow_day.specs.Printed.{EndsInByte, IsLineText, IsPrintable, IsReadBack, IsWord, logs_head, printed, printed_logs}
use Rattle.ow_day.proofs.Choices.{is_apart}
use Rattle.ow_day.proofs.PrintedLogs.{logs_before, logs_last, rest_of, tail_of}
use Rattle.ow_records.specs.Id.{id_text}
use Rattle.ow_records.specs.declared.ids.Id.{Id}
use Rattle.ow_records.proofs.LowerIds.{length-id_text, lower_back}
use Rattle.ow_day.proofs.Identifying.{no_newline}
use Rattle.ow_day.proofs.Numbers.{decimal_of-decimal}
use Rattle.ow_day.proofs.Parting.{back_of, first_behind, front_of, is_itself, none_in_both, none_in_decimal, none_there, parted_word}

text_read : (text : List ℕ) → IsUtf8 text → utf8_text text ≡ Some text
text_read text u = rw (is_utf8-from_IsUtf8 text u) refl

not_none : (n : ℕ) → 0 < n → (n == 0) ≡ false
not_none n some = grind (arith, nat_tests)

-- ---- what follows the first word

call_back : (name text : List ℕ) → IsWord name → IsLineText text → call_of (name ++ 32 ∷ text) ≡ Some (Whole (Call name text))
unfolding call_of
call_back name text word line =
    rw (parted_word name text (none_there 32 name word.space), not_none (length name) word.some, text_read name word.text.utf8, text_read text line.utf8) refl

numbered_back : (n : ℕ) (text : List ℕ) → n < 2 ^ 64 → numbered (decimal n ++ 32 ∷ text) ≡ Some (n, text)
unfolding numbered
numbered_back n text small = rw (parted_word (decimal n) text (none_in_decimal 32 n (omega arith) small), decimal_of-decimal n small) refl

answer_back : (run : ℕ) (text : List ℕ) → run < 2 ^ 64 → IsUtf8 text → answer_of (decimal run ++ 32 ∷ text) ≡ Some (Whole (Answer run text))
unfolding answer_of
answer_back run text small u = rw (numbered_back run text small, text_read text u) refl

no_start_back : (run : ℕ) (text : List ℕ) → run < 2 ^ 64 → IsUtf8 text → no_start_of (decimal run ++ 32 ∷ text) ≡ Some (Whole (NoStart run text))
unfolding no_start_of
no_start_back run text small u = rw (numbered_back run text small, text_read text u) refl

logged_back : (run count : ℕ) (text : List ℕ) → run < 2 ^ 64 → count < 2 ^ 64 → IsUtf8 text → logged_of (decimal run ++ 32 ∷ (decimal count ++ 32 ∷ text)) ≡ Some (Logs run count text)
unfolding logged_of
logged_back run count text small few u = rw (numbered_back run (decimal count ++ 32 ∷ text) small, numbered_back count text few, text_read text u) refl

exit_back : (run code : ℕ) → run < 2 ^ 64 → code ≤ 255 → exit_of (decimal run ++ 32 ∷ decimal code) ≡ Some (Whole (Exit run code))
unfolding exit_of
exit_back run code small most = rw (numbered_back run (decimal code) small, decimal_of-decimal code (omega arith), le-ltb 255 code most) refl

collect_back : (id : Id) → id.namespace < 2 ^ 64 → id.count < 2 ^ 64 → collect_of (id_text id) ≡ Some (Whole (Collect id))
unfolding collect_of
collect_back id small few = rw (lower_back id small few) refl

fault_back : (run : ℕ) → run < 2 ^ 64 → fault_of (decimal run) ≡ Some (Whole (Fault run))
unfolding fault_of
fault_back run small = rw (decimal_of-decimal run small) refl

begun_back : (run : ℕ) → run < 2 ^ 64 → begun_of (decimal run) ≡ Some (Whole (Begun run))
unfolding begun_of
begun_back run small = rw (decimal_of-decimal run small) refl

lost_back : (run : ℕ) → run < 2 ^ 64 → lost_of (decimal run) ≡ Some (Whole (Lost run))
unfolding lost_of
lost_back run small = rw (decimal_of-decimal run small) refl

gone_back : (slot generation : ℕ) → slot < 2 ^ 32 → generation < 2 ^ 32 → gone_of (decimal slot ++ 32 ∷ decimal generation) ≡ Some (Whole (Gone slot generation))
unfolding gone_of
gone_back slot generation small few =
    rw (numbered_back slot (decimal generation) (omega arith), decimal_of-decimal generation (omega arith), le-ltb 4294967295 slot (omega arith), le-ltb 4294967295 generation (omega arith)) refl

at_back : (moment : ℕ) → moment ≤ GREATEST_MOMENT → at_of (decimal moment) ≡ Some (Whole (At moment))
unfolding at_of
at_back moment most = rw (decimal_of-decimal moment (omega arith), le-ltb GREATEST_MOMENT moment most) refl

ask_back : (count : ℕ) → count ≤ most_line → ask_of (decimal count) ≡ Some (Asks count)
unfolding ask_of
ask_back count most = rw (decimal_of-decimal count (omega arith), le-ltb most_line count most) refl

-- ---- lines

call_line : (rest : List ℕ) → length (codes "call " ++ rest) ≤ most_line → line_of (codes "call " ++ rest) ≡ call_of rest
unfolding line_of worded
call_line rest fits = rw (le-ltb most_line (length (codes "call " ++ rest)) fits, parted_word (codes "call") rest refl) refl

answer_line : (rest : List ℕ) → length (codes "answer " ++ rest) ≤ most_line → line_of (codes "answer " ++ rest) ≡ answer_of rest
unfolding line_of worded
answer_line rest fits = rw (le-ltb most_line (length (codes "answer " ++ rest)) fits, parted_word (codes "answer") rest refl) refl

at_line : (rest : List ℕ) → length (codes "at " ++ rest) ≤ most_line → line_of (codes "at " ++ rest) ≡ at_of rest
unfolding line_of worded
at_line rest fits = rw (le-ltb most_line (length (codes "at " ++ rest)) fits, parted_word (codes "at") rest refl) refl

ask_line : (rest : List ℕ) → length (codes "ask " ++ rest) ≤ most_line → line_of (codes "ask " ++ rest) ≡ ask_of rest
unfolding line_of worded
ask_line rest fits = rw (le-ltb most_line (length (codes "ask " ++ rest)) fits, parted_word (codes "ask") rest refl) refl

logged_line : (rest : List ℕ) → length (codes "logged " ++ rest) ≤ most_line → line_of (codes "logged " ++ rest) ≡ logged_of rest
unfolding line_of worded reply_of
logged_line rest fits = rw (le-ltb most_line (length (codes "logged " ++ rest)) fits, parted_word (codes "logged") rest refl) refl

exit_line : (rest : List ℕ) → length (codes "exit " ++ rest) ≤ most_line → line_of (codes "exit " ++ rest) ≡ exit_of rest
unfolding line_of worded reply_of
exit_line rest fits = rw (le-ltb most_line (length (codes "exit " ++ rest)) fits, parted_word (codes "exit") rest refl) refl

no_start_line : (rest : List ℕ) → length (codes "nostart " ++ rest) ≤ most_line → line_of (codes "nostart " ++ rest) ≡ no_start_of rest
unfolding line_of worded reply_of
no_start_line rest fits = rw (le-ltb most_line (length (codes "nostart " ++ rest)) fits, parted_word (codes "nostart") rest refl) refl

collect_line : (rest : List ℕ) → length (codes "collect " ++ rest) ≤ most_line → line_of (codes "collect " ++ rest) ≡ collect_of rest
unfolding line_of worded
collect_line rest fits = rw (le-ltb most_line (length (codes "collect " ++ rest)) fits, parted_word (codes "collect") rest refl) refl

fault_line : (rest : List ℕ) → length (codes "fault " ++ rest) ≤ most_line → line_of (codes "fault " ++ rest) ≡ fault_of rest
unfolding line_of worded reply_of
fault_line rest fits = rw (le-ltb most_line (length (codes "fault " ++ rest)) fits, parted_word (codes "fault") rest refl) refl

begun_line : (rest : List ℕ) → length (codes "begun " ++ rest) ≤ most_line → line_of (codes "begun " ++ rest) ≡ begun_of rest
unfolding line_of worded reply_of container_of
begun_line rest fits = rw (le-ltb most_line (length (codes "begun " ++ rest)) fits, parted_word (codes "begun") rest refl) refl

lost_line : (rest : List ℕ) → length (codes "lost " ++ rest) ≤ most_line → line_of (codes "lost " ++ rest) ≡ lost_of rest
unfolding line_of worded reply_of container_of
lost_line rest fits = rw (le-ltb most_line (length (codes "lost " ++ rest)) fits, parted_word (codes "lost") rest refl) refl

gone_line : (rest : List ℕ) → length (codes "gone " ++ rest) ≤ most_line → line_of (codes "gone " ++ rest) ≡ gone_of rest
unfolding line_of worded reply_of container_of
gone_line rest fits = rw (le-ltb most_line (length (codes "gone " ++ rest)) fits, parted_word (codes "gone") rest refl) refl

-- ---- a line and the bytes after it

behind_newline : (more : Bool) (line later : List ℕ) → position (λ c. c == 10) line ≡ None → first_statement more (line ++ 10 ∷ later) ≡ behind_line more (line_of line) later
unfolding first_statement
behind_newline more line later none = rw (first_behind 10 line later none, front_of line later 10, back_of line later 10) refl

alone : (line : List ℕ) → position (λ c. c == 10) line ≡ None → length line ≤ most_line → first_statement false line ≡ behind_line false (line_of line) []
unfolding first_statement
alone line none fits = rw (none, le-ltb most_line (length line) fits) refl

-- a statement of one line
whole_back : (s : Statement) → position (λ c. c == 10) (printed s) ≡ None → length (printed s) ≤ most_line → line_of (printed s) ≡ Some (Whole s) → IsReadBack s
whole_back s none fits read = record {
  first = λ more later. behind_newline more (printed s) later none ∙ ap (λ o. behind_line more o later) read;
  last = λ ends. alone (printed s) none fits ∙ ap (λ o. behind_line false o []) read;
}

asked_before : (more : Bool) (request later : List ℕ) → asked more (length request) (request ++ 10 ∷ later) ≡ Found (Ask request) later
unfolding asked
asked_before more request later =
    let longer : length request < length (request ++ 10 ∷ later) = omega (arith, length-append request (10 ∷ later)) in
    let at : slice_index (request ++ 10 ∷ later) (length request) ≡ 10 = get_or_at request 10 later 0 (length request) refl in
    rw (le-ltb (length (request ++ 10 ∷ later)) (length request) (omega arith), is_apart (length (request ++ 10 ∷ later)) (length request) longer, at, front_of request later 10, back_of request later 10) refl

asked_last : (request : List ℕ) → asked false (length request) request ≡ Found (Ask request) []
unfolding asked
asked_last request = rw (le-ltb (length request) (length request) (omega arith), is_itself (length request)) refl

abbrev asking : List ℕ → List ℕ
asking request = codes "ask " ++ decimal (length request)

-- a request after its line
request_back : (request : List ℕ) → length request ≤ most_line → IsReadBack (Ask request)
unfolding printed
request_back request most =
    let none : position (λ c. c == 10) (asking request) ≡ None = none_in_both 10 (codes "ask ") (decimal (length request)) refl (none_in_decimal 10 (length request) (omega arith) (omega arith)) in
    let short : length (decimal (length request)) ≤ 7 = length-decimal-le 7 (length request) (omega arith) (omega arith) (omega arith) in
    let read : line_of (asking request) ≡ Some (Asks (length request)) = ask_line (decimal (length request)) (omega arith) ∙ ask_back (length request) most in
    record {
      first = λ more later.
          ap (first_statement more) (append_assoc (asking request) (10 ∷ request) (10 ∷ later))
          ∙ behind_newline more (asking request) (request ++ 10 ∷ later) none
          ∙ ap (λ o. behind_line more o (request ++ 10 ∷ later)) read
          ∙ asked_before more request later;
      last = λ ends. behind_newline false (asking request) request none ∙ ap (λ o. behind_line false o request) read ∙ asked_last request;
    }

-- ---- each statement

none_in_text : (text : List ℕ) → IsLineText text → position (λ c. c == 10) (32 ∷ text) ≡ None
none_in_text text line = none_in_both 10 (codes " ") text refl (none_there 10 text line.newline)

moment_back : (moment : ℕ) → moment ≤ GREATEST_MOMENT → IsReadBack (At moment)
unfolding printed
moment_back moment most =
    let short : length (decimal moment) ≤ 15 = length-decimal-le 15 moment (omega arith) (omega arith) (omega arith) in
    whole_back (At moment)
    (none_in_both 10 (codes "at ") (decimal moment) refl (none_in_decimal 10 moment (omega arith) (omega arith)))
    (omega arith)
    (at_line (decimal moment) (omega arith) ∙ at_back moment most)

words_back : (name text : List ℕ) → IsPrintable (Call name text) → IsReadBack (Call name text)
unfolding printed
words_back name text can = whole_back (Call name text)
    (none_in_both 10 (codes "call ") (name ++ 32 ∷ text) refl (none_in_both 10 name (32 ∷ text) (none_there 10 name can.0.text.newline) (none_in_text text can.1)))
    can.2
    (call_line (name ++ 32 ∷ text) can.2 ∙ call_back name text can.0 can.1)

reply_back : (run : ℕ) (text : List ℕ) → IsPrintable (Answer run text) → IsReadBack (Answer run text)
unfolding printed
reply_back run text can = whole_back (Answer run text)
    (none_in_both 10 (codes "answer ") (decimal run ++ 32 ∷ text) refl (none_in_both 10 (decimal run) (32 ∷ text) (none_in_decimal 10 run (omega arith) can.0) (none_in_text text can.1)))
    can.2
    (answer_line (decimal run ++ 32 ∷ text) can.2 ∙ answer_back run text can.0 can.1.utf8)

no_start_text_back : (run : ℕ) (text : List ℕ) → IsPrintable (NoStart run text) → IsReadBack (NoStart run text)
unfolding printed
no_start_text_back run text can = whole_back (NoStart run text)
    (none_in_both 10 (codes "nostart ") (decimal run ++ 32 ∷ text) refl (none_in_both 10 (decimal run) (32 ∷ text) (none_in_decimal 10 run (omega arith) can.0) (none_in_text text can.1)))
    can.2
    (no_start_line (decimal run ++ 32 ∷ text) can.2 ∙ no_start_back run text can.0 can.1.utf8)

code_back : (run code : ℕ) → run < 2 ^ 64 → code ≤ 255 → IsReadBack (Exit run code)
unfolding printed
code_back run code small most =
    let short : length (decimal run) ≤ 20 = length-decimal-le 20 run (omega arith) (omega arith) (omega arith) in
    let short_code : length (decimal code) ≤ 3 = length-decimal-le 3 code (omega arith) (omega arith) (omega arith) in
    let fits : length (codes "exit " ++ (decimal run ++ 32 ∷ decimal code)) ≤ most_line = omega (arith, length-append (decimal run) (32 ∷ decimal code)) in
    whole_back (Exit run code)
    (none_in_both 10 (codes "exit ") (decimal run ++ 32 ∷ decimal code) refl
    (none_in_both 10 (decimal run) (32 ∷ decimal code) (none_in_decimal 10 run (omega arith) small) (none_in_both 10 (codes " ") (decimal code) refl (none_in_decimal 10 code (omega arith) (omega arith)))))
    fits
    (exit_line (decimal run ++ 32 ∷ decimal code) fits ∙ exit_back run code small most)

fault_run_back : (run : ℕ) → run < 2 ^ 64 → IsReadBack (Fault run)
unfolding printed
fault_run_back run small =
    let short : length (decimal run) ≤ 20 = length-decimal-le 20 run (omega arith) (omega arith) (omega arith) in
    whole_back (Fault run)
    (none_in_both 10 (codes "fault ") (decimal run) refl (none_in_decimal 10 run (omega arith) small))
    (omega arith)
    (fault_line (decimal run) (omega arith) ∙ fault_back run small)

begun_run_back : (run : ℕ) → run < 2 ^ 64 → IsReadBack (Begun run)
unfolding printed
begun_run_back run small =
    let short : length (decimal run) ≤ 20 = length-decimal-le 20 run (omega arith) (omega arith) (omega arith) in
    whole_back (Begun run)
    (none_in_both 10 (codes "begun ") (decimal run) refl (none_in_decimal 10 run (omega arith) small))
    (omega arith)
    (begun_line (decimal run) (omega arith) ∙ begun_back run small)

lost_run_back : (run : ℕ) → run < 2 ^ 64 → IsReadBack (Lost run)
unfolding printed
lost_run_back run small =
    let short : length (decimal run) ≤ 20 = length-decimal-le 20 run (omega arith) (omega arith) (omega arith) in
    whole_back (Lost run)
    (none_in_both 10 (codes "lost ") (decimal run) refl (none_in_decimal 10 run (omega arith) small))
    (omega arith)
    (lost_line (decimal run) (omega arith) ∙ lost_back run small)

gone_slot_back : (slot generation : ℕ) → slot < 2 ^ 32 → generation < 2 ^ 32 → IsReadBack (Gone slot generation)
unfolding printed
gone_slot_back slot generation small few =
    let short : length (decimal slot) ≤ 10 = length-decimal-le 10 slot (omega arith) (omega arith) (omega arith) in
    let short_generation : length (decimal generation) ≤ 10 = length-decimal-le 10 generation (omega arith) (omega arith) (omega arith) in
    let fits : length (codes "gone " ++ (decimal slot ++ 32 ∷ decimal generation)) ≤ most_line = omega (arith, length-append (decimal slot) (32 ∷ decimal generation)) in
    whole_back (Gone slot generation)
    (none_in_both 10 (codes "gone ") (decimal slot ++ 32 ∷ decimal generation) refl
    (none_in_both 10 (decimal slot) (32 ∷ decimal generation) (none_in_decimal 10 slot (omega arith) (omega arith)) (none_in_both 10 (codes " ") (decimal generation) refl (none_in_decimal 10 generation (omega arith) (omega arith)))))
    fits
    (gone_line (decimal slot ++ 32 ∷ decimal generation) fits ∙ gone_back slot generation small few)

id_read_back : (id : Id) → id.namespace < 2 ^ 64 → id.count < 2 ^ 64 → IsReadBack (Collect id)
unfolding printed
id_read_back id small few =
    let short : length (id_text id) ≡ 32 = length-id_text id in
    whole_back (Collect id)
    (none_in_both 10 (codes "collect ") (id_text id) refl (none_there 10 (id_text id) (no_newline id)))
    (omega arith)
    (collect_line (id_text id) (omega arith) ∙ collect_back id small few)

-- ---- lines of logs

none_in_head : (run count : ℕ) (text : List ℕ) → run < 2 ^ 64 → count < 2 ^ 64 → IsLineText text → position (λ c. c == 10) (logs_head run count text) ≡ None
none_in_head run count text small few line =
    none_in_both 10 (codes "logged ") (decimal run ++ 32 ∷ (decimal count ++ 32 ∷ text)) refl
    (none_in_both 10 (decimal run) (32 ∷ (decimal count ++ 32 ∷ text)) (none_in_decimal 10 run (omega arith) small)
    (none_in_both 10 (codes " ") (decimal count ++ 32 ∷ text) refl (none_in_both 10 (decimal count) (32 ∷ text) (none_in_decimal 10 count (omega arith) few) (none_in_text text line))))

logs_last_by : (run : ℕ) (text : List ℕ) (logs : List (List ℕ)) → IsPrintable (Logged run text logs) → EndsInByte logs → line_of (logs_head run (length logs) text) ≡ Some (Logs run (length logs) text)
    → position (λ c. c == 10) (logs_head run (length logs) text) ≡ None → first_statement false (printed (Logged run text logs)) ≡ Found (Logged run text logs) []
unfolding printed lines_in
logs_last_by run text [] can ends read none =
    ap (first_statement false) (append-nil (logs_head run 0 text)) ∙ alone (logs_head run 0 text) none can.3 ∙ ap (λ o. behind_line false o []) read
logs_last_by run text (l ∷ ls) can ends read none =
    behind_newline false (logs_head run (length (l ∷ ls)) text) (l ++ printed_logs ls) none ∙ ap (λ o. behind_line false o (l ++ printed_logs ls)) read
    ∙ ap (logged run text) (logs_last l ls can.4 ends)

logs_back : (run : ℕ) (text : List ℕ) (logs : List (List ℕ)) → IsPrintable (Logged run text logs) → IsReadBack (Logged run text logs)
unfolding printed
logs_back run text logs can =
    let head = logs_head run (length logs) text in
    let none : position (λ c. c == 10) head ≡ None = none_in_head run (length logs) text can.0 can.1 can.2 in
    let rest = decimal run ++ 32 ∷ (decimal (length logs) ++ 32 ∷ text) in
    let read : line_of head ≡ Some (Logs run (length logs) text) = logged_line rest can.3 ∙ logged_back run (length logs) text can.0 can.1 can.2.utf8 in
    record {
      first = λ more later.
          ap (first_statement more) (append_assoc head (printed_logs logs) (10 ∷ later) ∙ ap (λ t. head ++ t) (tail_of logs later))
          ∙ behind_newline more head (rest_of logs later) none
          ∙ ap (λ o. behind_line more o (rest_of logs later)) read
          ∙ ap (logged run text) (logs_before more logs later can.4);
      last = λ ends. logs_last_by run text logs can ends read none;
    }

pub read_back : (s : Statement) → IsPrintable s → IsReadBack s
unfolding printed line_of
read_back (At moment) can = moment_back moment can
read_back (Call name text) can = words_back name text can
read_back (Ask request) can = request_back request can
read_back Next can = whole_back Next refl (omega arith) refl
read_back (Begun run) can = begun_run_back run can
read_back (Answer run text) can = reply_back run text can
read_back (Logged run text logs) can = logs_back run text logs can
read_back (Exit run code) can = code_back run code can.0 can.1
read_back (NoStart run text) can = no_start_text_back run text can
read_back (Fault run) can = fault_run_back run can
read_back (Lost run) can = lost_run_back run can
read_back (Gone slot generation) can = gone_slot_back slot generation can.0 can.1
read_back Sweep can = whole_back Sweep refl (omega arith) refl
read_back (Collect id) can = id_read_back id can.0 can.1
read_back Turn can = whole_back Turn refl (omega arith) refl
read_back Drain can = whole_back Drain refl (omega arith) refl
read_back Reopen can = whole_back Reopen refl (omega arith) refl
read_back End can = whole_back End refl (omega arith) refl
