-- What is read as a line was written as one.
use Rattle.std.proofs.Common.{◌≡◌, ℕ, ◌==◌, ◌<◌, ◌≤◌, ◌^◌, Bool, true, false, nat_lt, List, ◌∷◌, ◌++◌, length, codes, Option, Some, None, if◌then◌else◌, refl, sym, ap, ◌∙◌, arith, subst}
use Rattle.std.specs.Fmt.{decimal}
use Rattle.std.specs.Str.{bytes_eq, is_utf8, IsUtf8}
use Rattle.std.proofs.lemmas.Bool.{ltb-false}
use Rattle.std.proofs.lemmas.List.Elements.{All-tail}
use Rattle.std.proofs.lemmas.Option.{none-some, same_Some, some_pair_parts}
use Rattle.std.proofs.lemmas.Slice.Eq.{bytes_eq-Decides}
use Rattle.std.proofs.lemmas.Str.{IsUtf8-from_is_utf8}
use Rattle.ow_value.specs.Decimal.{decimal_of}
use Rattle.ow_keep.specs.declared.allowed.TheConstants.{GREATEST_MOMENT}
use Rattle.ow_records.specs.declared.ids.Id.{Id}
use Rattle.ow_records.specs.LowerId.{id_of_lower}
use Rattle.ow_day.specs.Limits.{most_line}
use Rattle.ow_day.specs.Statement.{Statement, At, Call, Next, Begun, Answer, Exit, NoStart, Fault, Lost, Gone, Sweep, Turn, Collect, Drain, Reopen, End, Reading, Whole, Asks, Logs, answer_in, answer_of, answered, ask_of, asks_for, at_moment, at_of, begun, begun_of, call_in, call_of, called, collect_of, collected, container_of, exit_in, exit_of, exited, failed, fault_of, gone, gone_in, gone_of, line_of, logged, logged_in, logged_of, logs_in, lost, lost_of, no_start_in, no_start_of, numbered, numbered_in, parted, reply_of, unstarted, with_number, worded, worded_in}
use Rattle.ow_day.specs.Printed.{HasNo, IsLineText, IsPrintable, IsWord, logs_head, printed}
use Rattle.ow_day.proofs.Choices.{either, if_later, some_by}
use Rattle.ow_records.proofs.LowerIds.{lower_known}
use Rattle.ow_day.proofs.Numbers.{decimal_read}
use Rattle.ow_day.proofs.Parting.{none_in_back, none_in_front, parted_read}

-- how a line is written
abbrev pub IsWritten : List ℕ → Reading → Type 0
IsWritten line (Whole s) = IsPrintable s × (line ≡ printed s)
IsWritten line (Asks count) = (count ≤ most_line) × (line ≡ codes "ask " ++ decimal count)
IsWritten line (Logs run count text) = (run < 2 ^ 64) × (count < 2 ^ 64) × IsLineText text × (length line ≤ most_line) × (line ≡ logs_head run count text)

-- what follows a space is text of one line, where all is
line_text : (word text : List ℕ) → HasNo 10 (word ++ 32 ∷ text) → IsUtf8 text → IsLineText text
line_text word text none u = record { utf8 = u; newline = All-tail (λ c. (c == 10) ≡ false) 32 text (none_in_back 10 word (32 ∷ text) none) }

-- ---- `call`

called_by : (name text : List ℕ) (r : Reading) (n t : Bool) → is_utf8 name ≡ n → is_utf8 text ≡ t → called (if n then Some name else None) (if t then Some text else None) ≡ Some r
    → IsUtf8 name × IsUtf8 text × (Whole (Call name text) ≡ r)
called_by name text r false t ni ti e = absurd (none-some r e)
called_by name text r true false ni ti e = absurd (none-some r e)
called_by name text r true true ni ti e = (IsUtf8-from_is_utf8 name ni, IsUtf8-from_is_utf8 text ti, same_Some (Whole (Call name text)) r e)

call_words : (name text : List ℕ) (r : Reading) → HasNo 10 (name ++ 32 ∷ text) → HasNo 32 name → length (codes "call " ++ (name ++ 32 ∷ text)) ≤ most_line → call_in (Some (name, text)) ≡ Some r
    → IsWritten (codes "call " ++ (name ++ 32 ∷ text)) r
unfolding printed
call_words name text r none word fits e =
    let some = if_later (length name == 0) _ r e in
    let known = called_by name text r (is_utf8 name) (is_utf8 text) refl refl some.1 in
    let name_is : IsWord name = record {
      text = record { utf8 = known.0; newline = none_in_front 10 name (32 ∷ text) none };
      space = word;
      some = some_by (length name) some.0;
    } in
    subst (λ s. IsWritten (codes "call " ++ (name ++ 32 ∷ text)) s) known.2 ((name_is, line_text name text none known.1, fits), refl)

call_by : (rest : List ℕ) (o : Option (List ℕ × List ℕ)) (r : Reading) → parted rest ≡ o → HasNo 10 rest → length (codes "call " ++ rest) ≤ most_line → call_in o ≡ Some r → IsWritten (codes "call " ++ rest) r
call_by rest None r is none fits e = absurd (none-some r e)
call_by rest (Some parts) r is none fits e =
    let at = parted_read rest parts.0 parts.1 is in
    subst (λ t. IsWritten (codes "call " ++ t) r) (sym at.0)
    (call_words parts.0 parts.1 r (subst (HasNo 10) at.0 none) at.1 (subst (λ t. length (codes "call " ++ t) ≤ most_line) at.0 fits) e)

call_written : (rest : List ℕ) (r : Reading) → HasNo 10 rest → length (codes "call " ++ rest) ≤ most_line → call_of rest ≡ Some r → IsWritten (codes "call " ++ rest) r
unfolding call_of
call_written rest r none fits e = call_by rest (parted rest) r refl none fits e

-- ---- a number in front

number_by : (digits rest text : List ℕ) (n : ℕ) (o : Option ℕ) → decimal_of digits ≡ o → with_number o rest ≡ Some (n, text) → (n < 2 ^ 64) × (decimal n ≡ digits) × (rest ≡ text)
number_by digits rest text n None is e = absurd (none-some (n, text) e)
number_by digits rest text n (Some m) is e =
    let k = decimal_read digits m is in
    let same = some_pair_parts m n rest text e in
    (subst (λ x. x < 2 ^ 64) same.0 k.0, ap decimal (sym same.0) ∙ k.1, same.1)

numbered_by : (rest text : List ℕ) (n : ℕ) (o : Option (List ℕ × List ℕ)) → parted rest ≡ o → numbered_in o ≡ Some (n, text) → (n < 2 ^ 64) × (rest ≡ decimal n ++ 32 ∷ text)
numbered_by rest text n None is e = absurd (none-some (n, text) e)
numbered_by rest text n (Some parts) is e =
    let at = parted_read rest parts.0 parts.1 is in
    let k = number_by parts.0 parts.1 text n (decimal_of parts.0) refl e in
    (k.0, at.0 ∙ (λ i. sym k.1 i ++ 32 ∷ k.2 i))

number_known : (rest text : List ℕ) (n : ℕ) → numbered rest ≡ Some (n, text) → (n < 2 ^ 64) × (rest ≡ decimal n ++ 32 ∷ text)
unfolding numbered
number_known rest text n e = numbered_by rest text n (parted rest) refl e

text_behind : (digits text : List ℕ) → HasNo 10 (digits ++ 32 ∷ text) → HasNo 10 text
text_behind digits text none = All-tail (λ c. (c == 10) ≡ false) 32 text (none_in_back 10 digits (32 ∷ text) none)

-- ---- `answer` and `nostart`

answered_by : (run : ℕ) (text : List ℕ) (r : Reading) (t : Bool) → is_utf8 text ≡ t → answered run (if t then Some text else None) ≡ Some r → IsUtf8 text × (Whole (Answer run text) ≡ r)
answered_by run text r false is e = absurd (none-some r e)
answered_by run text r true is e = (IsUtf8-from_is_utf8 text is, same_Some (Whole (Answer run text)) r e)

answer_by : (rest : List ℕ) (o : Option (ℕ × List ℕ)) (r : Reading) → numbered rest ≡ o → HasNo 10 rest → length (codes "answer " ++ rest) ≤ most_line → answer_in o ≡ Some r → IsWritten (codes "answer " ++ rest) r
unfolding printed
answer_by rest None r is none fits e = absurd (none-some r e)
answer_by rest (Some parts) r is none fits e =
    let k = number_known rest parts.1 parts.0 is in
    let known = answered_by parts.0 parts.1 r (is_utf8 parts.1) refl e in
    let same : codes "answer " ++ rest ≡ printed (Answer parts.0 parts.1) = ap (λ t. codes "answer " ++ t) k.1 in
    subst (λ s. IsWritten (codes "answer " ++ rest) s) known.1
    ((k.0, line_text (decimal parts.0) parts.1 (subst (HasNo 10) k.1 none) known.0, subst (λ l. length l ≤ most_line) same fits), same)

answer_written : (rest : List ℕ) (r : Reading) → HasNo 10 rest → length (codes "answer " ++ rest) ≤ most_line → answer_of rest ≡ Some r → IsWritten (codes "answer " ++ rest) r
unfolding answer_of
answer_written rest r none fits e = answer_by rest (numbered rest) r refl none fits e

unstarted_by : (run : ℕ) (text : List ℕ) (r : Reading) (t : Bool) → is_utf8 text ≡ t → unstarted run (if t then Some text else None) ≡ Some r → IsUtf8 text × (Whole (NoStart run text) ≡ r)
unstarted_by run text r false is e = absurd (none-some r e)
unstarted_by run text r true is e = (IsUtf8-from_is_utf8 text is, same_Some (Whole (NoStart run text)) r e)

no_start_by : (rest : List ℕ) (o : Option (ℕ × List ℕ)) (r : Reading) → numbered rest ≡ o → HasNo 10 rest → length (codes "nostart " ++ rest) ≤ most_line → no_start_in o ≡ Some r → IsWritten (codes "nostart " ++ rest) r
unfolding printed
no_start_by rest None r is none fits e = absurd (none-some r e)
no_start_by rest (Some parts) r is none fits e =
    let k = number_known rest parts.1 parts.0 is in
    let known = unstarted_by parts.0 parts.1 r (is_utf8 parts.1) refl e in
    let same : codes "nostart " ++ rest ≡ printed (NoStart parts.0 parts.1) = ap (λ t. codes "nostart " ++ t) k.1 in
    subst (λ s. IsWritten (codes "nostart " ++ rest) s) known.1
    ((k.0, line_text (decimal parts.0) parts.1 (subst (HasNo 10) k.1 none) known.0, subst (λ l. length l ≤ most_line) same fits), same)

no_start_written : (rest : List ℕ) (r : Reading) → HasNo 10 rest → length (codes "nostart " ++ rest) ≤ most_line → no_start_of rest ≡ Some r → IsWritten (codes "nostart " ++ rest) r
unfolding no_start_of
no_start_written rest r none fits e = no_start_by rest (numbered rest) r refl none fits e

-- ---- `logged`

logged_by : (run count : ℕ) (text : List ℕ) (r : Reading) (t : Bool) → is_utf8 text ≡ t → logged run count (if t then Some text else None) ≡ Some r → IsUtf8 text × (Logs run count text ≡ r)
logged_by run count text r false is e = absurd (none-some r e)
logged_by run count text r true is e = (IsUtf8-from_is_utf8 text is, same_Some (Logs run count text) r e)

logs_by : (run : ℕ) (rest behind : List ℕ) (o : Option (ℕ × List ℕ)) (r : Reading) → numbered behind ≡ o → run < 2 ^ 64 → rest ≡ decimal run ++ 32 ∷ behind → HasNo 10 rest → length (codes "logged " ++ rest) ≤ most_line
    → logs_in run o ≡ Some r → IsWritten (codes "logged " ++ rest) r
logs_by run rest behind None r is small at none fits e = absurd (none-some r e)
logs_by run rest behind (Some parts) r is small at none fits e =
    let k = number_known behind parts.1 parts.0 is in
    let known = logged_by run parts.0 parts.1 r (is_utf8 parts.1) refl e in
    let behind_none : HasNo 10 behind = text_behind (decimal run) behind (subst (HasNo 10) at none) in
    let same : codes "logged " ++ rest ≡ logs_head run parts.0 parts.1 = ap (λ t. codes "logged " ++ t) (at ∙ ap (λ t. decimal run ++ 32 ∷ t) k.1) in
    subst (λ s. IsWritten (codes "logged " ++ rest) s) known.1
    (small, k.0, line_text (decimal parts.0) parts.1 (subst (HasNo 10) k.1 behind_none) known.0, fits, same)

logged_known : (rest : List ℕ) (o : Option (ℕ × List ℕ)) (r : Reading) → numbered rest ≡ o → HasNo 10 rest → length (codes "logged " ++ rest) ≤ most_line → logged_in o ≡ Some r → IsWritten (codes "logged " ++ rest) r
logged_known rest None r is none fits e = absurd (none-some r e)
logged_known rest (Some parts) r is none fits e =
    let k = number_known rest parts.1 parts.0 is in
    logs_by parts.0 rest parts.1 (numbered parts.1) r refl k.0 k.1 none fits e

logged_written : (rest : List ℕ) (r : Reading) → HasNo 10 rest → length (codes "logged " ++ rest) ≤ most_line → logged_of rest ≡ Some r → IsWritten (codes "logged " ++ rest) r
unfolding logged_of
logged_written rest r none fits e = logged_known rest (numbered rest) r refl none fits e

-- ---- `exit` and `fault`

exit_code : (run : ℕ) (rest digits : List ℕ) (o : Option ℕ) (r : Reading) → decimal_of digits ≡ o → run < 2 ^ 64 → rest ≡ decimal run ++ 32 ∷ digits → exited run o ≡ Some r → IsWritten (codes "exit " ++ rest) r
unfolding printed
exit_code run rest digits None r is small at e = absurd (none-some r e)
exit_code run rest digits (Some code) r is small at e =
    let some = if_later (nat_lt 255 code) _ r e in
    let same : codes "exit " ++ rest ≡ printed (Exit run code) = ap (λ t. codes "exit " ++ t) (at ∙ ap (λ t. decimal run ++ 32 ∷ t) (sym (decimal_read digits code is).1)) in
    subst (λ s. IsWritten (codes "exit " ++ rest) s) (same_Some (Whole (Exit run code)) r some.1) ((small, ltb-false 255 code some.0), same)

exit_by : (rest : List ℕ) (o : Option (ℕ × List ℕ)) (r : Reading) → numbered rest ≡ o → exit_in o ≡ Some r → IsWritten (codes "exit " ++ rest) r
exit_by rest None r is e = absurd (none-some r e)
exit_by rest (Some parts) r is e =
    let k = number_known rest parts.1 parts.0 is in
    exit_code parts.0 rest parts.1 (decimal_of parts.1) r refl k.0 k.1 e

exit_written : (rest : List ℕ) (r : Reading) → exit_of rest ≡ Some r → IsWritten (codes "exit " ++ rest) r
unfolding exit_of
exit_written rest r e = exit_by rest (numbered rest) r refl e

fault_by : (rest : List ℕ) (o : Option ℕ) (r : Reading) → decimal_of rest ≡ o → failed o ≡ Some r → IsWritten (codes "fault " ++ rest) r
unfolding printed
fault_by rest None r is e = absurd (none-some r e)
fault_by rest (Some run) r is e =
    let k = decimal_read rest run is in
    subst (λ s. IsWritten (codes "fault " ++ rest) s) (same_Some (Whole (Fault run)) r e) (k.0, ap (λ d. codes "fault " ++ d) (sym k.1))

fault_written : (rest : List ℕ) (r : Reading) → fault_of rest ≡ Some r → IsWritten (codes "fault " ++ rest) r
unfolding fault_of
fault_written rest r e = fault_by rest (decimal_of rest) r refl e

-- ---- `begun`, `lost` and `gone`

begun_by : (rest : List ℕ) (o : Option ℕ) (r : Reading) → decimal_of rest ≡ o → begun o ≡ Some r → IsWritten (codes "begun " ++ rest) r
unfolding printed
begun_by rest None r is e = absurd (none-some r e)
begun_by rest (Some run) r is e =
    let k = decimal_read rest run is in
    subst (λ s. IsWritten (codes "begun " ++ rest) s) (same_Some (Whole (Begun run)) r e) (k.0, ap (λ d. codes "begun " ++ d) (sym k.1))

begun_written : (rest : List ℕ) (r : Reading) → begun_of rest ≡ Some r → IsWritten (codes "begun " ++ rest) r
unfolding begun_of
begun_written rest r e = begun_by rest (decimal_of rest) r refl e

lost_by : (rest : List ℕ) (o : Option ℕ) (r : Reading) → decimal_of rest ≡ o → lost o ≡ Some r → IsWritten (codes "lost " ++ rest) r
unfolding printed
lost_by rest None r is e = absurd (none-some r e)
lost_by rest (Some run) r is e =
    let k = decimal_read rest run is in
    subst (λ s. IsWritten (codes "lost " ++ rest) s) (same_Some (Whole (Lost run)) r e) (k.0, ap (λ d. codes "lost " ++ d) (sym k.1))

lost_written : (rest : List ℕ) (r : Reading) → lost_of rest ≡ Some r → IsWritten (codes "lost " ++ rest) r
unfolding lost_of
lost_written rest r e = lost_by rest (decimal_of rest) r refl e

gone_pair : (slot : ℕ) (rest digits : List ℕ) (o : Option ℕ) (r : Reading) → decimal_of digits ≡ o → rest ≡ decimal slot ++ 32 ∷ digits → gone slot o ≡ Some r → IsWritten (codes "gone " ++ rest) r
unfolding printed
gone_pair slot rest digits None r is at e = absurd (none-some r e)
gone_pair slot rest digits (Some generation) r is at e =
    let small = if_later (nat_lt 4294967295 slot) _ r e in
    let few = if_later (nat_lt 4294967295 generation) _ r small.1 in
    let slot_fits : slot ≤ 4294967295 = ltb-false 4294967295 slot small.0 in
    let fits : generation ≤ 4294967295 = ltb-false 4294967295 generation few.0 in
    let same : codes "gone " ++ rest ≡ printed (Gone slot generation) = ap (λ t. codes "gone " ++ t) (at ∙ ap (λ t. decimal slot ++ 32 ∷ t) (sym (decimal_read digits generation is).1)) in
    subst (λ s. IsWritten (codes "gone " ++ rest) s) (same_Some (Whole (Gone slot generation)) r few.1) ((omega arith, omega arith), same)

gone_by : (rest : List ℕ) (o : Option (ℕ × List ℕ)) (r : Reading) → numbered rest ≡ o → gone_in o ≡ Some r → IsWritten (codes "gone " ++ rest) r
gone_by rest None r is e = absurd (none-some r e)
gone_by rest (Some parts) r is e =
    let k = number_known rest parts.1 parts.0 is in
    gone_pair parts.0 rest parts.1 (decimal_of parts.1) r refl k.1 e

gone_written : (rest : List ℕ) (r : Reading) → gone_of rest ≡ Some r → IsWritten (codes "gone " ++ rest) r
unfolding gone_of
gone_written rest r e = gone_by rest (numbered rest) r refl e

-- ---- `at` and `ask`

at_by : (rest : List ℕ) (o : Option ℕ) (r : Reading) → decimal_of rest ≡ o → at_moment o ≡ Some r → IsWritten (codes "at " ++ rest) r
unfolding printed
at_by rest None r is e = absurd (none-some r e)
at_by rest (Some moment) r is e =
    let some = if_later (nat_lt GREATEST_MOMENT moment) _ r e in
    subst (λ s. IsWritten (codes "at " ++ rest) s) (same_Some (Whole (At moment)) r some.1)
    (ltb-false GREATEST_MOMENT moment some.0, ap (λ d. codes "at " ++ d) (sym (decimal_read rest moment is).1))

at_written : (rest : List ℕ) (r : Reading) → at_of rest ≡ Some r → IsWritten (codes "at " ++ rest) r
unfolding at_of
at_written rest r e = at_by rest (decimal_of rest) r refl e

ask_by : (rest : List ℕ) (o : Option ℕ) (r : Reading) → decimal_of rest ≡ o → asks_for o ≡ Some r → IsWritten (codes "ask " ++ rest) r
ask_by rest None r is e = absurd (none-some r e)
ask_by rest (Some count) r is e =
    let some = if_later (nat_lt most_line count) _ r e in
    subst (λ s. IsWritten (codes "ask " ++ rest) s) (same_Some (Asks count) r some.1)
    (ltb-false most_line count some.0, ap (λ d. codes "ask " ++ d) (sym (decimal_read rest count is).1))

ask_written : (rest : List ℕ) (r : Reading) → ask_of rest ≡ Some r → IsWritten (codes "ask " ++ rest) r
unfolding ask_of
ask_written rest r e = ask_by rest (decimal_of rest) r refl e

-- ---- `collect`

collect_by : (rest : List ℕ) (o : Option Id) (r : Reading) → id_of_lower rest ≡ o → collected o ≡ Some r → IsWritten (codes "collect " ++ rest) r
unfolding printed
collect_by rest None r is e = absurd (none-some r e)
collect_by rest (Some id) r is e =
    let k = lower_known rest id is in
    subst (λ s. IsWritten (codes "collect " ++ rest) s) (same_Some (Whole (Collect id)) r e) ((k.0, k.1), ap (λ d. codes "collect " ++ d) k.2)

collect_written : (rest : List ℕ) (r : Reading) → collect_of rest ≡ Some r → IsWritten (codes "collect " ++ rest) r
unfolding collect_of
collect_written rest r e = collect_by rest (id_of_lower rest) r refl e

-- ---- every line

-- the line begins with this word
word_is : (word known rest : List ℕ) (r : Reading) → bytes_eq word known ≡ true → length (word ++ 32 ∷ rest) ≤ most_line
    → (length (known ++ 32 ∷ rest) ≤ most_line → IsWritten (known ++ 32 ∷ rest) r) → IsWritten (word ++ 32 ∷ rest) r
word_is word known rest r is fits written =
    let same = (bytes_eq-Decides word known).0 is in
    subst (λ w. IsWritten (w ++ 32 ∷ rest) r) (sym same) (written (subst (λ w. length (w ++ 32 ∷ rest) ≤ most_line) same fits))

container_written : (word rest : List ℕ) (r : Reading) → length (word ++ 32 ∷ rest) ≤ most_line → container_of word rest ≡ Some r → IsWritten (word ++ 32 ∷ rest) r
unfolding container_of
container_written word rest r fits e =
    either (bytes_eq word (codes "begun")) _ _ _ e (λ is e. word_is word (codes "begun") rest r is fits (λ _. begun_written rest r e)) (λ _ e.
    either (bytes_eq word (codes "lost")) _ _ _ e (λ is e. word_is word (codes "lost") rest r is fits (λ _. lost_written rest r e)) (λ _ e.
    either (bytes_eq word (codes "gone")) _ _ _ e (λ is e. word_is word (codes "gone") rest r is fits (λ _. gone_written rest r e)) (λ _ e.
    absurd (none-some r e))))

reply_written : (word rest : List ℕ) (r : Reading) → HasNo 10 rest → length (word ++ 32 ∷ rest) ≤ most_line → reply_of word rest ≡ Some r → IsWritten (word ++ 32 ∷ rest) r
unfolding reply_of
reply_written word rest r none fits e =
    either (bytes_eq word (codes "logged")) _ _ _ e (λ is e. word_is word (codes "logged") rest r is fits (λ fits. logged_written rest r none fits e)) (λ _ e.
    either (bytes_eq word (codes "exit")) _ _ _ e (λ is e. word_is word (codes "exit") rest r is fits (λ _. exit_written rest r e)) (λ _ e.
    either (bytes_eq word (codes "nostart")) _ _ _ e (λ is e. word_is word (codes "nostart") rest r is fits (λ fits. no_start_written rest r none fits e)) (λ _ e.
    either (bytes_eq word (codes "fault")) _ _ _ e (λ is e. word_is word (codes "fault") rest r is fits (λ _. fault_written rest r e)) (λ _ e.
    container_written word rest r fits e))))

worded_written : (word rest : List ℕ) (r : Reading) → HasNo 10 rest → length (word ++ 32 ∷ rest) ≤ most_line → worded word rest ≡ Some r → IsWritten (word ++ 32 ∷ rest) r
unfolding worded
worded_written word rest r none fits e =
    either (bytes_eq word (codes "call")) _ _ _ e (λ is e. word_is word (codes "call") rest r is fits (λ fits. call_written rest r none fits e)) (λ _ e.
    either (bytes_eq word (codes "answer")) _ _ _ e (λ is e. word_is word (codes "answer") rest r is fits (λ fits. answer_written rest r none fits e)) (λ _ e.
    either (bytes_eq word (codes "at")) _ _ _ e (λ is e. word_is word (codes "at") rest r is fits (λ _. at_written rest r e)) (λ _ e.
    either (bytes_eq word (codes "ask")) _ _ _ e (λ is e. word_is word (codes "ask") rest r is fits (λ _. ask_written rest r e)) (λ _ e.
    either (bytes_eq word (codes "collect")) _ _ _ e (λ is e. word_is word (codes "collect") rest r is fits (λ _. collect_written rest r e)) (λ _ e.
    reply_written word rest r none fits e)))))

words_by : (line : List ℕ) (o : Option (List ℕ × List ℕ)) (r : Reading) → parted line ≡ o → HasNo 10 line → length line ≤ most_line → worded_in o ≡ Some r → IsWritten line r
words_by line None r is none fits e = absurd (none-some r e)
words_by line (Some parts) r is none fits e =
    let at = parted_read line parts.0 parts.1 is in
    let rest_none = All-tail (λ c. (c == 10) ≡ false) 32 parts.1 (none_in_back 10 parts.0 (32 ∷ parts.1) (subst (HasNo 10) at.0 none)) in
    subst (λ l. IsWritten l r) (sym at.0) (worded_written parts.0 parts.1 r rest_none (subst (λ l. length l ≤ most_line) at.0 fits) e)

-- the whole line is this word
only_word : (line : List ℕ) (s : Statement) (r : Reading) → bytes_eq line (printed s) ≡ true → Some (Whole s) ≡ Some r → IsPrintable s → IsWritten line r
only_word line s r is e can = subst (λ t. IsWritten line t) (same_Some (Whole s) r e) (can, (bytes_eq-Decides line (printed s)).0 is)

pub line_written : (line : List ℕ) (r : Reading) → HasNo 10 line → line_of line ≡ Some r → IsWritten line r
unfolding line_of printed
line_written line r none e =
    either (nat_lt most_line (length line)) _ _ _ e (λ _ e. absurd (none-some r e)) (λ short e.
    either (bytes_eq line (codes "next")) _ _ _ e (λ is e. only_word line Next r is e tt) (λ _ e.
    either (bytes_eq line (codes "turn")) _ _ _ e (λ is e. only_word line Turn r is e tt) (λ _ e.
    either (bytes_eq line (codes "sweep")) _ _ _ e (λ is e. only_word line Sweep r is e tt) (λ _ e.
    either (bytes_eq line (codes "drain")) _ _ _ e (λ is e. only_word line Drain r is e tt) (λ _ e.
    either (bytes_eq line (codes "reopen")) _ _ _ e (λ is e. only_word line Reopen r is e tt) (λ _ e.
    either (bytes_eq line (codes "end")) _ _ _ e (λ is e. only_word line End r is e tt) (λ _ e.
    words_by line (parted line) r refl none (ltb-false most_line (length line) short) e)))))))
