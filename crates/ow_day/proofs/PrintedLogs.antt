-- Lines of logs as they are printed and read.
use Rattle.std.proofs.Common.{◌≡◌, ◌⊎◌, ℕ, zero, suc, ◌==◌, ◌&&◌, ◌<◌, ◌+◌, ◌-◌, Bool, true, false, not, nat_lt, if◌then◌else◌, List, [], ◌∷◌, ◌++◌, length, take, drop, position, Option, Some, None, inl, inr, refl, sym, ap, ◌∙◌, subst, arith, append_assoc, append-nil, length-append}
use Rattle.std.specs.List.{All}
use Rattle.std.specs.Str.{is_utf8}
use Rattle.std.proofs.lemmas.Bool.{le-ltb, ltb-false}
use Rattle.std.proofs.lemmas.List.Elements.{All-cons, All-head, All-nil, All-tail}
use Rattle.std.proofs.lemmas.Str.{IsUtf8-from_is_utf8, is_utf8-from_IsUtf8}
use Rattle.ow_day.specs.Limits.{most_line}
use Rattle.ow_runners.specs.Program.{is_newline}
use Rattle.ow_day.specs.Day.{FirstLine, LineIs, NoLine, CutLine, Lines, LinesAre, NoLines, CutLines, first_line, line_at, line_in, line_with, lines_in, lines_step, log_text, with_line}
use Rattle.ow_day.specs.Printed.{EndsInByte, HasNo, IsLogLine, printed_logs}
use Rattle.ow_day.proofs.Choices.{is_apart}
use Rattle.ow_day.proofs.Logging.{lines_more}
use Rattle.ow_day.proofs.Parting.{back_of, first_behind, front_of, none_there, nowhere, split_at}

-- ---- what is printed is read

-- what follows the line before the lines of logs
abbrev pub rest_of : List (List ℕ) → List ℕ → List ℕ
rest_of [] later = later
rest_of (line ∷ lines) later = line ++ 10 ∷ rest_of lines later

pub tail_of : (logs : List (List ℕ)) (later : List ℕ) → printed_logs logs ++ 10 ∷ later ≡ 10 ∷ rest_of logs later
tail_of [] later = refl
tail_of (line ∷ lines) later = ap (λ t. 10 ∷ t) (append_assoc line (printed_logs lines) (10 ∷ later) ∙ ap (λ t. line ++ t) (tail_of lines later))

log_read : (line : List ℕ) → IsLogLine line → log_text line ≡ Some line
log_read line can = rw (le-ltb most_line (length line) can.most, is_utf8-from_IsUtf8 line can.text.utf8) refl

line_before : (more : Bool) (line later : List ℕ) → IsLogLine line → first_line more (line ++ 10 ∷ later) ≡ LineIs line later
unfolding first_line
line_before more line later can =
    let some : (length (line ++ 10 ∷ later) == 0) ≡ false = is_apart (length (line ++ 10 ∷ later)) 0 (omega (arith, length-append line (10 ∷ later))) in
    rw (some, first_behind 10 line later (none_there 10 line can.text.newline), front_of line later 10, back_of line later 10, log_read line can) refl

line_last : (line : List ℕ) → IsLogLine line → 0 < length line → first_line false line ≡ LineIs line []
unfolding first_line
line_last line can enough =
    let some : (length line == 0) ≡ false = is_apart (length line) 0 enough in
    rw (some, none_there 10 line can.text.newline, le-ltb most_line (length line) can.most, log_read line can) refl

next_line : (more : Bool) (line bytes rest : List ℕ) (lines : List (List ℕ)) (later : List ℕ) → first_line more bytes ≡ LineIs line rest → lines_in more (length lines) rest ≡ LinesAre lines later
    → lines_in more (length (line ∷ lines)) bytes ≡ LinesAre (line ∷ lines) later
next_line more line bytes rest lines later is rest_is =
    let e : length (line ∷ lines) - 1 ≡ length lines = omega arith in
    lines_more more (length (line ∷ lines)) bytes line rest (omega arith) is ∙ rw e (ap (with_line line) rest_is)

pub logs_before : (more : Bool) (logs : List (List ℕ)) (later : List ℕ) → All IsLogLine logs → lines_in more (length logs) (rest_of logs later) ≡ LinesAre logs later
unfolding lines_in
logs_before more [] later can = refl
logs_before more (line ∷ lines) later can =
    next_line more line (line ++ 10 ∷ rest_of lines later) (rest_of lines later) lines later (line_before more line (rest_of lines later) (All-head IsLogLine line lines can))
    (logs_before more lines later (All-tail IsLogLine line lines can))

none_last : (bytes : List ℕ) → lines_in false 0 bytes ≡ LinesAre [] bytes
unfolding lines_in
none_last bytes = refl

pub logs_last : (line : List ℕ) (lines : List (List ℕ)) → All IsLogLine (line ∷ lines) → EndsInByte (line ∷ lines) → lines_in false (length (line ∷ lines)) (line ++ printed_logs lines) ≡ LinesAre (line ∷ lines) []
logs_last line [] can ends =
    let same : line ++ printed_logs [] ≡ line = append-nil line in
    ap (lines_in false 1) same ∙ next_line false line line [] [] [] (line_last line (All-head IsLogLine line [] can) ends) (none_last [])
logs_last line (next ∷ lines) can ends =
    next_line false line (line ++ 10 ∷ (next ++ printed_logs lines)) (next ++ printed_logs lines) (next ∷ lines) []
    (line_before false line (next ++ printed_logs lines) (All-head IsLogLine line (next ∷ lines) can))
    (logs_last next lines (All-tail IsLogLine line (next ∷ lines) can) ends)

-- ---- what is read was printed

-- where a line of logs ends
abbrev pub IsLineAt : List ℕ → List ℕ → List ℕ → Type 0
IsLineAt bytes line rest = (bytes ≡ line ++ 10 ∷ rest) ⊎ (bytes ≡ line) × (rest ≡ [])

same_line : (line l rest r : List ℕ) → LineIs line rest ≡ LineIs l r → (line ≡ l) × (rest ≡ r)
same_line line l rest r e = (cc, cc)

text_by : (line l rest r : List ℕ) (long utf8 : Bool) → HasNo 10 line → nat_lt most_line (length line) ≡ long → is_utf8 line ≡ utf8
    → line_with (if long then None else (if utf8 then Some line else None)) rest ≡ LineIs l r → IsLogLine l × (line ≡ l) × (rest ≡ r)
text_by line l rest r true utf8 none short u e = let never : NoLine ≡ LineIs l r = e in cc
text_by line l rest r false false none short u e = let never : NoLine ≡ LineIs l r = e in cc
text_by line l rest r false true none short u e =
    let same = same_line line l rest r e in
    (subst IsLogLine same.0 (record { text = record { utf8 = IsUtf8-from_is_utf8 line u; newline = none }; most = ltb-false most_line (length line) short }), same.0, same.1)

text_at : (line l rest r : List ℕ) → HasNo 10 line → line_with (log_text line) rest ≡ LineIs l r → IsLogLine l × (line ≡ l) × (rest ≡ r)
text_at line l rest r none e = text_by line l rest r (nat_lt most_line (length line)) (is_utf8 line) none refl refl e

uncut_by : (bytes l r : List ℕ) (cut : Bool) → position is_newline bytes ≡ None → line_in (if cut then None else Some (bytes, [])) ≡ LineIs l r → IsLogLine l × IsLineAt bytes l r
uncut_by bytes l r true is e = let never : CutLine ≡ LineIs l r = e in cc
uncut_by bytes l r false is e =
    let known = text_at bytes l [] r (nowhere 10 bytes is) e in
    (known.0, inr (known.1, sym known.2))

place_by : (more : Bool) (bytes l r : List ℕ) (o : Option ℕ) → position is_newline bytes ≡ o → line_in (line_at more bytes o) ≡ LineIs l r → IsLogLine l × IsLineAt bytes l r
place_by more bytes l r (Some k) is e =
    let at = split_at 10 bytes k is in
    let known = text_at (take k bytes) l (drop (k + 1) bytes) r at.1 e in
    (known.0, inl (at.0 ∙ (λ i. known.1 i ++ 10 ∷ known.2 i)))
place_by more bytes l r None is e = uncut_by bytes l r (not (nat_lt most_line (length bytes)) && more) is e

nothing_by : (more : Bool) (l r : List ℕ) → (if more then CutLine else NoLine) ≡ LineIs l r → ⊥
nothing_by true l r e = cc
nothing_by false l r e = cc

line_by : (more : Bool) (bytes l r : List ℕ) (empty : Bool) → (length bytes == 0) ≡ empty → first_line more bytes ≡ LineIs l r → IsLogLine l × IsLineAt bytes l r
unfolding first_line
line_by more bytes l r true is e = absurd (nothing_by more l r (rw is at e))
line_by more bytes l r false is e = place_by more bytes l r (position is_newline bytes) refl (rw is at e)

line_found : (more : Bool) (bytes l r : List ℕ) → first_line more bytes ≡ LineIs l r → IsLogLine l × IsLineAt bytes l r
line_found more bytes l r e = line_by more bytes l r (length bytes == 0) refl e

-- `count` lines were printed, and these bytes follow the newline before them
pub record ArePrinted (count : ℕ) (bytes : List ℕ) (logs : List (List ℕ)) (later : List ℕ) : Type 0 where
  pub all : All IsLogLine logs
  pub size : length logs ≡ count
  pub ends : (10 ∷ bytes ≡ printed_logs logs ++ 10 ∷ later) ⊎ (later ≡ []) × (10 ∷ bytes ≡ printed_logs logs)

no_line : (more : Bool) (l r : List ℕ) → first_line more [] ≡ LineIs l r → ⊥
unfolding first_line
no_line more l r e = nothing_by more l r e

none_by : (more : Bool) (count : ℕ) (logs : List (List ℕ)) (later : List ℕ) (f : FirstLine) → first_line more [] ≡ f → lines_step f (λ rest. lines_in more count rest) ≡ LinesAre logs later → ⊥
none_by more count logs later CutLine is e = let never : CutLines ≡ LinesAre logs later = e in cc
none_by more count logs later NoLine is e = let never : NoLines ≡ LinesAre logs later = e in cc
none_by more count logs later (LineIs l r) is e = no_line more l r is

same_lines : (lines logs : List (List ℕ)) (rest later : List ℕ) → LinesAre lines rest ≡ LinesAre logs later → (lines ≡ logs) × (rest ≡ later)
same_lines lines logs rest later e = (cc, cc)

-- no bytes have no line
pub of_nothing : (more : Bool) (count : ℕ) (logs : List (List ℕ)) (later : List ℕ) → lines_in more count [] ≡ LinesAre logs later → (count ≡ 0) × (logs ≡ []) × (later ≡ [])
unfolding lines_in
of_nothing more zero logs later e =
    let same = same_lines [] logs [] later e in
    (refl, sym same.0, sym same.1)
of_nothing more (suc count) logs later e = absurd (none_by more count logs later (first_line more []) refl e)

ends_with : (bytes l r later : List ℕ) (ls : List (List ℕ)) (count : ℕ) → IsLineAt bytes l r → (r ≡ [] → (ls ≡ []) × (later ≡ [])) → ArePrinted count r ls later
    → (10 ∷ bytes ≡ printed_logs (l ∷ ls) ++ 10 ∷ later) ⊎ (later ≡ []) × (10 ∷ bytes ≡ printed_logs (l ∷ ls))
ends_with bytes l r later ls count (inl before) none p = elim p.ends [
  | inl e ↦ inl (ap (λ t. 10 ∷ t) before ∙ ap (λ t. 10 ∷ (l ++ t)) e ∙ ap (λ t. 10 ∷ t) (sym (append_assoc l (printed_logs ls) (10 ∷ later))))
  | inr last ↦ inr (last.0, ap (λ t. 10 ∷ t) before ∙ ap (λ t. 10 ∷ (l ++ t)) last.1)
]
ends_with bytes l r later ls count (inr (all, nothing)) none p =
    let e = none nothing in
    inr (e.1, ap (λ t. 10 ∷ t) (all ∙ sym (append-nil l)) ∙ ap (λ x. 10 ∷ (l ++ printed_logs x)) (sym e.0))

one_more : (more : Bool) (count : ℕ) (bytes l r later : List ℕ) (ls : List (List ℕ)) → IsLogLine l × IsLineAt bytes l r → lines_in more count r ≡ LinesAre ls later → ArePrinted count r ls later
    → ArePrinted (suc count) bytes (l ∷ ls) later
one_more more count bytes l r later ls (can, at) is p = record {
  all = All-cons IsLogLine l ls can p.all;
  size = omega (arith, p.size);
  ends = ends_with bytes l r later ls count at (λ none. let e = of_nothing more count ls later (subst (λ x. lines_in more count x ≡ LinesAre ls later) none is) in (e.1, e.2)) p;
}

with_by : (more : Bool) (count : ℕ) (bytes l r later : List ℕ) (logs : List (List ℕ)) (x : Lines) → lines_in more count r ≡ x → IsLogLine l × IsLineAt bytes l r
    → ((ls : List (List ℕ)) (rest : List ℕ) → lines_in more count r ≡ LinesAre ls rest → ArePrinted count r ls rest) → with_line l x ≡ LinesAre logs later → ArePrinted (suc count) bytes logs later
with_by more count bytes l r later logs NoLines is at rest_printed e = let never : NoLines ≡ LinesAre logs later = e in cc
with_by more count bytes l r later logs CutLines is at rest_printed e = let never : CutLines ≡ LinesAre logs later = e in cc
with_by more count bytes l r later logs (LinesAre ls rest) is at rest_printed e =
    let same = same_lines (l ∷ ls) logs rest later e in
    let p : ArePrinted (suc count) bytes (l ∷ ls) rest = one_more more count bytes l r rest ls at is (rest_printed ls rest is) in
    subst (λ t. ArePrinted (suc count) bytes logs t) same.1 (subst (λ t. ArePrinted (suc count) bytes t rest) same.0 p)

step_by : (more : Bool) (count : ℕ) (bytes later : List ℕ) (logs : List (List ℕ)) (f : FirstLine) → first_line more bytes ≡ f
    → ((r : List ℕ) (ls : List (List ℕ)) (rest : List ℕ) → lines_in more count r ≡ LinesAre ls rest → ArePrinted count r ls rest)
    → lines_step f (λ rest. lines_in more count rest) ≡ LinesAre logs later → ArePrinted (suc count) bytes logs later
step_by more count bytes later logs CutLine is rest_printed e = let never : CutLines ≡ LinesAre logs later = e in cc
step_by more count bytes later logs NoLine is rest_printed e = let never : NoLines ≡ LinesAre logs later = e in cc
step_by more count bytes later logs (LineIs l r) is rest_printed e =
    with_by more count bytes l r later logs (lines_in more count r) refl (line_found more bytes l r is) (rest_printed r) e

pub lines_printed : (more : Bool) (count : ℕ) (bytes : List ℕ) (logs : List (List ℕ)) (later : List ℕ) → lines_in more count bytes ≡ LinesAre logs later → ArePrinted count bytes logs later
unfolding lines_in
lines_printed more zero bytes logs later e =
    let same = same_lines [] logs bytes later e in
    let p : ArePrinted 0 bytes [] bytes = record { all = All-nil IsLogLine; size = refl; ends = inl refl } in
    subst (λ t. ArePrinted 0 bytes logs t) same.1 (subst (λ t. ArePrinted 0 bytes t bytes) same.0 p)
lines_printed more (suc count) bytes logs later e =
    step_by more count bytes later logs (first_line more bytes) refl (λ r ls rest is. lines_printed more count r ls rest is) e
