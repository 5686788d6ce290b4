-- Lines of logs: where they end, and that what follows moves none of them.
use Rattle.std.proofs.Common.{◌≡◌, ◌<◌, ◌≤◌, ◌+◌, ◌-◌, ◌++◌, ◌==◌, ℕ, zero, suc, Bool, true, false, nat_lt, List, [], ◌∷◌, Option, Some, None, length, take, drop, position, refl, sym, ap, ◌∙◌, arith, append_assoc, append-nil, length-append, length-drop, length-take}
use Rattle.std.specs.Option.{option_map}
use Rattle.std.proofs.lemmas.Bool.{le-ltb, lt-ltb, ltb-true}
use Rattle.std.proofs.lemmas.List.{drop-drop, take-append-le, drop-append-le}
use Rattle.std.proofs.lemmas.List.Quantifiers.{position-Some}
use Rattle.ow_day.specs.Limits.{most_line}
use Rattle.ow_runners.specs.Program.{is_newline}
use Rattle.ow_day.specs.Day.{FirstLine, LineIs, NoLine, CutLine, Lines, LinesAre, NoLines, CutLines, first_line, line_at, line_in, line_with, lines_in, lines_step, log_text, with_line}
use Rattle.ow_day.specs.Logs.{AreRead, with_lines}
use Rattle.ow_day.proofs.Choices.{is_apart, some_by}
use Rattle.ow_day.proofs.Newlines.{position-append_none, position-append_some}

-- ---- one line

abbrev pub line_extended : List ℕ → FirstLine → FirstLine
line_extended later (LineIs line rest) = LineIs line (rest ++ later)
line_extended later NoLine = NoLine
line_extended later CutLine = CutLine

too_long : (line : List ℕ) → most_line < length line → log_text line ≡ None
too_long line lt = rw (lt-ltb most_line (length line) lt) refl

with_longer : (o : Option (List ℕ)) (rest later : List ℕ) → line_with o (rest ++ later) ≡ line_extended later (line_with o rest)
with_longer None rest later = refl
with_longer (Some line) rest later = refl

long_at : (more : Bool) (bytes later : List ℕ) (o : Option ℕ) → most_line < length bytes → line_in (line_at more (bytes ++ later) (option_map (λ k. length bytes + k) o)) ≡ NoLine
long_at more bytes later None lt =
    let longer : most_line < length (bytes ++ later) = simp length-append (omega arith) in
    rw (lt-ltb most_line (length (bytes ++ later)) longer, too_long (bytes ++ later) longer) refl
long_at more bytes later (Some k) lt =
    let longer : most_line < length (take (length bytes + k) (bytes ++ later)) = omega (arith, length-take (length bytes + k) (bytes ++ later), length-append bytes later) in
    rw (too_long (take (length bytes + k) (bytes ++ later)) longer) refl

line_at_longer : (more : Bool) (bytes later : List ℕ) (o : Option ℕ) (b : Bool) → position is_newline bytes ≡ o → nat_lt most_line (length bytes) ≡ b → (line_in (line_at true bytes o) ≡ CutLine → ⊥)
    → line_in (line_at more (bytes ++ later) (position is_newline (bytes ++ later))) ≡ line_extended later (line_in (line_at true bytes o))
line_at_longer more bytes later (Some k) b is long found =
    let within : k < length bytes = (position-Some is_newline bytes k 0 is).0 in
    let front : take k (bytes ++ later) ≡ take k bytes = take-append-le k bytes later (omega arith) in
    let back : drop (k + 1) (bytes ++ later) ≡ drop (k + 1) bytes ++ later = drop-append-le (k + 1) bytes later (omega arith) in
    rw (position-append_some is_newline bytes later k is, front, back) (with_longer (log_text (take k bytes)) (drop (k + 1) bytes) later)
line_at_longer more bytes later None false is long found = absurd (found (rw long refl))
line_at_longer more bytes later None true is long found =
    let lt : most_line < length bytes = ltb-true most_line (length bytes) long in
    rw (position-append_none is_newline bytes later is, long_at more bytes later (position is_newline later) lt, long, too_long bytes lt) refl

first_by : (more : Bool) (bytes later : List ℕ) (a : Bool) → (length bytes == 0) ≡ a → (first_line true bytes ≡ CutLine → ⊥) → first_line more (bytes ++ later) ≡ line_extended later (first_line true bytes)
unfolding first_line
first_by more bytes later true none found = absurd (found (rw none refl))
first_by more bytes later false some found =
    let enough : 0 < length bytes = some_by (length bytes) some in
    let longer : (length (bytes ++ later) == 0) ≡ false = is_apart (length (bytes ++ later)) 0 (omega (arith, length-append bytes later)) in
    rw (some, longer) (line_at_longer more bytes later _ _ refl refl (λ cut. found (rw some cut)))

-- a line stays, whatever follows
pub line_longer : (more : Bool) (bytes later : List ℕ) → (first_line true bytes ≡ CutLine → ⊥) → first_line more (bytes ++ later) ≡ line_extended later (first_line true bytes)
line_longer more bytes later found = first_by more bytes later (length bytes == 0) refl found

with_last : (o : Option (List ℕ)) (rest : List ℕ) → line_with o rest ≡ CutLine → ⊥
with_last None rest cut = cc
with_last (Some line) rest cut = cc

at_last : (bytes : List ℕ) (o : Option ℕ) (b : Bool) → nat_lt most_line (length bytes) ≡ b → line_in (line_at false bytes o) ≡ CutLine → ⊥
at_last bytes (Some k) b long cut = with_last (log_text (take k bytes)) (drop (k + 1) bytes) cut
at_last bytes None true long cut = with_last (log_text bytes) [] (rw long at cut)
at_last bytes None false long cut = with_last (log_text bytes) [] (rw long at cut)

first_at_last : (bytes : List ℕ) (a : Bool) → (length bytes == 0) ≡ a → first_line false bytes ≡ CutLine → ⊥
unfolding first_line
first_at_last bytes true none cut = let e : NoLine ≡ CutLine = rw none at cut in cc
first_at_last bytes false some cut = at_last bytes (position is_newline bytes) _ refl (rw some at cut)

cut_by : (bytes : List ℕ) (a : Bool) → (length bytes == 0) ≡ a → position is_newline bytes ≡ None → length bytes ≤ most_line → first_line true bytes ≡ CutLine
unfolding first_line
cut_by bytes true empty none short = rw empty refl
cut_by bytes false some none short = rw (some, none, le-ltb most_line (length bytes) short) refl

-- a line without a newline is cut, where more comes and it may still be short enough
pub line_cut : (bytes : List ℕ) → position is_newline bytes ≡ None → length bytes ≤ most_line → first_line true bytes ≡ CutLine
line_cut bytes none short = cut_by bytes (length bytes == 0) refl none short

-- ---- lines

abbrev pub lines_extended : List ℕ → Lines → Lines
lines_extended later (LinesAre lines rest) = LinesAre lines (rest ++ later)
lines_extended later NoLines = NoLines
lines_extended later CutLines = CutLines

one_longer : (line later : List ℕ) (lines : Lines) → with_line line (lines_extended later lines) ≡ lines_extended later (with_line line lines)
one_longer line later (LinesAre lines rest) = refl
one_longer line later NoLines = refl
one_longer line later CutLines = refl

lines_by : (more : Bool) (count : ℕ) (bytes later : List ℕ) (f : FirstLine) → first_line true bytes ≡ f → (lines_in true (suc count) bytes ≡ CutLines → ⊥)
    → ((rest : List ℕ) → (lines_in true count rest ≡ CutLines → ⊥) → lines_in more count (rest ++ later) ≡ lines_extended later (lines_in true count rest))
    → lines_in more (suc count) (bytes ++ later) ≡ lines_extended later (lines_in true (suc count) bytes)
unfolding lines_in
lines_by more count bytes later CutLine is found rest_longer = absurd (found (rw is refl))
lines_by more count bytes later NoLine is found rest_longer =
    let longer : first_line more (bytes ++ later) ≡ NoLine = line_longer more bytes later (λ cut. cc) ∙ ap (line_extended later) is in
    rw (longer, is) refl
lines_by more count bytes later (LineIs line rest) is found rest_longer =
    let longer : first_line more (bytes ++ later) ≡ LineIs line (rest ++ later) = line_longer more bytes later (λ cut. cc) ∙ ap (line_extended later) is in
    rw (longer, is) (ap (with_line line) (rest_longer rest (λ cut. found (rw is (ap (with_line line) cut)))) ∙ one_longer line later (lines_in true count rest))

-- lines stay, whatever follows
pub lines_longer : (more : Bool) (count : ℕ) (bytes later : List ℕ) → (lines_in true count bytes ≡ CutLines → ⊥) → lines_in more count (bytes ++ later) ≡ lines_extended later (lines_in true count bytes)
unfolding lines_in
lines_longer more zero bytes later found = refl
lines_longer more (suc count) bytes later found = lines_by more count bytes later (first_line true bytes) refl found (λ rest uncut. lines_longer more count rest later uncut)

one_last : (line : List ℕ) (lines : Lines) → (lines ≡ CutLines → ⊥) → with_line line lines ≡ CutLines → ⊥
one_last line (LinesAre lines rest) uncut cut = cc
one_last line NoLines uncut cut = cc
one_last line CutLines uncut cut = uncut refl

step_last : (f : FirstLine) (then' : List ℕ → Lines) → (f ≡ CutLine → ⊥) → ((rest : List ℕ) → then' rest ≡ CutLines → ⊥) → lines_step f then' ≡ CutLines → ⊥
step_last CutLine then' uncut rest_uncut cut = uncut refl
step_last NoLine then' uncut rest_uncut cut = cc
step_last (LineIs line rest) then' uncut rest_uncut cut = one_last line (then' rest) (rest_uncut rest) cut

-- where no more bytes come, none is cut
pub lines_last : (count : ℕ) (bytes : List ℕ) → lines_in false count bytes ≡ CutLines → ⊥
unfolding lines_in
lines_last zero bytes cut = cc
lines_last (suc count) bytes cut = step_last (first_line false bytes) (λ rest. lines_in false count rest) (first_at_last bytes (length bytes == 0) refl) (λ rest. lines_last count rest) cut

-- ---- a line more

pub lines_more : (more : Bool) (count : ℕ) (bytes line rest : List ℕ) → 0 < count → first_line more bytes ≡ LineIs line rest → lines_in more count bytes ≡ with_line line (lines_in more (count - 1) rest)
unfolding lines_in
lines_more more zero bytes line rest some is = absurd (omega arith)
lines_more more (suc count) bytes line rest some is =
    let e : suc count - 1 ≡ count = omega arith in
    rw (e, is) refl

pub lines_none : (more : Bool) (count : ℕ) (bytes : List ℕ) → 0 < count → first_line more bytes ≡ NoLine → lines_in more count bytes ≡ NoLines
unfolding lines_in
lines_none more zero bytes some is = absurd (omega arith)
lines_none more (suc count) bytes some is = rw is refl

pub lines_cut : (more : Bool) (count : ℕ) (bytes : List ℕ) → 0 < count → first_line more bytes ≡ CutLine → lines_in more count bytes ≡ CutLines
unfolding lines_in
lines_cut more zero bytes some is = absurd (omega arith)
lines_cut more (suc count) bytes some is = rw is refl

with_one : (done : List (List ℕ)) (line : List ℕ) (lines : Lines) → with_lines done (with_line line lines) ≡ with_lines (done ++ line ∷ []) lines
with_one done line (LinesAre lines rest) = ap (λ all. LinesAre all rest) (sym (append_assoc done (line ∷ []) lines))
with_one done line NoLines = refl
with_one done line CutLines = refl

-- lines that are found are found where no more bytes come
pub found_last : (more : Bool) (count : ℕ) (bytes : List ℕ) (lines : List (List ℕ)) (rest : List ℕ) → lines_in more count bytes ≡ LinesAre lines rest → lines_in false count bytes ≡ LinesAre lines rest
found_last false count bytes lines rest e = e
found_last true count bytes lines rest e =
    ap (lines_in false count) (sym (append-nil bytes)) ∙ lines_longer false count bytes [] (λ cut. cc) ∙ rw e (ap (LinesAre lines) (append-nil rest))

-- lines are cut only where more bytes come
pub cut_more : (more : Bool) (count : ℕ) (bytes : List ℕ) → lines_in more count bytes ≡ CutLines → more ≡ true
cut_more true count bytes cut = refl
cut_more false count bytes cut = absurd (lines_last count bytes cut)

-- ---- lines that are read one after the other

with_none : (lines : Lines) → lines ≡ with_lines [] lines
with_none (LinesAre lines rest) = refl
with_none NoLines = refl
with_none CutLines = refl

pub none_read : (more : Bool) (count : ℕ) (bytes : List ℕ) → AreRead more count bytes [] count 0
none_read more count bytes = record { within = omega arith; is = with_none (lines_in more count bytes) }

pub one_read : (more : Bool) (count left from used : ℕ) (bytes line : List ℕ) (done : List (List ℕ)) → 0 < left → first_line more (drop from bytes) ≡ LineIs line (drop used (drop from bytes)) → used ≤ length (drop from bytes)
    → AreRead more count bytes done left from → AreRead more count bytes (done ++ line ∷ []) (left - 1) (from + used)
one_read more count left from used bytes line done some is short r = record {
  within = omega (arith, r.within, short, length-drop from bytes);
  is = r.is ∙ ap (with_lines done) (lines_more more left (drop from bytes) line (drop used (drop from bytes)) some is)
      ∙ with_one done line (lines_in more (left - 1) (drop used (drop from bytes)))
      ∙ ap (λ rest. with_lines (done ++ line ∷ []) (lines_in more (left - 1) rest)) (drop-drop used from bytes);
}

pub all_read : (more : Bool) (count left from : ℕ) (bytes : List ℕ) (done : List (List ℕ)) → left ≡ 0 → AreRead more count bytes done left from → lines_in more count bytes ≡ LinesAre done (drop from bytes)
unfolding lines_in
all_read more count left from bytes done none r = r.is ∙ ap (λ n. with_lines done (lines_in more n (drop from bytes))) none ∙ ap (λ all. LinesAre all (drop from bytes)) (append-nil done)

pub none_is : (more : Bool) (count left from : ℕ) (bytes : List ℕ) (done : List (List ℕ)) → 0 < left → first_line more (drop from bytes) ≡ NoLine → AreRead more count bytes done left from → lines_in more count bytes ≡ NoLines
none_is more count left from bytes done some is r = r.is ∙ ap (with_lines done) (lines_none more left (drop from bytes) some is)

pub cut_is : (more : Bool) (count left from : ℕ) (bytes : List ℕ) (done : List (List ℕ)) → 0 < left → first_line more (drop from bytes) ≡ CutLine → AreRead more count bytes done left from → lines_in more count bytes ≡ CutLines
cut_is more count left from bytes done some is r = r.is ∙ ap (with_lines done) (lines_cut more left (drop from bytes) some is)
