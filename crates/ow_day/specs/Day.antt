-- The day file: its statements, and how it ends.
use Rattle.std.specs.Prelude.{◌+◌, ◌++◌, ◌==◌, ◌&&◌, ℕ, Bool, true, false, not, nat_lt, List, [], ◌∷◌, Option, Some, None, if◌then◌else◌, length, take, drop, position, slice_index}
use Rattle.std.proofs.Common.{zero, suc}
use Rattle.ow_day.specs.Limits.{most_bytes, most_line}
use Rattle.ow_runners.specs.Program.{is_newline}
use Rattle.ow_day.specs.Statement.{Statement, Ask, Logged, End, Reading, Whole, Asks, Logs, line_of, utf8_text}

pub data DayEnd : Type 0 where
  Finished : DayEnd
  Bad : (statement : ℕ) → DayEnd
  TooLong : DayEnd

-- the statements of a day up to its `end`, to the first that is none, or to its last, and how it ends
pub record Day : Type 0 where
  pub statements : List Statement
  pub ending : DayEnd

-- a day that ends here
abbrev pub ended : DayEnd → Day
ended ending = record { statements = []; ending = ending }

-- the day with these statements before its own
abbrev pub with_statements : List Statement → Day → Day
with_statements done day = record { statements = done ++ day.statements; ending = day.ending }

-- how bytes begin: with a statement, whose following bytes are `rest`; with no statement; or with one that is cut, since more
-- bytes come that aren't looked at
pub data First : Type 0 where
  Found : (statement : Statement) (rest : List ℕ) → First
  Wrong : First
  Cut : First

-- the line up to a newline, and what follows it. Without one all is the line; but where more bytes come that aren't
-- looked at, a line that may still be short enough has no end
abbrev pub line_at : Bool → List ℕ → Option ℕ → Option (List ℕ × List ℕ)
line_at more bytes (Some k) = Some (take k bytes, drop (k + 1) bytes)
line_at more bytes None = if not (nat_lt most_line (length bytes)) && more then None else Some (bytes, [])

-- ---- lines of logs

-- the first line of logs in bytes, and what follows it; or that there is none; or that it is cut
pub data FirstLine : Type 0 where
  LineIs : (line rest : List ℕ) → FirstLine
  NoLine : FirstLine
  CutLine : FirstLine

-- lines of logs and what follows them; or that one of them is no line of logs; or that they are cut
pub data Lines : Type 0 where
  LinesAre : (lines : List (List ℕ)) (rest : List ℕ) → Lines
  NoLines : Lines
  CutLines : Lines

-- a line is UTF-8, and no longer than any line
abbrev pub log_text : List ℕ → Option (List ℕ)
log_text line = if nat_lt most_line (length line) then None else utf8_text line

abbrev pub line_with : Option (List ℕ) → List ℕ → FirstLine
line_with None rest = NoLine
line_with (Some line) rest = LineIs line rest

abbrev pub line_in : Option (List ℕ × List ℕ) → FirstLine
line_in None = CutLine
line_in (Some parts) = line_with (log_text parts.0) parts.1

-- a line ends at a newline, or at the end of the day, where it has at least one byte
unfoldable pub first_line : Bool → List ℕ → FirstLine
first_line more bytes = if length bytes == 0 then (if more then CutLine else NoLine)
    else line_in (line_at more bytes (position is_newline bytes))

abbrev pub with_line : List ℕ → Lines → Lines
with_line line (LinesAre lines rest) = LinesAre (line ∷ lines) rest
with_line line NoLines = NoLines
with_line line CutLines = CutLines

abbrev pub lines_step : FirstLine → (List ℕ → Lines) → Lines
lines_step CutLine then' = CutLines
lines_step NoLine then' = NoLines
lines_step (LineIs line rest) then' = with_line line (then' rest)

-- the first `count` lines of bytes
unfoldable pub lines_in : Bool → ℕ → List ℕ → Lines
lines_in more zero bytes = LinesAre [] bytes
lines_in more (suc count) bytes = lines_step (first_line more bytes) (λ rest. lines_in more count rest)

-- ---- statements

-- what is so only at the end of the day
abbrev pub at_end : Bool → First → First
at_end true first = Cut
at_end false first = first

-- the first `count` of these bytes are a request: a newline follows them, or the end of the day
unfoldable pub asked : Bool → ℕ → List ℕ → First
asked more count bytes = if nat_lt (length bytes) count then at_end more Wrong
    else (if length bytes == count then at_end more (Found (Ask bytes) [])
    else (if slice_index bytes count == 10 then Found (Ask (take count bytes)) (drop (count + 1) bytes) else Wrong))

-- these lines are reported with a runner's answer
abbrev pub logged : ℕ → List ℕ → Lines → First
logged run text (LinesAre lines rest) = Found (Logged run text lines) rest
logged run text NoLines = Wrong
logged run text CutLines = Cut

-- what a line and the bytes after it begin with
abbrev pub behind_line : Bool → Option Reading → List ℕ → First
behind_line more None rest = Wrong
behind_line more (Some (Whole statement)) rest = Found statement rest
behind_line more (Some (Asks count)) rest = asked more count rest
behind_line more (Some (Logs run count text)) rest = logged run text (lines_in more count rest)

abbrev pub first_in : Bool → Option (List ℕ × List ℕ) → First
first_in more None = Cut
first_in more (Some parts) = behind_line more (line_of parts.0) parts.1

-- the first statement of bytes
unfoldable pub first_statement : Bool → List ℕ → First
first_statement more bytes = first_in more (line_at more bytes (position is_newline bytes))

-- `end` ends the day, and the statements of the rest follow any other
abbrev pub going_on : Statement → Day → Day
going_on End day = ended Finished
going_on s day = with_statements (s ∷ []) day

abbrev pub day_step : ℕ → First → (List ℕ → Day) → Day
day_step n Cut then' = ended TooLong
day_step n Wrong then' = ended (Bad n)
day_step n (Found s rest) then' = going_on s (then' rest)

-- the statements from the nth on, and at most as many as the first number says
unfoldable pub day_from : ℕ → Bool → ℕ → List ℕ → Day
day_from zero more n bytes = ended Finished
day_from (suc count) more n [] = ended (if more then TooLong else Finished)
day_from (suc count) more n (c ∷ cs) = day_step n (first_statement more (c ∷ cs)) (λ rest. day_from count more (n + 1) rest)

-- the bytes of a day that are looked at
unfoldable pub window : List ℕ → List ℕ
window bytes = take most_bytes bytes

-- whether more bytes follow those
unfoldable pub has_more : List ℕ → Bool
has_more bytes = nat_lt most_bytes (length bytes)

-- the day of these bytes: they have fewer statements than one more than there are bytes
abbrev pub day_of : List ℕ → Day
day_of bytes = day_from (length (window bytes) + 1) (has_more bytes) 1 (window bytes)
