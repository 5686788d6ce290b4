-- The statements of a day file, and what its lines are.
use Rattle.std.specs.Prelude.{◌==◌, ◌+◌, ℕ, nat_lt, List, Option, Some, None, if◌then◌else◌, length, take, drop, position, codes}
use Rattle.std.specs.Str.{bytes_eq, is_utf8}
use Rattle.ow_value.specs.Decimal.{decimal_of}
use Rattle.ow_keep.specs.declared.allowed.TheConstants.{GREATEST_MOMENT}
use Rattle.ow_records.specs.declared.ids.Id.{Id}
use Rattle.ow_records.specs.LowerId.{id_of_lower}
use Rattle.ow_day.specs.Limits.{most_line}

pub data Statement : Type 0 where
  At : (moment : ℕ) → Statement
  Call : (name text : List ℕ) → Statement
  Ask : (request : List ℕ) → Statement
  Next : Statement
  Begun : (run : ℕ) → Statement
  Answer : (run : ℕ) (text : List ℕ) → Statement
  Logged : (run : ℕ) (text : List ℕ) (logs : List (List ℕ)) → Statement
  Exit : (run code : ℕ) → Statement
  NoStart : (run : ℕ) (text : List ℕ) → Statement
  Fault : (run : ℕ) → Statement
  Lost : (run : ℕ) → Statement
  Gone : (slot generation : ℕ) → Statement
  Sweep : Statement
  Collect : (id : Id) → Statement
  Turn : Statement
  Drain : Statement
  Reopen : Statement
  End : Statement

-- what a line is: a whole statement, or the head of a request of `count` bytes after it, or the head of `count` lines of logs
-- after it
pub data Reading : Type 0 where
  Whole : (statement : Statement) → Reading
  Asks : (count : ℕ) → Reading
  Logs : (run count : ℕ) (text : List ℕ) → Reading

abbrev pub parted_at : List ℕ → Option ℕ → Option (List ℕ × List ℕ)
parted_at line None = None
parted_at line (Some k) = Some (take k line, drop (k + 1) line)

-- the word up to the first space, and what follows the space
unfoldable pub parted : List ℕ → Option (List ℕ × List ℕ)
parted line = parted_at line (position (λ c. c == 32) line)

-- the bytes, where they are UTF-8
abbrev pub utf8_text : List ℕ → Option (List ℕ)
utf8_text bytes = if is_utf8 bytes then Some bytes else None

abbrev pub called : Option (List ℕ) → Option (List ℕ) → Option Reading
called None text = None
called (Some name) None = None
called (Some name) (Some text) = Some (Whole (Call name text))

abbrev pub call_in : Option (List ℕ × List ℕ) → Option Reading
call_in None = None
call_in (Some parts) = if length parts.0 == 0 then None else called (utf8_text parts.0) (utf8_text parts.1)

-- `call NAME TEXT`: the name is a word, and the rest of the line the text
unfoldable pub call_of : List ℕ → Option Reading
call_of rest = call_in (parted rest)

abbrev pub with_number : Option ℕ → List ℕ → Option (ℕ × List ℕ)
with_number None text = None
with_number (Some n) text = Some (n, text)

abbrev pub numbered_in : Option (List ℕ × List ℕ) → Option (ℕ × List ℕ)
numbered_in None = None
numbered_in (Some parts) = with_number (decimal_of parts.0) parts.1

-- the number before the first space, and what follows the space
unfoldable pub numbered : List ℕ → Option (ℕ × List ℕ)
numbered rest = numbered_in (parted rest)

abbrev pub answered : ℕ → Option (List ℕ) → Option Reading
answered run None = None
answered run (Some text) = Some (Whole (Answer run text))

abbrev pub answer_in : Option (ℕ × List ℕ) → Option Reading
answer_in None = None
answer_in (Some parts) = answered parts.0 (utf8_text parts.1)

-- `answer RUN TEXT`
unfoldable pub answer_of : List ℕ → Option Reading
answer_of rest = answer_in (numbered rest)

abbrev pub unstarted : ℕ → Option (List ℕ) → Option Reading
unstarted run None = None
unstarted run (Some text) = Some (Whole (NoStart run text))

abbrev pub no_start_in : Option (ℕ × List ℕ) → Option Reading
no_start_in None = None
no_start_in (Some parts) = unstarted parts.0 (utf8_text parts.1)

-- `nostart RUN TEXT`
unfoldable pub no_start_of : List ℕ → Option Reading
no_start_of rest = no_start_in (numbered rest)

abbrev pub logged : ℕ → ℕ → Option (List ℕ) → Option Reading
logged run count None = None
logged run count (Some text) = Some (Logs run count text)

abbrev pub logs_in : ℕ → Option (ℕ × List ℕ) → Option Reading
logs_in run None = None
logs_in run (Some parts) = logged run parts.0 (utf8_text parts.1)

abbrev pub logged_in : Option (ℕ × List ℕ) → Option Reading
logged_in None = None
logged_in (Some parts) = logs_in parts.0 (numbered parts.1)

-- `logged RUN COUNT TEXT`
unfoldable pub logged_of : List ℕ → Option Reading
logged_of rest = logged_in (numbered rest)

abbrev pub exited : ℕ → Option ℕ → Option Reading
exited run None = None
exited run (Some code) = if nat_lt 255 code then None else Some (Whole (Exit run code))

abbrev pub exit_in : Option (ℕ × List ℕ) → Option Reading
exit_in None = None
exit_in (Some parts) = exited parts.0 (decimal_of parts.1)

-- `exit RUN CODE`: a program's status, up to 255
unfoldable pub exit_of : List ℕ → Option Reading
exit_of rest = exit_in (numbered rest)

abbrev pub failed : Option ℕ → Option Reading
failed None = None
failed (Some run) = Some (Whole (Fault run))

-- `fault RUN`
unfoldable pub fault_of : List ℕ → Option Reading
fault_of rest = failed (decimal_of rest)

abbrev pub begun : Option ℕ → Option Reading
begun None = None
begun (Some run) = Some (Whole (Begun run))

-- `begun RUN`
unfoldable pub begun_of : List ℕ → Option Reading
begun_of rest = begun (decimal_of rest)

abbrev pub lost : Option ℕ → Option Reading
lost None = None
lost (Some run) = Some (Whole (Lost run))

-- `lost RUN`
unfoldable pub lost_of : List ℕ → Option Reading
lost_of rest = lost (decimal_of rest)

abbrev pub gone : ℕ → Option ℕ → Option Reading
gone slot None = None
gone slot (Some generation) = if nat_lt 4294967295 slot then None
    else (if nat_lt 4294967295 generation then None else Some (Whole (Gone slot generation)))

abbrev pub gone_in : Option (ℕ × List ℕ) → Option Reading
gone_in None = None
gone_in (Some parts) = gone parts.0 (decimal_of parts.1)

-- `gone SLOT GENERATION`: each a number of 32 bits
unfoldable pub gone_of : List ℕ → Option Reading
gone_of rest = gone_in (numbered rest)

abbrev pub at_moment : Option ℕ → Option Reading
at_moment None = None
at_moment (Some moment) = if nat_lt GREATEST_MOMENT moment then None else Some (Whole (At moment))

-- `at MOMENT`: milliseconds, up to the last of the year 9999
unfoldable pub at_of : List ℕ → Option Reading
at_of rest = at_moment (decimal_of rest)

abbrev pub asks_for : Option ℕ → Option Reading
asks_for None = None
asks_for (Some count) = if nat_lt most_line count then None else Some (Asks count)

-- `ask N`: at most 8,388,608 bytes
unfoldable pub ask_of : List ℕ → Option Reading
ask_of rest = asks_for (decimal_of rest)

abbrev pub collected : Option Id → Option Reading
collected None = None
collected (Some id) = Some (Whole (Collect id))

-- `collect ID`
unfoldable pub collect_of : List ℕ → Option Reading
collect_of rest = collected (id_of_lower rest)

-- a line that reports on a container
unfoldable pub container_of : List ℕ → List ℕ → Option Reading
container_of word rest = if bytes_eq word (codes "begun") then begun_of rest
    else (if bytes_eq word (codes "lost") then lost_of rest
    else (if bytes_eq word (codes "gone") then gone_of rest else None))

-- the line of another reply of a runner
unfoldable pub reply_of : List ℕ → List ℕ → Option Reading
reply_of word rest = if bytes_eq word (codes "logged") then logged_of rest
    else (if bytes_eq word (codes "exit") then exit_of rest
    else (if bytes_eq word (codes "nostart") then no_start_of rest
    else (if bytes_eq word (codes "fault") then fault_of rest else container_of word rest)))

-- the line that begins with this word, and goes on with the rest
unfoldable pub worded : List ℕ → List ℕ → Option Reading
worded word rest = if bytes_eq word (codes "call") then call_of rest
    else (if bytes_eq word (codes "answer") then answer_of rest
    else (if bytes_eq word (codes "at") then at_of rest
    else (if bytes_eq word (codes "ask") then ask_of rest
    else (if bytes_eq word (codes "collect") then collect_of rest else reply_of word rest))))

abbrev pub worded_in : Option (List ℕ × List ℕ) → Option Reading
worded_in None = None
worded_in (Some parts) = worded parts.0 parts.1

-- what a line is, which has no newline
unfoldable pub line_of : List ℕ → Option Reading
line_of line = if nat_lt most_line (length line) then None
    else (if bytes_eq line (codes "next") then Some (Whole Next)
    else (if bytes_eq line (codes "turn") then Some (Whole Turn)
    else (if bytes_eq line (codes "sweep") then Some (Whole Sweep)
    else (if bytes_eq line (codes "drain") then Some (Whole Drain)
    else (if bytes_eq line (codes "reopen") then Some (Whole Reopen)
    else (if bytes_eq line (codes "end") then Some (Whole End)
    else worded_in (parted line)))))))
