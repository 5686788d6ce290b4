-- How the statements of a day are written, and which can be.
use Rattle.std.specs.Prelude.{◌≡◌, ◌⊎◌, ◌==◌, ◌++◌, ◌^◌, ◌<◌, ◌≤◌, ℕ, Bool, false, List, [], ◌∷◌, length, codes}
use Rattle.std.specs.Fmt.{decimal}
use Rattle.std.specs.List.{All, flat_map}
use Rattle.std.specs.Str.{IsUtf8}
use Rattle.ow_records.specs.Id.{id_text}
use Rattle.ow_keep.specs.declared.allowed.TheConstants.{GREATEST_MOMENT}
use Rattle.ow_day.specs.Limits.{most_line}
use Rattle.ow_day.specs.Statement.{Statement, At, Call, Ask, Next, Begun, Answer, Logged, Exit, NoStart, Fault, Lost, Gone, Sweep, Turn, Collect, Drain, Reopen, End}
use Rattle.ow_day.specs.Day.{Finished, Found, first_statement, day_of}

-- the lines of logs, each with a newline before it
abbrev pub printed_logs : List (List ℕ) → List ℕ
printed_logs [] = []
printed_logs (line ∷ lines) = codes "\n" ++ (line ++ printed_logs lines)

-- the line before `count` lines of logs
abbrev pub logs_head : ℕ → ℕ → List ℕ → List ℕ
logs_head run count text = codes "logged " ++ (decimal run ++ (codes " " ++ (decimal count ++ (codes " " ++ text))))

-- a statement, without the newline after it
unfoldable pub printed : Statement → List ℕ
printed (At moment) = codes "at " ++ decimal moment
printed (Call name text) = codes "call " ++ (name ++ (codes " " ++ text))
printed (Ask request) = codes "ask " ++ (decimal (length request) ++ (codes "\n" ++ request))
printed Next = codes "next"
printed (Begun run) = codes "begun " ++ decimal run
printed (Answer run text) = codes "answer " ++ (decimal run ++ (codes " " ++ text))
printed (Logged run text logs) = logs_head run (length logs) text ++ printed_logs logs
printed (Exit run code) = codes "exit " ++ (decimal run ++ (codes " " ++ decimal code))
printed (NoStart run text) = codes "nostart " ++ (decimal run ++ (codes " " ++ text))
printed (Fault run) = codes "fault " ++ decimal run
printed (Lost run) = codes "lost " ++ decimal run
printed (Gone slot generation) = codes "gone " ++ (decimal slot ++ (codes " " ++ decimal generation))
printed Sweep = codes "sweep"
printed (Collect id) = codes "collect " ++ id_text id
printed Turn = codes "turn"
printed Drain = codes "drain"
printed Reopen = codes "reopen"
printed End = codes "end"

-- the statements, each with a newline after it
abbrev pub printed_day : List Statement → List ℕ
printed_day ss = flat_map (λ s. printed s ++ codes "\n") ss

-- ---- which statements can be printed

abbrev pub HasNo : ℕ → List ℕ → Type 0
HasNo byte = All (λ c. (c == byte) ≡ false)

-- UTF-8 without a newline
pub record IsLineText (text : List ℕ) : Type 0 where
  pub utf8 : IsUtf8 text
  pub newline : HasNo 10 text

-- such a text without a space, of at least one byte
pub record IsWord (word : List ℕ) : Type 0 where
  pub text : IsLineText word
  pub space : HasNo 32 word
  pub some : 0 < length word

-- such a text that is no longer than a line
pub record IsLogLine (line : List ℕ) : Type 0 where
  pub text : IsLineText line
  pub most : length line ≤ most_line

abbrev pub IsPrintable : Statement → Type 0
IsPrintable (At moment) = moment ≤ GREATEST_MOMENT
IsPrintable (Call name text) = IsWord name × IsLineText text × (length (printed (Call name text)) ≤ most_line)
IsPrintable (Ask request) = length request ≤ most_line
IsPrintable Next = Unit {0}
IsPrintable (Begun run) = run < 2 ^ 64
IsPrintable (Answer run text) = (run < 2 ^ 64) × IsLineText text × (length (printed (Answer run text)) ≤ most_line)
IsPrintable (Logged run text logs) = (run < 2 ^ 64) × (length logs < 2 ^ 64) × IsLineText text × (length (logs_head run (length logs) text) ≤ most_line) × All IsLogLine logs
IsPrintable (Exit run code) = (run < 2 ^ 64) × (code ≤ 255)
IsPrintable (NoStart run text) = (run < 2 ^ 64) × IsLineText text × (length (printed (NoStart run text)) ≤ most_line)
IsPrintable (Fault run) = run < 2 ^ 64
IsPrintable (Lost run) = run < 2 ^ 64
IsPrintable (Gone slot generation) = (slot < 2 ^ 32) × (generation < 2 ^ 32)
IsPrintable Sweep = Unit {0}
IsPrintable (Collect id) = (id.namespace < 2 ^ 64) × (id.count < 2 ^ 64)
IsPrintable Turn = Unit {0}
IsPrintable Drain = Unit {0}
IsPrintable Reopen = Unit {0}
IsPrintable End = Unit {0}

-- ---- what is printed is read back

-- there are no lines of logs, or the last has a byte: without a newline an empty one isn't there
abbrev pub EndsInByte : List (List ℕ) → Type 0
EndsInByte [] = Unit {0}
EndsInByte (line ∷ []) = 0 < length line
EndsInByte (line ∷ next ∷ lines) = EndsInByte (next ∷ lines)

-- the statement may end a day without a newline after it
abbrev pub MayEndDay : Statement → Type 0
MayEndDay (Logged run text logs) = EndsInByte logs
MayEndDay other = Unit {0}

-- the statement is found where it is printed, before other lines and as the last of a day
pub record IsReadBack (s : Statement) : Type 0 where
  pub first : (more : Bool) (later : List ℕ) → first_statement more (printed s ++ (codes "\n" ++ later)) ≡ Found s later
  pub last : MayEndDay s → first_statement false (printed s) ≡ Found s []

-- the bytes are the statement as it is printed, a newline and what comes later; or they are the last of a day. The line
-- of a last `ask` of no bytes may end there without its newline
abbrev pub IsPrintedAt : List ℕ → Statement → List ℕ → Type 0
IsPrintedAt bytes s later = (bytes ≡ printed s ++ (codes "\n" ++ later))
    ⊎ (later ≡ []) × ((bytes ≡ printed s) ⊎ (bytes ++ codes "\n" ≡ printed s))

-- the statements before the first `end`
abbrev pub before_end : List Statement → List Statement
before_end [] = []
before_end (End ∷ ss) = []
before_end (s ∷ ss) = s ∷ before_end ss

-- the day that is printed has these statements up to its `end`
abbrev pub DayIsReadBack : List Statement → Type 0
DayIsReadBack ss = day_of (printed_day ss) ≡ record { statements = before_end ss; ending = Finished }
