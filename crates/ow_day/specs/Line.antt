-- For private clauses: a line and a statement of the code as the day's definition has them.
use Rattle.std.specs.Prelude.{ℕ, List, [], false}
use Rattle.ow_day.specs.declared.line.Statement as code
use Rattle.ow_day.specs.declared.line.Statement.TheVariants as statements
use Rattle.ow_day.specs.declared.line.Line.{Line}
use Rattle.ow_day.specs.declared.line.Line.TheVariants as lines
use Rattle.ow_day.specs.Statement.{Statement, At, Call, Ask, Next, Begun, Answer, Logged, Exit, NoStart, Fault, Lost, Gone, Sweep, Turn, Collect, Drain, Reopen, End, Reading, Whole, Asks, Logs}
use Rattle.ow_day.specs.Day.{Lines, LinesAre, NoLines, CutLines, lines_in}

abbrev pub read_lines : Lines → List (List ℕ)
read_lines (LinesAre lines rest) = lines
read_lines NoLines = []
read_lines CutLines = []

-- the first `count` lines of logs of bytes
abbrev pub lines_of : ℕ → List ℕ → List (List ℕ)
lines_of count bytes = read_lines (lines_in false count bytes)

abbrev pub statement : code.Statement → Statement
statement (statements.At moment) = At moment
statement (statements.Call name text) = Call name.now text.now
statement (statements.Ask request) = Ask request.now
statement statements.Next = Next
statement (statements.Begun run) = Begun run
statement (statements.Answer run text) = Answer run text.now
statement (statements.Logged run text count logs) = Logged run text.now (lines_of count logs.now)
statement (statements.Exit run code) = Exit run code
statement (statements.NoStart run text) = NoStart run text.now
statement (statements.Fault run) = Fault run
statement (statements.Lost run) = Lost run
statement (statements.Gone slot generation) = Gone slot generation
statement statements.Sweep = Sweep
statement (statements.Collect id) = Collect id
statement statements.Turn = Turn
statement statements.Drain = Drain
statement statements.Reopen = Reopen
statement statements.End = End

abbrev pub reading : Line → Reading
reading (lines.Whole s) = Whole (statement s)
reading (lines.Asks count) = Asks count
reading (lines.Logs run count text) = Logs run count text.now
