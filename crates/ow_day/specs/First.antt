-- For private clauses: the code's `First` as the `First` of the day's definition.
use Rattle.std.specs.Prelude.{◌≡◌, ◌<◌, ◌≤◌, ℕ, Bool, true, List, Option, Some, length, drop}
use Rattle.ow_day.specs.declared.first.First as code
use Rattle.ow_day.specs.declared.first.First.TheVariants as firsts
use Rattle.ow_day.specs.Line.{statement}
use Rattle.ow_day.specs.Statement.{Reading, Logs}
use Rattle.ow_day.specs.Day.{First, Found, Wrong, Cut}
use Rattle.ow_day.specs.Search.{Awaits}

abbrev pub first_of : List ℕ → code.First → First
first_of bytes (firsts.Found said used) = Found (statement said) (drop used bytes)
first_of bytes firsts.Wrong = Wrong
first_of bytes firsts.Cut = Cut
first_of bytes (firsts.Awaits line left) = Cut

-- what was found is some of the bytes
abbrev pub IsWithin : List ℕ → code.First → Type 0
IsWithin bytes (firsts.Found said used) = (used ≤ length bytes) × (0 < length bytes → 0 < used)
IsWithin bytes other = Unit {0}

-- it is cut in its lines of logs, of which `left` follow this line
abbrev pub IsLogs : Option Reading → ℕ → Type 0
IsLogs (Some (Logs run count text)) left = left ≡ count
IsLogs other left = ⊥

abbrev pub AwaitsBehind : Bool → Option Reading → ℕ → code.First → Type 0
AwaitsBehind more line behind (firsts.Awaits from left) = (from ≡ behind) × (more ≡ true) × IsLogs line left
AwaitsBehind more line behind other = Unit {0}

-- no lines of logs are awaited
abbrev pub AwaitsNone : code.First → Type 0
AwaitsNone (firsts.Awaits line left) = ⊥
AwaitsNone other = Unit {0}

-- where lines of logs are awaited, this is known of them
abbrev pub AwaitsLines : List ℕ → code.First → Type 0
AwaitsLines bytes (firsts.Awaits line left) = (line ≤ length bytes) × Awaits bytes line left
AwaitsLines bytes other = Unit {0}
