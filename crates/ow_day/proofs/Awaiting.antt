-- What is known of lines of logs that are awaited.
use Rattle.std.proofs.Common.{◌≡◌, ◌≤◌, ◌<◌, ◌+◌, ◌&&◌, ℕ, Bool, true, false, not, nat_lt, List, Option, Some, None, length, take, drop, position, refl, sym, ap, ◌∙◌, subst, arith}
use Rattle.std.proofs.lemmas.Bool.{false≢true, ltb-true}
use Rattle.std.proofs.lemmas.List.{drop-drop}
use Rattle.std.proofs.lemmas.List.Quantifiers.{position-Some}
use Rattle.ow_day.specs.declared.first.First.{First as Code}
use Rattle.ow_day.specs.declared.first.First.TheVariants as firsts
use Rattle.ow_day.specs.Limits.{most_line}
use Rattle.ow_runners.specs.Program.{is_newline}
use Rattle.ow_day.specs.Statement.{Reading, Logged, Whole, Asks, Logs, line_of}
use Rattle.ow_day.specs.Day.{Found, LinesAre, lines_in, logged}
use Rattle.ow_day.specs.First.{AwaitsBehind, AwaitsLines, AwaitsNone, IsLogs}
use Rattle.ow_day.specs.Line.{lines_of, read_lines}
use Rattle.ow_day.specs.Search.{Awaits}
use Rattle.ow_day.proofs.Days.{too_long}
use Rattle.ow_day.proofs.Logging.{found_last}
use Rattle.ow_day.proofs.Searching.{awaits_behind}

pub none_awaited : (more : Bool) (o : Option Reading) (behind : ℕ) (f : Code) → AwaitsNone f → AwaitsBehind more o behind f
none_awaited more o behind (firsts.Found said used) none = tt
none_awaited more o behind firsts.Wrong none = tt
none_awaited more o behind firsts.Cut none = tt
none_awaited more o behind (firsts.Awaits line left) none = absurd none

-- ---- where the line has no newline

no_logs : (o : Option Reading) (left : ℕ) → o ≡ None → IsLogs o left → ⊥
no_logs o left none logs = let never : IsLogs None left = subst (λ x. IsLogs x left) none logs in never

long_by : (bytes : List ℕ) (o : Option Reading) (left : ℕ) (long : Bool) → nat_lt most_line (length bytes) ≡ long → (not long && true) ≡ false → o ≡ line_of bytes → IsLogs o left → ⊥
long_by bytes o left true is uncut same logs = no_logs o left (same ∙ too_long bytes (ltb-true most_line (length bytes) is)) logs
long_by bytes o left false is uncut same logs = false≢true (sym uncut)

pub whole_awaits : (more : Bool) (bytes : List ℕ) (o : Option Reading) (behind : ℕ) (f : Code) → o ≡ line_of bytes → (not (nat_lt most_line (length bytes)) && more) ≡ false → AwaitsBehind more o behind f → AwaitsLines bytes f
whole_awaits more bytes o behind (firsts.Found said used) same uncut awaits = tt
whole_awaits more bytes o behind firsts.Wrong same uncut awaits = tt
whole_awaits more bytes o behind firsts.Cut same uncut awaits = tt
whole_awaits more bytes o behind (firsts.Awaits line left) same uncut (at, is_more, logs) =
    absurd (long_by bytes o left (nat_lt most_line (length bytes)) refl (subst (λ b. (not (nat_lt most_line (length bytes)) && b) ≡ false) is_more uncut) same logs)

-- ---- where it has one

logs_by : (bytes : List ℕ) (place line left : ℕ) (o : Option Reading) → position is_newline bytes ≡ Some place → o ≡ line_of (take place bytes) → line ≡ place + 1 → IsLogs o left → (line ≤ length bytes) × Awaits bytes line left
logs_by bytes place line left None at same is logs = absurd logs
logs_by bytes place line left (Some (Whole s)) at same is logs = absurd logs
logs_by bytes place line left (Some (Asks count)) at same is logs = absurd logs
logs_by bytes place line left (Some (Logs run count text)) at same is logs =
    let within : place < length bytes = (position-Some is_newline bytes place 0 at).0 in
    let awaits : Awaits bytes (place + 1) count = awaits_behind bytes text place run count at (sym same) in
    (omega (arith, is, within), subst (λ n. Awaits bytes line n) (sym logs) (subst (λ n. Awaits bytes n count) (sym is) awaits))

pub line_awaits : (more : Bool) (bytes : List ℕ) (place : ℕ) (o : Option Reading) (f : Code) → position is_newline bytes ≡ Some place → o ≡ line_of (take place bytes) → AwaitsBehind more o (place + 1) f → AwaitsLines bytes f
line_awaits more bytes place o (firsts.Found said used) at same awaits = tt
line_awaits more bytes place o firsts.Wrong at same awaits = tt
line_awaits more bytes place o firsts.Cut at same awaits = tt
line_awaits more bytes place o (firsts.Awaits line left) at same (is, is_more, logs) = logs_by bytes place line left o at same is logs

-- ---- where they are found

pub logged_found : (more : Bool) (run count behind end : ℕ) (text bytes : List ℕ) → (lines : List (List ℕ)) × (end ≤ length (drop behind bytes)) × (lines_in more count (drop behind bytes) ≡ LinesAre lines (drop end (drop behind bytes)))
    → Found (Logged run text (lines_of count (drop behind bytes))) (drop (behind + end) bytes) ≡ logged run text (lines_in more count (drop behind bytes))
logged_found more run count behind end text bytes (lines, within, is) =
    let same : lines_of count (drop behind bytes) ≡ lines = ap read_lines (found_last more count (drop behind bytes) lines (drop end (drop behind bytes)) is) in
    (λ i. Found (Logged run text (same i)) (sym (drop-drop end behind bytes) i)) ∙ sym (ap (logged run text) is)
