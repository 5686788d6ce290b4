-- For private clauses: lines of logs of the code as the day's definition has them.
use Rattle.std.specs.Prelude.{◌≡◌, ◌++◌, ◌<◌, ◌≤◌, ℕ, Bool, List, length, drop}
use Rattle.ow_day.specs.Day.{FirstLine, LineIs, NoLine, CutLine, Lines, LinesAre, NoLines, CutLines, lines_in}
use Rattle.ow_day.specs.declared.logs.LogLine.{LogLine}
use Rattle.ow_day.specs.declared.logs.LogLine.TheVariants as lines
use Rattle.ow_day.specs.declared.logs.LogLines.{LogLines}
use Rattle.ow_day.specs.declared.logs.LogLines.TheVariants as all

abbrev pub line_said : List ℕ → LogLine → FirstLine
line_said bytes (lines.Read text used) = LineIs text.now (drop used bytes)
line_said bytes lines.Wrong = NoLine
line_said bytes lines.Cut = CutLine

-- a line is some of the bytes
abbrev pub IsLineWithin : List ℕ → LogLine → Type 0
IsLineWithin bytes (lines.Read text used) = (0 < used) × (used ≤ length bytes)
IsLineWithin bytes other = Unit {0}

-- the lines end at this place, or one is none, or they are cut
abbrev pub EndsSo : Bool → ℕ → List ℕ → LogLines → Type 0
EndsSo more count bytes (all.Found end) = (lines : List (List ℕ)) × (end ≤ length bytes) × (lines_in more count bytes ≡ LinesAre lines (drop end bytes))
EndsSo more count bytes all.Wrong = lines_in more count bytes ≡ NoLines
EndsSo more count bytes all.Cut = lines_in more count bytes ≡ CutLines

-- these lines come before others
abbrev pub with_lines : List (List ℕ) → Lines → Lines
with_lines done (LinesAre lines rest) = LinesAre (done ++ lines) rest
with_lines done NoLines = NoLines
with_lines done CutLines = CutLines

-- of `count` lines these were read, and `left` lines are left from this place on
pub record AreRead (more : Bool) (count : ℕ) (bytes : List ℕ) (done : List (List ℕ)) (left from : ℕ) : Type 0 where
  pub within : from ≤ length bytes
  pub is : lines_in more count bytes ≡ with_lines done (lines_in more left (drop from bytes))
