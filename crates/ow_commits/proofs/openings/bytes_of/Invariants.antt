use Rattle.std.proofs.Common.{◌≡◌, ◌+◌, drop}
use Rattle.ow_row_text.specs.Bytes.{bytes_of}
use Rattle.ow_commits.proofs.openings.bytes_of.Given as goal

-- what was counted, and what is left, is the whole
abbrev pub invariant-loop-row : goal.invariant-loop-row
invariant-loop-row l = l.total + bytes_of (drop l.row-index l.rows) ≡ bytes_of l.rows
