use Rattle.std.proofs.Common.{◌≡◌, ◌+◌, drop, length, map}
use Rattle.std.specs.List.{sum}
use Rattle.ow_hall.proofs.bytes.lines_bytes.Given as goal

-- what was counted, and what is left, is the whole
abbrev pub invariant-loop-line : goal.invariant-loop-line
invariant-loop-line l = l.total + sum (map length (drop l.line-index l.lines)) ≡ sum (map length l.lines)
