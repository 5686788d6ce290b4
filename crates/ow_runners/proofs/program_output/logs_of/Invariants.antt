use Rattle.std.proofs.Common.{◌≡◌, ◌++◌, length}
use Rattle.ow_runners.specs.Program.{logs_in}
use Rattle.ow_runners.proofs.program_output.logs_of.Given as goal

-- the lines so far, and the lines of the bytes that are left, are the lines of all bytes
abbrev pub invariant-loop-rest : goal.invariant-loop-rest
invariant-loop-rest l = l.logs.items ++ logs_in l.rest ≡ logs_in l.bytes

abbrev pub decreases-loop-rest : goal.decreases-loop-rest
decreases-loop-rest l = length l.rest
