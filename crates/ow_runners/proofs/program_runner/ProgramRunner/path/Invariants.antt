use Rattle.std.proofs.Common.{◌≡◌, drop}
use Rattle.ow_runners.specs.Program.{path_of}
use Rattle.ow_runners.proofs.program_runner.ProgramRunner.path.Given as goal

-- what is left decides
abbrev pub invariant-loop-row : goal.invariant-loop-row
invariant-loop-row g l = path_of (drop l.row-index l.row-items) l.name ≡ path_of l.row-items l.name
