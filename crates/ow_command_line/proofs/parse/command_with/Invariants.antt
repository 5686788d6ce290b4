use Rattle.std.proofs.Common.{◌≡◌, map, take}
use Rattle.clap.specs.Words.{app_of}
use Rattle.ow_command_line.specs.Parse.{app_with}
use Rattle.ow_command_line.proofs.parse.command_with.Given as goal

abbrev pub invariant-loop-name : goal.invariant-loop-name
invariant-loop-name l = app_of l.command ≡ app_with (map (λ name. name.now) (take l.name-index l.names))
