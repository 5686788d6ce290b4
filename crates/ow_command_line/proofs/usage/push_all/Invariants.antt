use Rattle.std.proofs.Common.{◌≡◌, ◌++◌, map, string_bytes, take}
use Rattle.ow_command_line.proofs.usage.push_all.Given as goal

abbrev pub invariant-loop-word : goal.invariant-loop-word
invariant-loop-word l = map string_bytes l.rest.items ≡ map string_bytes l.initial.rest.items ++ map string_bytes (take l.word-index l.words)
