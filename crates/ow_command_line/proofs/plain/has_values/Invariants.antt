use Rattle.std.proofs.Common.{◌≡◌, drop, map, string_bytes, false}
use Rattle.ow_command_line.specs.Plain.{has_values}
use Rattle.ow_command_line.proofs.plain.has_values.Given as goal

abbrev pub invariant-loop-word : goal.invariant-loop-word
invariant-loop-word l = has_values (map string_bytes l.words) false ≡ has_values (map string_bytes (drop l.word-index l.words)) l.waits
