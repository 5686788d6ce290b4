use Rattle.std.proofs.Common.{◌≡◌, ◌++◌, drop, map, string_bytes, false}
use Rattle.ow_command_line.specs.Words.{option_words, plain_words}
use Rattle.ow_command_line.proofs.drill.part.Given as goal

abbrev pub invariant-loop-word : goal.invariant-loop-word
invariant-loop-word l = record {
  plain : plain_words (map string_bytes l.words) false ≡ map string_bytes l.parted.plain.items ++ plain_words (map string_bytes (drop l.word-index l.words)) l.waits;
  options : option_words (map string_bytes l.words) false ≡ map string_bytes l.parted.options.items ++ option_words (map string_bytes (drop l.word-index l.words)) l.waits;
}
