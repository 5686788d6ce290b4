-- For private clauses: whether each option has its value.
use Rattle.std.specs.Prelude.{ℕ, Bool, true, false, List, [], ◌∷◌, Option, Some, None, if◌then◌else◌, not}
use Rattle.std.specs.Option.{option_map_or}
use Rattle.clap.specs.Lexer.{long_of}
use Rattle.ow_command_line.specs.Words.{is_value}

abbrev pub behind_value : Option (List ℕ) → Option Bool
behind_value None = Some true
behind_value (Some value) = if is_value value then Some false else None

abbrev pub behind_option : Option (List ℕ × Option (List ℕ)) → Option Bool
behind_option None = None
behind_option (Some p) = behind_value p.1

-- whether an option waits for its value after this word, or none where the word isn't allowed there
unfoldable pub behind : List ℕ → Bool → Option Bool
behind word true = if is_value word then Some false else None
behind word false = behind_option (long_of word)

unfoldable pub has_values : List (List ℕ) → Bool → Bool
has_values [] waits = not waits
has_values (word ∷ words) waits = option_map_or (has_values words) (behind word waits) false
