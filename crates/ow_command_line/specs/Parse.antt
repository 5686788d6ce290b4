-- For private clauses: the options of a command, as `clap` sees them.
use Rattle.std.specs.Prelude.{◌≡◌, ℕ, List, [], Option, Some, None, Result, MatchResult, codes, map, true}
use Rattle.clap.specs.Words.{App, Rule, first_value, found_of, new_rule}
use Rattle.clap.specs.Simple.{new_shape}
use Rattle.clap.specs.declared.parser.matches.ArgMatches.{ArgMatches}
use Rattle.ow_command_line.specs.declared.command.WordsRefusal.{WordsRefusal}
use Rattle.ow_command_line.specs.declared.command.WordsRefusal.TheVariants.{BadWords}
use Rattle.ow_command_line.specs.Words.{Values}

-- an option with a value, of this name
abbrev pub option_rule : List ℕ → Rule
option_rule name = record (new_rule name) { long = Some name }

-- a command that takes the options with these names, and no other word
abbrev pub app_with : List (List ℕ) → App
app_with names = record {
  top = record (new_shape (codes "ow_whisk")) {
    rules = map option_rule names;
    no_binary_name = true;
    disable_help_flag = true;
  };
  subs = [];
}

-- the value that was found for each option
abbrev pub values_found : ArgMatches → Values
values_found found name = first_value (found_of found) name

-- what was found are these values, and the words are bad only where there are no values. `NoMemory` is always allowed
abbrev pub AreFound : Option Values → Result ArgMatches WordsRefusal → Type 0
AreFound values result = MatchResult result (λ found. values ≡ Some (values_found found)) (λ e. e ≡ BadWords → values ≡ None)
