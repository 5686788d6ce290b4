-- The command set.
use Rattle.std.specs.Prelude.{◌≡◌, ◌==◌, ◌&&◌, ◌||◌, ℕ, Bool, true, false, List, [], ◌∷◌, ◌++◌, Option, Some, None, if◌then◌else◌, codes, find, is_none, is_some, nat_le, not, take, drop, ◌+◌, option_and_then, option_map, Result, MatchResult}
use Rattle.std.specs.List.{list_any, position}
use Rattle.std.specs.Str.{bytes_eq}
use Rattle.clap.specs.Lexer.{long_of}
use Rattle.ow_value.specs.Decimal.{decimal_of, number_within}
use Rattle.ow_command_line.specs.Days.{day_in}
use Rattle.ow_command_line.specs.declared.command.Command.{Command}
use Rattle.ow_command_line.specs.declared.command.Command.TheVariants.{Day, Serve, Usage, Drill, Deploy, Help, Version}
use Rattle.ow_command_line.specs.declared.command.WordsRefusal.{WordsRefusal}
use Rattle.ow_command_line.specs.declared.command.WordsRefusal.TheVariants.{BadWords}

-- ---- options

-- the value of an option isn't empty, and begins with no `-`
abbrev pub is_value : List ℕ → Bool
is_value [] = false
is_value (c ∷ cs) = not (c == 45)

-- an option that the words give, by its name, and its value
abbrev pub Given : Type 0
Given = List ℕ × List ℕ

abbrev pub with_given : (name value : List ℕ) → Option (List Given) → Option (List Given)
with_given name value behind = if is_value value then option_map (λ rest. (name, value) ∷ rest) behind else None

-- the value is in the word that names the option, or is the next word
abbrev pub with_option : List ℕ → Option (List ℕ) → (Option (List ℕ) → Option (List Given)) → Option (List Given)
with_option name (Some value) behind = with_given name value (behind None)
with_option name None behind = behind (Some name)

abbrev pub with_option_word : Option (List ℕ × Option (List ℕ)) → (Option (List ℕ) → Option (List Given)) → Option (List Given)
with_option_word None behind = None
with_option_word (Some p) behind = with_option p.0 p.1 behind

-- the options that the words give, each as `--x=V` in one word, or as `--x` and `V` in two. The words may follow the
-- name of an option that waits for its value
unfoldable pub given_from : List (List ℕ) → Option (List ℕ) → Option (List Given)
given_from [] None = Some []
given_from [] (Some name) = None
given_from (word ∷ words) (Some name) = with_given name word (given_from words None)
given_from (word ∷ words) None = with_option_word (long_of word) (given_from words)

abbrev pub is_among : List ℕ → List (List ℕ) → Bool
is_among name names = list_any (λ other. bytes_eq other name) names

abbrev pub is_given : List ℕ → List Given → Bool
is_given name given = list_any (λ g. bytes_eq g.0 name) given

-- each of these has one of the names, which none before it has
unfoldable pub each_once : List (List ℕ) → (before : List Given) → List Given → Bool
each_once names before [] = true
each_once names before (g ∷ rest) = is_among g.0 names && (not (is_given g.0 before) && each_once names (before ++ g ∷ []) rest)

-- the options that the words give, where each has one of the names and occurs once
abbrev pub once_of : List (List ℕ) → Option (List Given) → Option (List Given)
once_of names None = None
once_of names (Some given) = if each_once names [] given then Some given else None

abbrev pub options_in : List (List ℕ) → List (List ℕ) → Option (List Given)
options_in names words = once_of names (given_from words None)

-- the value of each option, by its name
abbrev pub Values : Type 0
Values = List ℕ → Option (List ℕ)

abbrev pub values_in : List Given → Values
values_in given name = option_map (λ g. g.1) (find (λ g. bytes_eq g.0 name) given)

-- the values that the words give to the options with these names
abbrev pub values_of : List (List ℕ) → List (List ℕ) → Option Values
values_of names words = option_map values_in (options_in names words)

-- ---- a day

abbrev pub day_options : List (List ℕ)
day_options = codes "table" ∷ codes "store" ∷ []

abbrev pub day_with : Values → Command
day_with value = Day (value (codes "table")) (value (codes "store"))

abbrev pub is_day : List ℕ → Bool
is_day word = bytes_eq word (codes "day")

-- ---- a service

abbrev pub serve_options : List (List ℕ)
serve_options = codes "port" ∷ codes "workers" ∷ codes "connections" ∷ codes "table" ∷ codes "store" ∷ []

-- a service has a port, a number of 16 bits
abbrev pub port_of : Option (List ℕ) → Option ℕ
port_of value = option_and_then (number_within 0 65535) value

-- 1 to 64 workers, and 4 where the words don't say
abbrev pub workers_of : Option (List ℕ) → Option ℕ
workers_of None = Some 4
workers_of (Some text) = number_within 1 64 text

-- as many connections as a number of 64 bits says, or any number where the words don't say
abbrev pub connections_of : Option (List ℕ) → Option (Option ℕ)
connections_of None = Some None
connections_of (Some text) = option_map Some (decimal_of text)

-- a service, where its numbers are allowed
abbrev pub serve_by : (port workers : Option ℕ) (connections : Option (Option ℕ)) (table store : Option (List ℕ)) → Option Command
serve_by (Some port) (Some workers) (Some connections) table store = Some (Serve (record {
  port = port;
  workers = workers;
  connections = connections;
  table = table;
  store = store;
}))
serve_by port workers connections table store = None

abbrev pub serve_with : Values → Option Command
serve_with value =
    serve_by (port_of (value (codes "port"))) (workers_of (value (codes "workers"))) (connections_of (value (codes "connections")))
    (value (codes "table")) (value (codes "store"))

abbrev pub is_serve : List ℕ → Bool
is_serve word = bytes_eq word (codes "serve")

-- ---- usage

abbrev pub usage_options : List (List ℕ)
usage_options = codes "from" ∷ codes "to" ∷ codes "store" ∷ []

-- the day that the value of an option names
abbrev pub day_of : Option (List ℕ) → Option ℕ
day_of value = option_and_then day_in value

-- usage from one day to another, which isn't before it
abbrev pub usage_by : (from to : Option ℕ) → Bool → (store : Option (List ℕ)) → Option Command
usage_by (Some from) (Some to) csv store = if nat_le from to then Some (Usage from to csv store) else None
usage_by from to csv store = None

abbrev pub usage_with : Bool → Values → Option Command
usage_with csv value = usage_by (day_of (value (codes "from"))) (day_of (value (codes "to"))) csv (value (codes "store"))

-- by words that are options with values
abbrev pub usage_from : Bool → List (List ℕ) → Option Command
usage_from csv words = option_and_then (usage_with csv) (values_of usage_options words)

abbrev pub is_csv : List ℕ → Bool
is_csv word = bytes_eq word (codes "--csv")

-- by words of which the one at this place, if any, is `--csv`: the words before it are options with values
abbrev pub usage_at : Option ℕ → List (List ℕ) → Option Command
usage_at None words = usage_from false words
usage_at (Some place) words = if is_some (given_from (take place words) None) then usage_from true (take place words ++ drop (place + 1) words) else None

-- the words are options with values, or `--csv`, which has none, is once among these
abbrev pub usage_of : List (List ℕ) → Option Command
usage_of words = if is_some (given_from words None) then usage_from false words else usage_at (position is_csv words) words

abbrev pub is_usage : List ℕ → Bool
is_usage word = bytes_eq word (codes "usage")

-- ---- a drill

abbrev pub drill_options : List (List ℕ)
drill_options = codes "table" ∷ codes "store" ∷ []

-- an option whose value is the next word
abbrev pub is_open : Option (List ℕ × Option (List ℕ)) → Bool
is_open None = false
is_open (Some p) = is_none p.1

-- the word is the value of the option before it, and else it may be an option whose value is the next word
abbrev pub leaves_open : List ℕ → (waits : Bool) → Bool
leaves_open word waits = not waits && is_open (long_of word)

-- the word is neither an option nor the value of one
abbrev pub is_plain : List ℕ → (waits : Bool) → Bool
is_plain word waits = not waits && is_none (long_of word)

-- the words that are neither options nor values of options. The first word is such a value where an option waits for it
unfoldable pub plain_words : List (List ℕ) → (waits : Bool) → List (List ℕ)
plain_words [] waits = []
plain_words (word ∷ words) waits = if is_plain word waits then word ∷ plain_words words (leaves_open word waits) else plain_words words (leaves_open word waits)

-- the other words: options and their values
unfoldable pub option_words : List (List ℕ) → (waits : Bool) → List (List ℕ)
option_words [] waits = []
option_words (word ∷ words) waits = if is_plain word waits then option_words words (leaves_open word waits) else word ∷ option_words words (leaves_open word waits)

-- a drill of n calls, at most 1,000,000, by a seed, which is a number of 64 bits
abbrev pub drill_with : (n seed : Option ℕ) → Values → Option Command
drill_with (Some n) (Some seed) value = Some (Drill n seed (value (codes "table")) (value (codes "store")))
drill_with n seed value = None

-- by the plain words, which are the two numbers, and the options
abbrev pub drill_by : (plain options : List (List ℕ)) → Option Command
drill_by (n ∷ seed ∷ []) options = option_and_then (drill_with (number_within 0 1000000 n) (decimal_of seed)) (values_of drill_options options)
drill_by plain options = None

-- the two numbers may be anywhere among the options
abbrev pub drill_of : List (List ℕ) → Option Command
drill_of words = drill_by (plain_words words false) (option_words words false)

abbrev pub is_drill : List ℕ → Bool
is_drill word = bytes_eq word (codes "drill")

-- ---- a deployment

-- its options are those of a day
abbrev pub deploy_with : Values → Command
deploy_with value = Deploy (value (codes "table")) (value (codes "store"))

abbrev pub is_deploy : List ℕ → Bool
is_deploy word = bytes_eq word (codes "deploy")

-- ---- the words

-- the first word is that of a command with options
abbrev pub takes_options : List (List ℕ) → Bool
takes_options [] = false
takes_options (word ∷ words) = is_day word || (is_serve word || (is_usage word || (is_drill word || is_deploy word)))

-- the commands of one word
abbrev pub command_named : List ℕ → Option Command
command_named word = if bytes_eq word (codes "--help") then Some Help
    else (if bytes_eq word (codes "--version") then Some Version else None)

abbrev pub alone : Option Command → List (List ℕ) → Option Command
alone command [] = command
alone command (word ∷ words) = None

-- the command of the words, or none where they aren't in the command set
abbrev pub command_of : List (List ℕ) → Option Command
command_of [] = None
command_of (word ∷ words) = if is_day word then option_map day_with (values_of day_options words)
    else (if is_serve word then option_and_then serve_with (values_of serve_options words)
    else (if is_usage word then usage_of words
    else (if is_drill word then drill_of words
    else (if is_deploy word then option_map deploy_with (values_of day_options words)
    else alone (command_named word) words))))

-- a command is answered exactly where it is this one, and bad words only where there is none. `NoMemory` is always allowed
abbrev pub IsReading : Option Command → Result Command WordsRefusal → Type 0
IsReading command result = MatchResult result (λ c. command ≡ Some c) (λ e. e ≡ BadWords → command ≡ None)
