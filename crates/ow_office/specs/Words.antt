-- What the words ask the office to do.
use Rattle.std.specs.Prelude.{ℕ, Bool, true, false, List, Option, Some, is_some, option_map}
use Rattle.ow_command_line.specs.Words.{command_of}
use Rattle.ow_command_line.specs.declared.command.Command.{Command}
use Rattle.ow_command_line.specs.declared.command.Command.TheVariants as commands
use Rattle.ow_command_line.specs.declared.command.WordsRefusal.{WordsRefusal}
use Rattle.ow_command_line.specs.declared.command.WordsRefusal.TheVariants as refusals
use Rattle.ow_command_line.specs.declared.status.Status.{Status}
use Rattle.ow_command_line.specs.declared.status.Status.TheVariants as statuses
use Rattle.ow_office.specs.declared.words.Asked.{Asked}
use Rattle.ow_office.specs.declared.words.Asked.TheVariants.{Day, Serve, Usage, Drill, Deploy, Help, Version}

abbrev pub asked_of : Command → Asked
asked_of (commands.Day table store) = Day (is_some table)
asked_of (commands.Serve words) = Serve words
asked_of (commands.Usage from to csv store) = Usage from to csv
asked_of (commands.Drill n seed table store) = Drill n seed (is_some table)
asked_of (commands.Deploy table store) = Deploy (is_some table)
asked_of commands.Help = Help
asked_of commands.Version = Version

-- what the words ask for, or none where they aren't in the command set
abbrev pub asked_by : List (List ℕ) → Option Asked
asked_by words = option_map asked_of (command_of words)

-- whether the command reads the office table
abbrev pub names_table : Option Asked → Bool
names_table (Some (Day named)) = named
names_table (Some (Serve words)) = is_some words.table
names_table (Some (Drill n seed named)) = named
names_table (Some (Deploy named)) = named
names_table other = false

-- it opens the store
abbrev pub opens_store : Option Asked → Bool
opens_store (Some (Day named)) = true
opens_store (Some (Usage from to csv)) = true
opens_store (Some (Drill n seed named)) = true
opens_store (Some (Deploy named)) = true
opens_store other = false

-- it reads the input
abbrev pub reads_input : Option Asked → Bool
reads_input (Some (Day named)) = true
reads_input (Some (Deploy named)) = true
reads_input other = false

-- it writes to the output
abbrev pub writes_output : Option Asked → Bool
writes_output (Some (Day named)) = true
writes_output (Some (Usage from to csv)) = true
writes_output (Some (Drill n seed named)) = true
writes_output (Some (Deploy named)) = true
writes_output (Some Help) = true
writes_output (Some Version) = true
writes_output other = false

-- how it ends where the words aren't read, for private clauses
abbrev pub unread_words : WordsRefusal → Status
unread_words refusals.BadWords = statuses.BadWords
unread_words refusals.NoMemory = statuses.NoMemory
