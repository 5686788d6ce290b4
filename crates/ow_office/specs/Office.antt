-- What the office does, by what the words ask for. A command is one line here and a specification file of its own.
use Rattle.std.specs.Prelude.{◌≡◌, ◌⊎◌, ℕ, List, Option, Some, None, is_some}
use Rattle.ow_command_line.specs.declared.status.Status.{Status}
use Rattle.ow_command_line.specs.declared.status.Status.TheVariants as statuses
use Rattle.ow_office.specs.declared.words.Asked.{Asked}
use Rattle.ow_office.specs.declared.words.Asked.TheVariants as asks
use Rattle.ow_office.specs.Day.{DoesDay}
use Rattle.ow_office.specs.Drill.{DoesDrill}
use Rattle.ow_office.specs.Deploy.{DoesDeploy}
use Rattle.ow_office.specs.Serve.{PassesOn}
use Rattle.ow_office.specs.Sides.{Sides}
use Rattle.ow_office.specs.Table.{TellsTable}
use Rattle.ow_office.specs.Usage.{TellsUsage}
use Rattle.ow_office.specs.Texts.{TellsText}

-- what was read, written and kept, by the command and the status. Words that aren't in the command set touch nothing
abbrev pub TellsCommand : (help version : List ℕ) → Option Asked → Sides → Sides → Status → Type 0
TellsCommand help version None before after status = ((status ≡ statuses.BadWords) ⊎ (status ≡ statuses.NoMemory)) × (after ≡ before)
TellsCommand help version (Some asks.Help) before after status = TellsText help before after status
TellsCommand help version (Some asks.Version) before after status = TellsText version before after status
TellsCommand help version (Some (asks.Serve asked)) before after status = TellsTable (PassesOn asked) (is_some asked.table) before after status
TellsCommand help version (Some (asks.Day named)) before after status = TellsTable DoesDay named before after status
TellsCommand help version (Some (asks.Usage from to csv)) before after status = TellsUsage from to csv before after status
TellsCommand help version (Some (asks.Drill n seed named)) before after status = TellsTable (DoesDrill n seed) named before after status
TellsCommand help version (Some (asks.Deploy named)) before after status = TellsTable DoesDeploy named before after status
