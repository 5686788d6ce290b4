-- The exit status of each way to end, and its line on err. What is passed on has no line.
use Rattle.std.specs.Prelude.{◌++◌, ℕ, List, [], codes}
use Rattle.std.specs.Fmt.{decimal}
use Rattle.ow_command_line.specs.declared.status.Status.{Status}
use Rattle.ow_command_line.specs.declared.status.Status.TheVariants as statuses

abbrev pub status_number : Status → ℕ
status_number statuses.Ok = 0
status_number (statuses.BadDay statement) = 1
status_number statuses.BadWords = 2
status_number statuses.ReadFault = 3
status_number statuses.WriteFault = 4
status_number statuses.StoreFault = 5
status_number (statuses.BadTable row) = 6
status_number statuses.NoMemory = 7
status_number statuses.DayTooLong = 8
status_number (statuses.BadKept key) = 9
status_number (statuses.BadManifest number text) = 13
status_number (statuses.Undeployed place number text) = 14
status_number (statuses.Passed words tenants) = 0

-- the number and the text of a refusal
abbrev pub refusal_line : (number : ℕ) → (text : List ℕ) → List ℕ
refusal_line number text = decimal number ++ (codes " " ++ (text ++ codes "\n"))

abbrev pub err_text : Status → List ℕ
err_text statuses.Ok = []
err_text (statuses.BadDay statement) = codes "bad day at " ++ (decimal statement ++ codes "\n")
err_text statuses.BadWords = codes "bad words\n"
err_text statuses.ReadFault = codes "read fault\n"
err_text statuses.WriteFault = codes "write fault\n"
err_text statuses.StoreFault = codes "store fault\n"
err_text (statuses.BadTable row) = codes "bad table at " ++ (decimal row ++ codes "\n")
err_text statuses.NoMemory = codes "no memory\n"
err_text statuses.DayTooLong = codes "day too long\n"
err_text (statuses.BadKept key) = codes "bad kept row " ++ (key ++ codes "\n")
err_text (statuses.BadManifest number text) = codes "bad manifest " ++ refusal_line number text
err_text (statuses.Undeployed place number text) = codes "refused at " ++ (decimal place ++ (codes " " ++ refusal_line number text))
err_text (statuses.Passed words tenants) = []

-- a service is passed on
abbrev pub IsPassed : Status → Type 0
IsPassed (statuses.Passed words tenants) = Unit {0}
IsPassed other = ⊥
