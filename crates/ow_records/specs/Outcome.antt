-- What an activation answers, by what ended it.
use Rattle.std.specs.Prelude.{ℕ, ℤ, List, [], ◌∷◌, ◌++◌, length, nat_lt, if◌then◌else◌, is_some, codes, Result, Ok, Err}
use Rattle.std.specs.Fmt.{decimal, signed_decimal}
use Rattle.ow_traits.specs.declared.replies.RunReply.{RunReply}
use Rattle.ow_traits.specs.declared.replies.RunReply.TheVariants.{Answer, Exit, NoStart, Fault}
use Rattle.ow_value.specs.Value.{V, text, object}
use Rattle.ow_value.specs.Field.{pairs_in}
use Rattle.ow_value.specs.Find.{find}
use Rattle.ow_value.specs.Read.{reading}
use Rattle.ow_value.specs.Size.{megabyte}
use Rattle.ow_value.specs.declared.reader.ValueRefusal.{ValueRefusal}
use Rattle.ow_records.specs.Response.{ResponseView}
use Rattle.ow_records.specs.declared.outcomes.Ending.{Ending}
use Rattle.ow_records.specs.declared.outcomes.Ending.TheVariants.{Replied, Overran, Abandoned, Composed}
use Rattle.ow_entity.specs.declared.bounds.Limits.{Limits}

-- an error with this text
abbrev pub failure : ℕ → List ℕ → ResponseView
failure code message = record { code = code; result = (codes "error", text message) ∷ [] }

-- an object is the result, and reports an error where it has the name `error`
abbrev pub of_object : List (List ℕ × V) → ResponseView
of_object members = record { code = if is_some (find (codes "error") members) then 1 else 0; result = members }

-- a value is a result where it is an object
abbrev pub of_value : V → ResponseView
of_value (object members) = of_object (pairs_in members)
of_value other = failure 2 (codes "The result is no JSON object.")

-- what was read of an answer's text
abbrev pub of_reading : Result V ValueRefusal → ResponseView
of_reading (Ok value) = of_value value
of_reading (Err refusal) = failure 2 (codes "The result is no JSON value of whole numbers.")

-- the text of an answer, of 1 MB at most
abbrev pub of_text : List ℕ → ResponseView
of_text answer = if nat_lt megabyte (length answer) then failure 2 (codes "The result has too many bytes.") else of_reading (reading 100 answer)

-- the status of a program that ended without an answer
abbrev pub of_exit : ℤ → ResponseView
of_exit status = failure 2 (codes "The program ended with status " ++ (signed_decimal status ++ codes "."))

-- a run's reply
abbrev pub of_reply : RunReply → ResponseView
of_reply (Answer answer logs) = of_text answer
of_reply (Exit status logs) = of_exit status
of_reply (NoStart reason) = failure 3 (codes "The action did not start.")
of_reply Fault = failure 3 (codes "The runner failed.")

-- a run past its time limit, in milliseconds
abbrev pub of_overrun : ℕ → ResponseView
of_overrun timeout = failure 2 (codes "The action exceeded its time limit of " ++ (decimal timeout ++ codes " milliseconds."))

-- what ended the activation
unfoldable pub outcome : Ending → Limits → ResponseView
outcome (Replied reply) limits = of_reply reply
outcome Overran limits = of_overrun limits.timeout
outcome Abandoned limits = failure 3 (codes "The activation was abandoned.")
outcome (Composed response children) limits = response
