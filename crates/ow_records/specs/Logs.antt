-- The logs of an activation that has ended.
use Rattle.std.specs.Prelude.{◌+◌, ◌-◌, ◌*◌, ℕ, List, [], ◌∷◌, length, map, nat_lt, if◌then◌else◌, codes}
use Rattle.ow_traits.specs.declared.replies.RunReply.{RunReply}
use Rattle.ow_traits.specs.declared.replies.RunReply.TheVariants.{Answer, Exit, NoStart, Fault}
use Rattle.ow_value.specs.Size.{megabyte}
use Rattle.ow_records.specs.Id.{id_text}
use Rattle.ow_records.specs.declared.outcomes.Ending.{Ending}
use Rattle.ow_records.specs.declared.outcomes.Ending.TheVariants.{Replied, Overran, Abandoned, Composed}

-- the lines of a run's reply; the reason of a run that did not start is one line
abbrev pub reply_lines : RunReply → List (List ℕ)
reply_lines (Answer answer logs) = logs
reply_lines (Exit status logs) = logs
reply_lines (NoStart reason) = reason ∷ []
reply_lines Fault = []

-- the lines of what ended the activation
abbrev pub lines_of : Ending → List (List ℕ)
lines_of (Replied reply) = reply_lines reply
lines_of Overran = []
lines_of Abandoned = []
lines_of (Composed response children) = map id_text children

-- the first lines, while the sum of their bytes, one more for each, is at most this; if any line is left off, a line that says so
abbrev pub fitting : ℕ → List (List ℕ) → List (List ℕ)
fitting room [] = []
fitting room (line ∷ lines) =
    if nat_lt (length line) room then line ∷ fitting (room - (length line + 1)) lines else codes "Logs were truncated." ∷ []

-- the lines that a limit of this many MB keeps
abbrev pub kept_lines : ℕ → List (List ℕ) → List (List ℕ)
kept_lines limit lines = fitting (limit * megabyte) lines

-- the logs of the record: the lines that the limit keeps, or the ids of a composite's children, to which no limit applies
abbrev pub logs_of : ℕ → Ending → List (List ℕ)
logs_of limit (Replied reply) = kept_lines limit (lines_of (Replied reply))
logs_of limit Overran = kept_lines limit (lines_of Overran)
logs_of limit Abandoned = kept_lines limit (lines_of Abandoned)
logs_of limit (Composed response children) = lines_of (Composed response children)
