-- The runner of programs that the office table names.
use Rattle.std.specs.Prelude.{◌≡◌, ◌≢◌, ◌==◌, ℕ, ℤ, pos, negsuc, List, [], ◌∷◌, Bool, codes, map, if◌then◌else◌, Option, Some, None}
use Rattle.std.specs.Ordering.{int_eq}
use Rattle.std.specs.Str.{bytes_eq}
use Rattle.std.specs.Str.Lossy.{utf8_lossy}
use Rattle.ow_traits.specs.Runner.{Giving}
use Rattle.ow_traits.specs.declared.replies.Kind.{Kind}
use Rattle.ow_traits.specs.declared.replies.Kind.TheVariants.{Plain, Program}
use Rattle.ow_traits.specs.declared.replies.RunReply.{RunReply}
use Rattle.ow_traits.specs.declared.replies.RunReply.TheVariants.{Answer, Exit, NoStart, Fault}
use Rattle.ow_value.specs.Value.{Pairs}
use Rattle.ow_runners.specs.Plain.{PlainGives}

-- the name and the path of each program
abbrev pub Programs : Type 0
Programs = List (List ℕ × List ℕ)

-- the path of the program of this name: that of the first row which has the name
abbrev pub path_of : Programs → List ℕ → Option (List ℕ)
path_of [] name = None
path_of (row ∷ rows) name = if bytes_eq row.0 name then Some row.1 else path_of rows name

-- without a path nothing starts, and a program that has one may end in any way but a fault
abbrev pub PathGives : Option (List ℕ) → RunReply → Type 0
PathGives None reply = reply ≡ NoStart (codes "no such program")
PathGives (Some path) reply = reply ≢ Fault

-- it gives to plain code what the runner of plain code gives, and to any other what the path of the program of that name allows
abbrev pub ProgramGives : Programs → Kind → List ℕ → Pairs → RunReply → Type 0
ProgramGives programs Plain code params reply = PlainGives Plain code params reply
ProgramGives programs Program code params reply = PathGives (path_of programs code) reply

-- its containers come up for code of both kinds
abbrev pub program_giving : Programs → Giving
program_giving programs = record { replies = ProgramGives programs; starts = λ kind. Unit {0} }

-- the byte that ends a line
abbrev pub is_newline : ℕ → Bool
is_newline b = b == 10

-- ---- for private clauses

-- the lines with the byte put before the first of them
abbrev pub with_byte : ℕ → List (List ℕ) → List (List ℕ)
with_byte b [] = (b ∷ []) ∷ []
with_byte b (line ∷ lines) = (b ∷ line) ∷ lines

-- the lines of bytes: each ends at a newline, and the last one at the end of the bytes where they don't end with a newline
abbrev pub lines_in : List ℕ → List (List ℕ)
lines_in [] = []
lines_in (b ∷ bs) = if is_newline b then [] ∷ lines_in bs else with_byte b (lines_in bs)

-- the lines as texts
abbrev pub logs_in : List ℕ → List (List ℕ)
logs_in bytes = map utf8_lossy (lines_in bytes)

-- the status in the reply of a program that ended without one
abbrev pub no_status : ℤ
no_status = negsuc 0

-- the reply of a program, by its status, if any, its standard output and its standard error
abbrev pub reply_of : Option ℤ → List ℕ → List ℕ → RunReply
reply_of None out err = Exit no_status (logs_in err)
reply_of (Some status) out err = if int_eq status (pos 0) then Answer (utf8_lossy out) (logs_in err) else Exit status (logs_in err)
