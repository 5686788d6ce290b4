-- For private clauses: how far the bytes that wait were searched for newlines.
use Rattle.std.specs.Prelude.{◌≡◌, ◌≤◌, ◌-◌, ◌++◌, ℕ, Bool, true, List, None, length, take, drop, position}
use Rattle.ow_runners.specs.Program.{is_newline}
use Rattle.ow_day.specs.Day.{Cut, CutLines, first_statement, lines_in}
use Rattle.ow_day.specs.declared.search.Search.{Search}

-- whatever follows, the first statement is cut as long as the `left` lines of logs from this place on are cut
abbrev pub Awaits : List ℕ → ℕ → ℕ → Type 0
Awaits bytes line left = (later : List ℕ) → lines_in true left (drop line bytes ++ later) ≡ CutLines → first_statement true (bytes ++ later) ≡ Cut

-- a line begins at this place, and there is no newline between it and the place where the search goes on
pub record IsSearched (bytes : List ℕ) (s : Search) : Type 0 where
  pub begins : s.line ≤ s.searched
  pub within : s.searched ≤ length bytes
  pub none : position is_newline (take (s.searched - s.line) (drop s.line bytes)) ≡ None
  pub awaits : Awaits bytes s.line s.left

-- where the answer is true, the first statement is cut
abbrev pub IsCut : Bool → List ℕ → Bool → Type 0
IsCut more bytes told = told ≡ true → first_statement more bytes ≡ Cut
