-- The rows and the old rows that commits make.
use Rattle.std.specs.Prelude.{ℕ, List, [], ◌∷◌}
use Rattle.ow_traits.specs.Changes.{changed, old_after}
use Rattle.ow_traits.specs.Telling.{Attempt, made}
use Rattle.ow_traits.specs.declared.change_list.Change.{Change}

-- the rows after these commits, the first of which was made first
abbrev pub rows_behind : List (List Change × Unit {0}) → List (List ℕ × List ℕ) → List (List ℕ × List ℕ)
rows_behind [] rows = rows
rows_behind (c ∷ cs) rows = rows_behind cs (changed c.0 rows)

-- the old rows after these commits
abbrev pub old_rows_behind : List (List Change × Unit {0}) → List (List ℕ × List ℕ) → List (List ℕ × List ℕ)
old_rows_behind [] old_rows = old_rows
old_rows_behind (c ∷ cs) old_rows = old_rows_behind cs (old_after c.0 old_rows)

-- these commits, all of which were made, the newest first, and those before them
abbrev pub attempts_behind : List (List Change × Unit {0}) → List Attempt → List Attempt
attempts_behind [] before = before
attempts_behind (c ∷ cs) before = attempts_behind cs (made c.0 ∷ before)
