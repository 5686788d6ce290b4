-- What a stop leaves of the rows and of the old rows of a store. A keeper makes a commit whole or not at all, so a stop leaves those that
-- result from the commits made so far.
use Rattle.std.specs.Prelude.{◌≡◌, ◌⊎◌, ◌++◌, List, [], ◌∷◌, Some, if◌then◌else◌}
use Rattle.ow_traits.specs.Telling.{Attempt, Telling}
use Rattle.ow_traits.specs.declared.change_list.Change.{Change}
use Rattle.ow_hall.specs.Comes.{KeptRows, kept_after, old_kept_after}

-- what an attempt to commit changes
abbrev pub changes_made : Attempt → List Change
changes_made attempt = if attempt.made then attempt.changes else []

-- the rows after these attempts to commit, of which the newest comes first
abbrev pub rows_by : List Attempt → KeptRows → KeptRows
rows_by [] rows = rows
rows_by (attempt ∷ before) rows = kept_after (changes_made attempt) (rows_by before rows)

-- the old rows after them
abbrev pub old_rows_by : List Attempt → KeptRows → KeptRows
old_rows_by [] old_rows = old_rows
old_rows_by (attempt ∷ before) old_rows = old_kept_after (changes_made attempt) (old_rows_by before old_rows)

-- after these attempts a store that reported the rows and the old rows of `old` has both those of `new`
abbrev pub LeaveBoth : List Attempt → Telling → Telling → Type 0
LeaveBoth attempts old new = (rows_by attempts old.rows ≡ new.rows) × (old_rows_by attempts old.old_rows ≡ new.old_rows)

-- at any moment between two states of a store its rows and its old rows are both those of before or both those of after: this holds after
-- each prefix of the commits that were attempted between the two
abbrev pub StopsWell : {P : Type 0} → (P → Telling) → P → P → Type 0
StopsWell telling old new = (before after later asked : List Attempt) → (telling old).commits ≡ Some before → (telling new).commits ≡ Some after → after ≡ later ++ (asked ++ before)
    → LeaveBoth asked (telling old) (telling old) ⊎ LeaveBoth asked (telling old) (telling new)
