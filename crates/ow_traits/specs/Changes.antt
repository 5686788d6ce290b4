-- What changes make of rows and of old rows.
use Rattle.std.specs.Prelude.{ℕ, List, [], ◌∷◌}
use Rattle.ow_traits.specs.Rows.{with_row, without}
use Rattle.ow_traits.specs.declared.change_list.Change.{Change}
use Rattle.ow_traits.specs.declared.change_list.Change.TheVariants.{Put, Drop as Dropped, Retire}

-- the rows after one change
abbrev pub after_change : Change → List (List ℕ × List ℕ) → List (List ℕ × List ℕ)
after_change (Put key text) rows = with_row rows key text
after_change (Dropped key) rows = without key rows
after_change (Retire key text) rows = without key rows

-- the old rows after one change
abbrev pub old_after_change : Change → List (List ℕ × List ℕ) → List (List ℕ × List ℕ)
old_after_change (Put key text) old_rows = old_rows
old_after_change (Dropped key) old_rows = old_rows
old_after_change (Retire key text) old_rows = with_row old_rows key text

-- the rows after the changes, the first of which is made first
abbrev pub changed : List Change → List (List ℕ × List ℕ) → List (List ℕ × List ℕ)
changed [] rows = rows
changed (change ∷ changes) rows = changed changes (after_change change rows)

-- the old rows after the changes
abbrev pub old_after : List Change → List (List ℕ × List ℕ) → List (List ℕ × List ℕ)
old_after [] old_rows = old_rows
old_after (change ∷ changes) old_rows = old_after changes (old_after_change change old_rows)
