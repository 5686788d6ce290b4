-- Commits after others.
use Rattle.std.proofs.Common.{◌≡◌, ℕ, List, [], ◌∷◌, ◌++◌, refl}
use Rattle.ow_traits.specs.Changes.{changed, old_after}
use Rattle.ow_traits.specs.Telling.{Attempt, made}
use Rattle.ow_traits.specs.declared.change_list.Change.{Change}
use Rattle.ow_whisk.specs.Unkept.{attempts_behind, old_rows_behind, rows_behind}

-- one more commit changes the rows that those before it made
pub rows_behind_one : (cs : List (List Change × Unit {0})) (c : List Change × Unit {0}) (rows : List (List ℕ × List ℕ)) → rows_behind (cs ++ c ∷ []) rows ≡ changed c.0 (rows_behind cs rows)
rows_behind_one [] c rows = refl
rows_behind_one (x ∷ cs) c rows = rows_behind_one cs c (changed x.0 rows)

-- and the old rows
pub old_rows_behind_one : (cs : List (List Change × Unit {0})) (c : List Change × Unit {0}) (old_rows : List (List ℕ × List ℕ)) → old_rows_behind (cs ++ c ∷ []) old_rows ≡ old_after c.0 (old_rows_behind cs old_rows)
old_rows_behind_one [] c old_rows = refl
old_rows_behind_one (x ∷ cs) c old_rows = old_rows_behind_one cs c (old_after x.0 old_rows)

-- and it is the newest
pub attempts_behind_one : (cs : List (List Change × Unit {0})) (c : List Change × Unit {0}) (before : List Attempt) → attempts_behind (cs ++ c ∷ []) before ≡ made c.0 ∷ attempts_behind cs before
attempts_behind_one [] c before = refl
attempts_behind_one (x ∷ cs) c before = attempts_behind_one cs c (made x.0 ∷ before)
