-- What a keeper does with the rows and the old rows that it reports, and when it may fail.
use Rattle.std.specs.Prelude.{◌≡◌, ◌≤◌, ℕ, List, Option, Some, None, Result, Ok, Err}
use Rattle.ow_traits.specs.Changes.{changed, old_after}
use Rattle.ow_traits.specs.Streams.{Rose}
use Rattle.ow_traits.specs.Telling.{Attempt, made, unmade}
use Rattle.ow_traits.specs.declared.change_list.Change.{Change}
use Rattle.ow_traits.specs.declared.keepers.KeeperError.{KeeperError}
use Rattle.ow_traits.specs.declared.keepers.KeeperError.TheVariants.{Failed}

-- a count of faults doesn't fall, and the store fails only where it rose; out of memory needs no fault
pub record KeepsCause {T : Type 0} (before now : ℕ) (result : Result T KeeperError) : Type 0 where
  pub later : before ≤ now
  pub rose : result ≡ Err Failed → Rose before now

-- the requested commit, by its result
abbrev pub attempt_of : {T : Type 0} → List Change → Result T KeeperError → Attempt
attempt_of changes (Ok done) = made changes
attempt_of changes (Err e) = unmade changes

-- a load from a keeper that reports its rows: these rows, which stay
abbrev pub Loads : Option (List (List ℕ × List ℕ)) → Option (List (List ℕ × List ℕ)) → Result (List (List ℕ × List ℕ)) KeeperError → Type 0
Loads None new result = new ≡ None
Loads (Some rows) new (Ok loaded) = (loaded ≡ rows) × (new ≡ Some rows)
Loads (Some rows) new (Err e) = new ≡ Some rows

-- a commit to a keeper that reports its rows: all the changes in order, or none
abbrev pub Commits : {T : Type 0} → Option (List (List ℕ × List ℕ)) → Option (List (List ℕ × List ℕ)) → List Change → Result T KeeperError → Type 0
Commits None new changes result = new ≡ None
Commits (Some rows) new changes (Ok done) = new ≡ Some (changed changes rows)
Commits (Some rows) new changes (Err e) = new ≡ Some rows

-- the same commit to a keeper that reports its old rows: those that all the changes retire are among them, or none
abbrev pub Retires : {T : Type 0} → Option (List (List ℕ × List ℕ)) → Option (List (List ℕ × List ℕ)) → List Change → Result T KeeperError → Type 0
Retires None new changes result = new ≡ None
Retires (Some old_rows) new changes (Ok done) = new ≡ Some (old_after changes old_rows)
Retires (Some old_rows) new changes (Err e) = new ≡ Some old_rows
