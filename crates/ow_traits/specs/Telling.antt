-- What a keeper reports of itself.
use Rattle.std.specs.Prelude.{ℕ, Bool, true, false, List, ◌∷◌, Option, Some, None}
use Rattle.ow_traits.specs.declared.change_list.Change.{Change}

-- a requested commit: its changes, and whether they were made
pub record Attempt : Type 0 where
  pub changes : List Change
  pub made : Bool

-- the rows, the old rows, how many calls failed, and the requested commits, the newest first: rows, old rows and commits where the keeper
-- reports them
pub record Telling : Type 0 where
  pub rows : Option (List (List ℕ × List ℕ))
  pub old_rows : Option (List (List ℕ × List ℕ))
  pub faults : ℕ
  pub commits : Option (List Attempt)

-- a commit whose changes were made, and one that failed
abbrev pub made : List Change → Attempt
made changes = record { changes = changes; made = true }

abbrev pub unmade : List Change → Attempt
unmade changes = record { changes = changes; made = false }

-- one commit more
abbrev pub with_attempt : Attempt → Option (List Attempt) → Option (List Attempt)
with_attempt attempt None = None
with_attempt attempt (Some before) = Some (attempt ∷ before)
