-- Containers between runs, by the slot and its generation.
use Rattle.std.specs.Prelude.{◌≡◌, ◌==◌, ◌<◌, ◌&&◌, ◌++◌, ℕ, Bool, true, false, List, [], ◌∷◌, Option, Some, None, length, if◌then◌else◌}
use Rattle.std.specs.List.{list_any, remove}
use Rattle.ow_invoker.specs.declared.shelf.Laid.{Laid}

-- whether it lies in the slot, under this generation
abbrev pub is_at : {B : Type 0} → ℕ → ℕ → Laid B → Bool
is_at slot generation laid = (laid.slot == slot) && (laid.generation == generation)

-- whether one lies there
abbrev pub lies : {B : Type 0} → ℕ → ℕ → List (Laid B) → Bool
lies slot generation shelf = list_any (is_at slot generation) shelf

-- the shelf without it
unfoldable pub without : {B : Type 0} → ℕ → ℕ → List (Laid B) → List (Laid B)
without slot generation [] = []
without slot generation (laid ∷ shelf) = if is_at slot generation laid then shelf else laid ∷ without slot generation shelf

-- a container was laid there
abbrev pub IsLaid : {B : Type 0} → ℕ → ℕ → List (Laid B) → List (Laid B) → Type 0
IsLaid {B} slot generation old new = (container : B) × (new ≡ old ++ record { slot = slot; generation = generation; container = container } ∷ [])

-- ---- for private clauses

-- what a place says: none lies there, or the first does
abbrev pub IsPlaced : {B : Type 0} → ℕ → ℕ → List (Laid B) → Option ℕ → Type 0
IsPlaced slot generation shelf None = (lies slot generation shelf ≡ false) × (without slot generation shelf ≡ shelf)
IsPlaced slot generation shelf (Some place) = (lies slot generation shelf ≡ true) × (without slot generation shelf ≡ remove shelf place) × (place < length shelf)
