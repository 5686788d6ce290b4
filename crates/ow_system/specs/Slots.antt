-- For private clauses: what one slot of a crew adds to the results of a join.
use Rattle.std.specs.Prelude.{◌≡◌, ◌++◌, ◌∷◌, [], List, Option, Some, None}

-- the results, followed by the result of the task that is due, if there is one
abbrev pub OneDone : {T D : Type 0} → (T → D → Type 0) → Option T → List D → List D → Type 0
OneDone ends None old new = new ≡ old
OneDone ends (Some task) old new = (done : _) × ends task done × (new ≡ old ++ done ∷ [])
