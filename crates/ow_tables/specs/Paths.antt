-- Where a sequence contains itself: a path of components leads back to it.
use Rattle.std.specs.Prelude.{◌≡◌, ◌⊎◌, ◌↔◌, true, List, [], ◌∷◌, length, Some}
use Rattle.ow_names.specs.declared.full.FullName.{FullName}
use Rattle.ow_entity.specs.Exec.{components_of}
use Rattle.ow_entity.specs.declared.actions.Action.{Action}
use Rattle.ow_entity.specs.declared.rows.Row.{Row}
use Rattle.ow_packages.specs.Access.{Standing, action_at}
use Rattle.ow_tables.specs.Rows.{standing}
use Rattle.ow_tables.specs.Sequences.{is_named, leads_back, named_action}

abbrev pub IsIn : {A : Type 0} → A → List A → Type 0
IsIn x [] = ⊥
IsIn x (y ∷ ys) = (x ≡ y) ⊎ IsIn x ys

-- from these components to the goal by these actions: each is named by a component of the one before, and the last has the goal as a component
abbrev pub IsPath : Standing → FullName → List FullName → List Action → Type 0
IsPath standing goal components [] = (c : FullName) × (IsIn c components × (is_named (named_action standing c) goal ≡ true))
IsPath standing goal components (a ∷ rest) =
    (c : FullName) × (IsIn c components × ((action_at standing (named_action standing c) ≡ Some a) × IsPath standing goal (components_of a.exec) rest))

abbrev pub HasPathBack : List Row → Action → Type 0
HasPathBack all a = (path : List Action) × IsPath (standing all) a.name (components_of a.exec) path

-- a sequence is taken to contain itself exactly where it does
abbrev pub LoopsAreFound : Type 0
LoopsAreFound = (all : List Row) (a : Action) → (leads_back (standing all) (length all) a ≡ true) ↔ HasPathBack all a
