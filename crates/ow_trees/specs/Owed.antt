-- Each child, and each end of a composite, is the step that is owed there.
use Rattle.std.specs.Prelude.{◌≡◌, ℕ, Option, Some, None}
use Rattle.ow_packages.specs.Access.{Standing}
use Rattle.ow_records.specs.declared.activations.Activation.{Activation}
use Rattle.ow_records.specs.declared.ids.Id.{Id}
use Rattle.ow_records.specs.declared.outcomes.Ending.{Ending}
use Rattle.ow_records.specs.declared.outcomes.Ending.TheVariants.{Composed}
use Rattle.ow_floor.specs.Trace.{Accepted, End, Ended, Item, Trace}
use Rattle.ow_trees.specs.Each.{AreEach}
use Rattle.ow_trees.specs.Steps.{step}

abbrev pub IsCalled : Standing → ℕ → Activation → Option Id → Trace → Type 0
IsCalled rs at a None T = Unit {0}
IsCalled rs at a (Some cause) T = step rs at T cause ≡ Some (Accepted a)

abbrev pub IsComposed : Standing → ℕ → End → Ending → Trace → Type 0
IsComposed rs at e (Composed response children) T = step rs at T e.task.id ≡ Some (Ended e)
IsComposed rs at e ending T = Unit {0}

-- a child that is accepted is what its cause owes, and a composite that ends owes its end
abbrev pub IsOwed : Standing → ℕ → Item → Trace → Type 0
IsOwed rs at (Accepted a) T = IsCalled rs at a a.cause T
IsOwed rs at (Ended e) T = IsComposed rs at e e.ending T
IsOwed rs at item T = Unit {0}

-- each of these items over the items before it
abbrev pub AreOwed : Standing → ℕ → Trace → Trace → Type 0
AreOwed rs at items T = AreEach (IsOwed rs at) items T
