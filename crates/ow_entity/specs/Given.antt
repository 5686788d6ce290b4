-- What is known of a draft that a body gives.
use Rattle.std.specs.Prelude.{◌≡◌, ◌≤◌, true, not, is_some, List, Ok}
use Rattle.std.specs.List.{AllByRecursion}
use Rattle.ow_value.specs.Nesting.{most_nested}
use Rattle.ow_value.specs.Value.{V, depth}
use Rattle.ow_names.specs.FullName.{IsFullName}
use Rattle.ow_names.specs.declared.full.FullName.{FullName}
use Rattle.ow_entity.specs.Body.{entity_of}
use Rattle.ow_entity.specs.declared.kinds.EntityKind.{EntityKind}
use Rattle.ow_entity.specs.declared.kinds.EntityKind.TheVariants as kinds
use Rattle.ow_entity.specs.declared.rows.Draft.{Draft}

-- packages, rules and triggers are named outside packages
abbrev pub IsPlaced : EntityKind → FullName → Type 0
IsPlaced kinds.Action name = Unit {0}
IsPlaced kind name = not (is_some name.package) ≡ true

-- a body of at most the greatest nesting gives the draft, under a name at which its kind may be
pub record IsGiven (d : Draft) : Type 0 where
  pub kind : EntityKind
  pub name : FullName
  pub body : V
  pub within : depth body ≤ most_nested
  pub drafted : entity_of kind name body ≡ Ok d
  pub full : IsFullName name
  pub placed : IsPlaced kind name

-- so is each draft given
abbrev pub AreGiven : List Draft → Type 0
AreGiven ds = AllByRecursion IsGiven ds
