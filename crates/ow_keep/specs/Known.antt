-- What the types of an item's parts guarantee of it.
use Rattle.std.specs.Prelude.{◌<◌, ◌^◌, IfSome}
use Rattle.std.specs.Str.{IsUtf8}
use Rattle.ow_value.specs.Json.{IsObject}
use Rattle.ow_names.specs.FullName.{IsFullName}
use Rattle.ow_entity.specs.Exec.{exec_code}
use Rattle.ow_entity.specs.Fit.{IsFitPairs}
use Rattle.ow_entity.specs.FitAction.{IsFitAction}
use Rattle.ow_entity.specs.declared.actions.Action.{Action}
use Rattle.ow_entity.specs.declared.packages.Package.{Package}
use Rattle.ow_entity.specs.declared.rules.Rule.{Rule}
use Rattle.ow_entity.specs.declared.triggers.Trigger.{Trigger}
use Rattle.ow_entity.specs.declared.rows.Row.{Row as EntityRow}
use Rattle.ow_entity.specs.declared.rows.Row.TheVariants as rows
use Rattle.ow_records.specs.Known.{IsKnown, IsKnownUnrecorded}
use Rattle.ow_row_text.specs.declared.item.Item.{Item}
use Rattle.ow_row_text.specs.declared.item.Item.TheVariants.{Version, Archive, Count, Note, Row, Open, Done}

pub record IsKnownAction (a : Action) : Type 0 where
  pub name : IsFullName a.name
  pub version : a.version < 2 ^ 32
  pub params : IsObject a.params
  pub notes : IsObject a.notes
  pub code : IsUtf8 (exec_code a.exec)
  pub fits : IsFitAction a

pub record IsKnownPackage (p : Package) : Type 0 where
  pub name : IsFullName p.name
  pub version : p.version < 2 ^ 32
  pub params : IsObject p.params
  pub notes : IsObject p.notes
  pub fit_params : IsFitPairs p.params
  pub fit_notes : IsFitPairs p.notes
  pub binding : IfSome p.binding IsFullName

pub record IsKnownRule (r : Rule) : Type 0 where
  pub name : IsFullName r.name
  pub version : r.version < 2 ^ 32
  pub notes : IsObject r.notes
  pub fit_notes : IsFitPairs r.notes
  pub trigger : IsFullName r.trigger
  pub action : IsFullName r.action

pub record IsKnownTrigger (t : Trigger) : Type 0 where
  pub name : IsFullName t.name
  pub version : t.version < 2 ^ 32
  pub params : IsObject t.params
  pub notes : IsObject t.notes
  pub fit_params : IsFitPairs t.params
  pub fit_notes : IsFitPairs t.notes

abbrev pub IsKnownEntity : EntityRow → Type 0
IsKnownEntity (rows.Action a) = IsKnownAction a
IsKnownEntity (rows.Package p) = IsKnownPackage p
IsKnownEntity (rows.Rule r) = IsKnownRule r
IsKnownEntity (rows.Trigger t) = IsKnownTrigger t

abbrev pub IsItem : Item → Type 0
IsItem (Version v) = Unit {0}
IsItem (Archive a) = (a.last < 2 ^ 64) × (a.number < 2 ^ 64)
IsItem (Count namespace count) = (namespace < 2 ^ 64) × (count < 2 ^ 64)
IsItem (Note n) = IsUtf8 n.key × (n.value < 2 ^ 64)
IsItem (Row r) = IsKnownEntity r
IsItem (Open u) = IsKnownUnrecorded u
IsItem (Done r) = IsKnown r
