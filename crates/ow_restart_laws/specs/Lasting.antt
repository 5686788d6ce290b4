-- What lasts from event to event, so that what is kept is allowed at the next opening.
use Rattle.std.specs.Prelude.{◌≡◌, ◌≤◌, ◌==◌, ◌||◌, true, nat_le, List, IfSome}
use Rattle.std.specs.List.{AllByRecursion}
use Rattle.ow_names.specs.FullName.{IsFullName}
use Rattle.ow_entity.specs.Row.{name_of}
use Rattle.ow_entity.specs.declared.rows.Row.{Row}
use Rattle.ow_floor.specs.Trace.{Item, Trace, Accepted, Begun, Drawn, Ended, Fired, Ordered, Resumed}
use Rattle.ow_floor.specs.declared.runs.Run.{Run}
use Rattle.ow_row_text.specs.declared.item.Archive.{Archive}
use Rattle.ow_row_text.specs.declared.item.Item.{Item as KeptItem}
use Rattle.ow_row_text.specs.declared.item.Item.TheVariants as items
use Rattle.ow_keep.specs.Allowed.{is_called, is_formed, is_shallow}
use Rattle.ow_keep.specs.declared.allowed.TheConstants.{GREATEST_MOMENT}
use Rattle.ow_commits.specs.Fit.{is_fit}
use Rattle.ow_commits.specs.Kept.{OthersView}
use Rattle.ow_commits.specs.Shallow.{IsShallowEnding}
use Rattle.ow_records.specs.Notes.{kind_of}
use Rattle.ow_records.specs.declared.activations.Activation.{Activation}

-- an item that nests no deeper than is read, and is fit to be kept
pub record IsLasting (i : KeptItem) : Type 0 where
  pub shallow : is_shallow i ≡ true
  pub fit : is_fit i ≡ true

-- ---- rows

-- a row that is such an item, and whose name is a name by its parts: no two such names have the same text
pub record IsLastingRow (r : Row) : Type 0 where
  pub lasts : IsLasting (items.Row r)
  pub named : IsFullName (name_of r)

-- each row lasts
abbrev pub AreWritable : List Row → Type 0
AreWritable rs = AllByRecursion IsLastingRow rs

-- ---- the archive and the notes

-- no archived record ended after the greatest moment, and where none was archived, no end is the greatest
pub record IsLastingArchive (a : Archive) : Type 0 where
  pub early : a.last ≤ GREATEST_MOMENT
  pub some : (nat_le 1 a.number || a.last == 0) ≡ true

-- this is so of the archive, and each note is fit to be kept
pub record AreLastingOthers (o : OthersView) : Type 0 where
  pub archived : IsLastingArchive o.archive
  pub notes : AllByRecursion (λ n. IsLasting (items.Note n)) o.notes

-- ---- what happened

-- an activation counts from 1, as its cause and the version of its action do. It was accepted no later than the greatest moment, and was
-- called through no binding in a package. It is the activation of a sequence exactly where its action is one
pub record IsTimely (a : Activation) : Type 0 where
  pub counted : 1 ≤ a.id.count
  pub early : a.at ≤ GREATEST_MOMENT
  pub called : is_called a.cause a.action.version a.binding ≡ true
  pub formed : is_formed a.form (kind_of a.action.exec) ≡ true

-- a run was ordered, and began, no later than the greatest moment
pub record IsDue (r : Run) : Type 0 where
  pub ordered : r.at ≤ GREATEST_MOMENT
  pub began : IfSome r.begun (λ at. at ≤ GREATEST_MOMENT)

-- what is accepted, ordered, begun or ended is within the greatest moment, and so is what was taken over. An id that is drawn for a fire
-- counts from 1, and its record may be kept. What a composite answers nests no deeper than what a run answers
abbrev pub IsEarly : Item → Type 0
IsEarly (Accepted a) = IsTimely a
IsEarly (Ordered r key) = IsDue r
IsEarly (Begun run at) = at ≤ GREATEST_MOMENT
IsEarly (Ended e) = (e.at ≤ GREATEST_MOMENT) × IfSome e.run IsDue × IsShallowEnding e.ending
IsEarly (Drawn id at) = 1 ≤ id.count
IsEarly (Fired r) = IsLasting (items.Done r)
IsEarly (Resumed counts rs) = AllByRecursion (λ id. 1 ≤ id.count) counts × AllByRecursion (λ r. IsLasting (items.Done r)) rs
IsEarly item = Unit {0}

abbrev pub AreEarly : Trace → Type 0
AreEarly T = AllByRecursion IsEarly T
