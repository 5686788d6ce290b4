-- Laws of kept rows that are read.
use Rattle.std.specs.Prelude.{◌≡◌, ◌≤◌, List, map, false, Some, Ok}
use Rattle.std.specs.List.{AllByRecursion}
use Rattle.ow_traits.specs.Rows.{AreRows}
use Rattle.ow_tables.specs.Builtin.{is_builtin}
use Rattle.ow_row_text.specs.Item.{item_row}
use Rattle.ow_row_text.specs.Sorted.{Entries, rows_of}
use Rattle.ow_row_text.specs.declared.item.Item.{Item}
use Rattle.ow_keep.specs.Allowed.{item_at}
use Rattle.ow_keep.specs.Judged.{judged}
use Rattle.ow_keep.specs.Kept.{MayStand}
use Rattle.ow_keep.specs.Known.{IsItem}
use Rattle.ow_keep.specs.Moments.{greatest_kept_moment, parts_moment}
use Rattle.ow_keep.specs.Split.{HoldsItems, Parts, entries, split}
use Rattle.ow_keep.specs.declared.allowed.TheConstants.{GREATEST_MOMENT}

-- what is written of an item that is allowed among the rows is read as that item
abbrev pub ItemsReadBack : Type 0
ItemsReadBack = (all : Entries) (i : Item) → IsItem i → MayStand all i → item_at all (item_row i) ≡ Some i

-- the items of rows, each kind by itself, are entries whose rows they are
abbrev pub SplitIsKept : Type 0
SplitIsKept = (is : List Item) → AreRows (map item_row is) → rows_of (entries (split is)) ≡ map item_row is

-- the greatest moment of the items of rows is the same where each kind is taken by itself
abbrev pub MomentOfSplit : Type 0
MomentOfSplit = (is : List Item) → AreRows (map item_row is) → parts_moment (split is) ≡ greatest_kept_moment is

-- no moment of items that are allowed among the rows is after the greatest
abbrev pub MomentsAreSmall : Type 0
MomentsAreSmall = (all : Entries) (is : List Item) → AllByRecursion (MayStand all) is → AllByRecursion IsItem is → greatest_kept_moment is ≤ GREATEST_MOMENT

-- nor does one of items that rows are judged to be
abbrev pub JudgedMomentsAreSmall : Type 0
JudgedMomentsAreSmall = (all : Entries) (is : List Item) → judged all ≡ Ok is → greatest_kept_moment is ≤ GREATEST_MOMENT

-- no row of an entity that rows hold is there from the start
abbrev pub NoBuiltinIsHeld : Type 0
NoBuiltinIsHeld = (all : Entries) (p : Parts) → HoldsItems all p → AllByRecursion (λ r. is_builtin r ≡ false) p.entities
