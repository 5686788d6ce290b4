-- Items that are allowed at the next opening, and in which order they are read then.
use Rattle.std.specs.Prelude.{◌≡◌, ◌≤◌, ◌&&◌, ◌++◌, Bool, true, List, [], ◌∷◌, nat_le, Ok}
use Rattle.std.specs.List.{AllByRecursion}
use Rattle.std.specs.Ordering.{match_ordering}
use Rattle.ow_value.specs.Value.{text_cmp}
use Rattle.ow_entity.specs.declared.rows.Row.{Row}
use Rattle.ow_floor.specs.Laws.{IsSound}
use Rattle.ow_floor.specs.Trace.{Trace, drawn}
use Rattle.ow_row_text.specs.Item.{item_key}
use Rattle.ow_row_text.specs.declared.item.Item.{Item}
use Rattle.ow_row_text.specs.declared.item.Item.TheVariants as items
use Rattle.ow_keep.specs.Allowed.{is_archive, is_entity, is_fit_open, is_fit_record, is_note, is_shallow}
use Rattle.ow_keep.specs.Judged.{judged}
use Rattle.ow_keep.specs.Known.{IsItem}
use Rattle.ow_keep.specs.declared.allowed.TheConstants.{GREATEST_COUNT}
use Rattle.ow_commits.specs.Kept.{OthersView, kept_items, kept_whole, other_items}

-- ---- which items are fit

-- what is required of an item alone: counts and versions begin with 1, its moments and durations are within the greatest, a package is in
-- no package, and a binding names a package, also where an activation was called through it
abbrev pub is_fit : Item → Bool
is_fit (items.Version v) = true
is_fit (items.Archive a) = is_archive a
is_fit (items.Note n) = is_note n
is_fit (items.Count namespace count) = nat_le 1 count
is_fit (items.Row r) = is_entity r
is_fit (items.Open u) = nat_le 1 u.id.count && is_fit_open u
is_fit (items.Done r) = nat_le 1 r.id.count && is_fit_record r

-- what the item's type guarantees of it holds, it nests no deeper than is read, and it is fit
pub record IsFit (i : Item) : Type 0 where
  pub known : IsItem i
  pub shallow : is_shallow i ≡ true
  pub fit : is_fit i ≡ true

-- each item that is kept of these rows and this trace is fit in this way
abbrev pub AreFit : List Row → Trace → Type 0
AreFit rs T = AllByRecursion IsFit (kept_items rs T)

-- so is the archive, and so is each note
pub record AreOthersFit (o : OthersView) : Type 0 where
  pub fit : AllByRecursion IsFit (other_items o)

-- all that is kept
abbrev pub whole_items : OthersView → List Row → Trace → List Item
whole_items o rs T = other_items o ++ kept_items rs T

-- no last count of a namespace passes the greatest
abbrev pub AreCountsSmall : Trace → Type 0
AreCountsSmall T = AllByRecursion (λ id. id.count ≤ GREATEST_COUNT) (drawn T)

-- ---- the order of their keys

-- the item at its place, in place of one with its key
abbrev pub put_item : Item → List Item → List Item
put_item i [] = i ∷ []
put_item i (j ∷ js) = match_ordering (text_cmp (item_key i) (item_key j)) (i ∷ j ∷ js) (i ∷ js) (j ∷ put_item i js)

-- the items in the order of their keys; of two with one key the first
unfoldable pub by_key : List Item → List Item
by_key [] = []
by_key (i ∷ is) = put_item i (by_key is)

-- ---- laws

-- all that is kept, of a sound trace, is allowed where its items are fit and no count passes the greatest: it is judged to be just these
-- items, in the order of their keys
abbrev pub KeptIsAllowed : Type 0
KeptIsAllowed = (o : OthersView) (rs : List Row) (T : Trace) → IsSound T → AreCountsSmall T → AreFit rs T → AreOthersFit o
    → judged (kept_whole o rs T) ≡ Ok (by_key (whole_items o rs T))
