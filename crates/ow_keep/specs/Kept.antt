-- Rows that are those of items, and the first bad row of others.
use Rattle.std.specs.Prelude.{◌≡◌, ◌⊎◌, ◌≢◌, ℕ, List, [], ◌∷◌, ◌++◌, map, true, false, codes, is_some}
use Rattle.std.specs.List.{AllByRecursion}
use Rattle.ow_traits.specs.Rows.{text_of}
use Rattle.ow_row_text.specs.Item.{item_row}
use Rattle.ow_row_text.specs.Sorted.{Entries}
use Rattle.ow_row_text.specs.declared.item.Item.{Item}
use Rattle.ow_keep.specs.Allowed.{is_shallow, is_allowed}
use Rattle.ow_keep.specs.Known.{IsItem}
use Rattle.ow_keep.specs.declared.refusal.KeepRefusal.{KeepRefusal}
use Rattle.ow_keep.specs.declared.refusal.KeepRefusal.TheVariants.{BadKept, NoMemory}

-- the item is allowed among the rows
pub record MayStand (all : Entries) (i : Item) : Type 0 where
  pub shallow : is_shallow i ≡ true
  pub allowed : is_allowed all i ≡ true

-- the rows are those of the items
pub record AreKept (all : Entries) (is : List Item) : Type 0 where
  pub rows : all ≡ map item_row is
  pub each : AllByRecursion (MayStand all) is
  pub version : all ≡ [] ⊎ is_some (text_of (codes "version") all) ≡ true

-- each row before the key is that of an allowed item, and the row of the key is that of none
pub record IsFirstBad (all rows : Entries) (key : List ℕ) : Type 0 where
  pub text : List ℕ
  pub before : List Item
  pub behind : Entries
  pub whole : rows ≡ map item_row before ++ (key, text) ∷ behind
  pub good : AllByRecursion (MayStand all) before
  pub bad : (i : Item) → IsItem i → MayStand all i → item_row i ≢ (key, text)

-- no row is bad, and the row of the version is missing
pub record LacksVersion (all : Entries) (key : List ℕ) : Type 0 where
  pub names : key ≡ codes "version"
  pub missing : is_some (text_of (codes "version") all) ≡ false
  pub items : List Item
  pub rows : all ≡ map item_row items
  pub good : AllByRecursion (MayStand all) items

abbrev pub IsBadRow : Entries → List ℕ → Type 0
IsBadRow all key = IsFirstBad all all key ⊎ LacksVersion all key

abbrev pub TellsBad : Entries → KeepRefusal → Type 0
TellsBad all (BadKept key) = IsBadRow all key
TellsBad all NoMemory = Unit {0}
