-- The rows of activations that have not ended nest less deep than is read.
use Rattle.std.proofs.Common.{◌≡◌, ◌&&◌, ℕ, List, Bool, true, false, nat_le, Option, Some, None, refl}
use Rattle.std.specs.Str.{bytes_eq}
use Rattle.ow_value.specs.Nesting.{most_nested}
use Rattle.ow_value.specs.Value.{depth, members_of, object}
use Rattle.ow_names.specs.declared.full.FullName.{FullName}
use Rattle.ow_records.specs.declared.ids.Id.{Id}
use Rattle.ow_records.specs.declared.unrecorded.Unrecorded.{Unrecorded}
use Rattle.ow_row_text.specs.Item.{item_key, item_text, open_members}
use Rattle.ow_row_text.specs.declared.item.Item.TheVariants as items
use Rattle.ow_keep.specs.Allowed.{is_row_of, is_shallow}

by_parts : (b : Option FullName) (c : Option Id) (u : Unrecorded) → nat_le (depth (object (members_of (open_members b c u)))) most_nested ≡ true
by_parts None None u = refl
by_parts None (Some c) u = refl
by_parts (Some b) None u = refl
by_parts (Some b) (Some c) u = refl

pub opens_shallow : (u : Unrecorded) → is_shallow (items.Open u) ≡ true
opens_shallow u = by_parts u.binding u.cause u

and_true : (a b c : Bool) → c ≡ true → a && (b && c) ≡ a && b
and_true false b c h = refl
and_true true false c h = refl
and_true true true c h = h

-- so a row is one's own by its key and its text alone
pub open_rows : (u : Unrecorded) (r : List ℕ × List ℕ) → is_row_of (items.Open u) r ≡ (bytes_eq (item_key (items.Open u)) r.0 && bytes_eq (item_text (items.Open u)) r.1)
open_rows u r = and_true (bytes_eq (item_key (items.Open u)) r.0) (bytes_eq (item_text (items.Open u)) r.1) (is_shallow (items.Open u)) (opens_shallow u)
