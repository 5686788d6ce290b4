-- Keys of different ids, namespaces and rows differ.
use Rattle.std.proofs.Common.{◌≡◌, ◌==◌, ℕ, ◌<◌, ◌^◌, List, Bool, true, false, Some, is_eq, refl, sym, ap, ◌∙◌, subst, arith}
use Rattle.std.proofs.lemmas.Bool.Decides.{nat_tests}
use Rattle.ow_value.specs.Value.{text_cmp}
use Rattle.ow_value.proofs.KeySearch.{equal_texts, is_equal}
use Rattle.ow_entity.specs.declared.rows.Row.{Row}
use Rattle.ow_entity.specs.declared.rows.Row.TheVariants as rows
use Rattle.ow_floor.proofs.Alters.{same_id_refl}
use Rattle.ow_row_text.specs.declared.item.Item.TheVariants as items
use Rattle.ow_row_text.specs.Item.{count_key, done_key, item_key, open_key}
use Rattle.ow_records.specs.declared.ids.Id.{Id}
use Rattle.ow_records.specs.Id.{hex_16, hex_number, id_of, id_text, same_id}
use Rattle.ow_records.specs.Known.{IsId}
use Rattle.ow_records.proofs.IdLaws.{hex_number-hex_16, id_back}
use Rattle.ow_tables.specs.Rows.{key_of}

-- texts that are not the same
other_by : (x y : List ℕ) (b : Bool) → is_eq (text_cmp x y) ≡ b → (x ≡ y → ⊥) → b ≡ false
other_by x y true e differ = absurd (differ (equal_texts x y (is_equal (text_cmp x y) e)))
other_by x y false e differ = refl

pub other : (x y : List ℕ) → (x ≡ y → ⊥) → is_eq (text_cmp x y) ≡ false
other x y differ = other_by x y (is_eq (text_cmp x y)) refl differ

ids_are : (a b : Id) → IsId a → IsId b → same_id a b ≡ false → id_text a ≡ id_text b → ⊥
ids_are a b ha hb differ e =
    let same : Some a ≡ Some b = sym (id_back a ha) ∙ ap id_of e ∙ id_back b hb in
    let is : a ≡ b = cc in
    let yes : same_id a b ≡ true = subst (λ (x : Id). same_id a x ≡ true) is (same_id_refl a) in
    cc

id_other : (a b : Id) → IsId a → IsId b → same_id a b ≡ false → is_eq (text_cmp (id_text a) (id_text b)) ≡ false
id_other a b ha hb differ = other (id_text a) (id_text b) (ids_are a b ha hb differ)

pub open_other : (a b : Id) → IsId a → IsId b → same_id a b ≡ false → is_eq (text_cmp (open_key a) (open_key b)) ≡ false
open_other a b ha hb differ = id_other a b ha hb differ

pub done_other : (a b : Id) → IsId a → IsId b → same_id a b ≡ false → is_eq (text_cmp (done_key a) (done_key b)) ≡ false
done_other a b ha hb differ = id_other a b ha hb differ

numbers_are : (m n : ℕ) → m < 2 ^ 64 → n < 2 ^ 64 → (m == n) ≡ false → hex_16 m ≡ hex_16 n → ⊥
numbers_are m n hm hn differ e =
    let same : Some m ≡ Some n = sym (hex_number-hex_16 m hm) ∙ ap hex_number e ∙ hex_number-hex_16 n hn in
    let is : m ≡ n = cc in
    grind (arith, nat_tests)

pub count_other : (m n : ℕ) → m < 2 ^ 64 → n < 2 ^ 64 → (m == n) ≡ false → is_eq (text_cmp (count_key m) (count_key n)) ≡ false
count_other m n hm hn differ = other (hex_16 m) (hex_16 n) (numbers_are m n hm hn differ)

-- rows have one key where tables have them in one place
pub row_keys : (r x : Row) → is_eq (text_cmp (item_key (items.Row r)) (item_key (items.Row x))) ≡ is_eq (text_cmp (key_of r) (key_of x))
row_keys (rows.Action a) (rows.Action b) = refl
row_keys (rows.Action a) (rows.Package q) = refl
row_keys (rows.Action a) (rows.Rule s) = refl
row_keys (rows.Action a) (rows.Trigger u) = refl
row_keys (rows.Package p) (rows.Action b) = refl
row_keys (rows.Package p) (rows.Package q) = refl
row_keys (rows.Package p) (rows.Rule s) = refl
row_keys (rows.Package p) (rows.Trigger u) = refl
row_keys (rows.Rule r) (rows.Action b) = refl
row_keys (rows.Rule r) (rows.Package q) = refl
row_keys (rows.Rule r) (rows.Rule s) = refl
row_keys (rows.Rule r) (rows.Trigger u) = refl
row_keys (rows.Trigger t) (rows.Action b) = refl
row_keys (rows.Trigger t) (rows.Package q) = refl
row_keys (rows.Trigger t) (rows.Rule s) = refl
row_keys (rows.Trigger t) (rows.Trigger u) = refl
