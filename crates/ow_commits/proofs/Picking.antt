-- The items of one kind among the items of rows: no two of them have the same key.
use Rattle.std.proofs.Common.{◌≡◌, ℕ, List, [], ◌∷◌, Bool, true, false, cond, map, is_eq, Option, Some, None, refl, sym, ap, subst}
use Rattle.std.specs.List.{AllByRecursion}
use Rattle.std.specs.List.Sorted.{IsStrictlySortedBy}
use Rattle.ow_value.specs.Value.{text_cmp}
use Rattle.ow_entity.specs.declared.rows.Row.{Row as EntityRow}
use Rattle.ow_traits.specs.Rows.{AreRows, text_of}
use Rattle.ow_row_text.specs.Item.{item_key, item_row, item_text}
use Rattle.ow_row_text.specs.Lists.{Lacks}
use Rattle.ow_row_text.specs.declared.item.Item.{Item}
use Rattle.ow_row_text.specs.declared.item.Item.TheVariants.{Version, Archive, Count, Note, Row, Open, Done}
use Rattle.ow_row_text.proofs.Extent.{above_none}
use Rattle.ow_keep.specs.Split.{split}
use Rattle.ow_records.specs.declared.ids.Id.{Id}
use Rattle.ow_records.specs.declared.record.Record.{Record}
use Rattle.ow_records.specs.declared.unrecorded.Unrecorded.{Unrecorded}

pub none_of : (b : Bool) (t : List ℕ) (o : Option (List ℕ)) → cond b (Some t) o ≡ None → (b ≡ false) × (o ≡ None)
none_of true t o e = let f : ⊥ = cc in absurd f
none_of false t o e = (refl, e)

abbrev pub with_picked : {X : Type 0} → Option X → List X → List X
with_picked None xs = xs
with_picked (Some x) xs = x ∷ xs

abbrev pub picked : {X : Type 0} → (Item → Option X) → List Item → List X
picked pick [] = []
picked pick (i ∷ is) = with_picked (pick i) (picked pick is)

-- no two of these have one key
abbrev pub AreApartBy : {X : Type 0} → (X → List ℕ × List ℕ) → List X → Type 0
AreApartBy row [] = Unit {0}
AreApartBy row (x ∷ xs) = Lacks row (row x).0 xs × AreApartBy row xs

module _ {X : Type 0} (pick : Item → Option X) (row : X → List ℕ × List ℕ) (is_row : (i : Item) (x : X) → pick i ≡ Some x → row x ≡ item_row i) where
  lacks_by : (key : List ℕ) (i : Item) (xs : List X) (o : Option X) → pick i ≡ o → is_eq (text_cmp key (item_key i)) ≡ false → Lacks row key xs → Lacks row key (with_picked o xs)
  lacks_by key i xs None e other rest = rest
  lacks_by key i xs (Some x) e other rest = (subst (λ (r : List ℕ × List ℕ). is_eq (text_cmp key r.0) ≡ false) (sym (is_row i x e)) other, rest)

  -- a key that no item has
  pub lacks_picked : (key : List ℕ) (is : List Item) → text_of key (map item_row is) ≡ None → Lacks row key (picked pick is)
  lacks_picked key [] h = tt
  lacks_picked key (i ∷ is) h =
      let both = none_of (is_eq (text_cmp key (item_key i))) (item_text i) (text_of key (map item_row is)) h in
      lacks_by key i (picked pick is) (pick i) refl both.0 (lacks_picked key is both.1)

  apart_by : (i : Item) (xs : List X) (o : Option X) → pick i ≡ o → Lacks row (item_key i) xs → AreApartBy row xs → AreApartBy row (with_picked o xs)
  apart_by i xs None e lacks rest = rest
  apart_by i xs (Some x) e lacks rest = (subst (λ (r : List ℕ × List ℕ). Lacks row r.0 xs) (sym (is_row i x e)) lacks, rest)

  pub apart_picked : (is : List Item) → AreRows (map item_row is) → AreApartBy row (picked pick is)
  unfolding IsStrictlySortedBy
  apart_picked [] h = tt
  apart_picked (i ∷ is) h = apart_by i (picked pick is) (pick i) refl (lacks_picked (item_key i) is (above_none (item_key i) (map item_row is) h.0)) (apart_picked is h.1)

module _ {X : Type 0} (pick : Item → Option X) (P : Item → Type 0) (Q : X → Type 0) (told : (i : Item) (x : X) → pick i ≡ Some x → P i → Q x) where
  each_by : (i : Item) (xs : List X) (o : Option X) → pick i ≡ o → P i → AllByRecursion Q xs → AllByRecursion Q (with_picked o xs)
  each_by i xs None e h rest = rest
  each_by i xs (Some x) e h rest = (told i x e h, rest)

  pub each_picked : (is : List Item) → AllByRecursion P is → AllByRecursion Q (picked pick is)
  each_picked [] h = tt
  each_picked (i ∷ is) h = each_by i (picked pick is) (pick i) refl h.0 (each_picked is h.1)

-- ---- each kind

abbrev pub pick_count : Item → Option Id
pick_count (Count n c) = Some (record { namespace = n; count = c })
pick_count i = None

abbrev pub pick_open : Item → Option Unrecorded
pick_open (Open u) = Some u
pick_open i = None

abbrev pub pick_done : Item → Option Record
pick_done (Done r) = Some r
pick_done i = None

abbrev pub pick_row : Item → Option EntityRow
pick_row (Row r) = Some r
pick_row i = None

pub counts_picked : (is : List Item) → (split is).counts ≡ picked pick_count is
counts_picked [] = refl
counts_picked (Count n c ∷ is) = ap (λ xs. record { namespace = n; count = c } ∷ xs) (counts_picked is)
counts_picked (Version v ∷ is) = counts_picked is
counts_picked (Archive a ∷ is) = counts_picked is
counts_picked (Note n ∷ is) = counts_picked is
counts_picked (Row r ∷ is) = counts_picked is
counts_picked (Open u ∷ is) = counts_picked is
counts_picked (Done r ∷ is) = counts_picked is

pub opens_picked : (is : List Item) → (split is).unrecorded ≡ picked pick_open is
opens_picked [] = refl
opens_picked (Open u ∷ is) = ap (λ xs. u ∷ xs) (opens_picked is)
opens_picked (Version v ∷ is) = opens_picked is
opens_picked (Archive a ∷ is) = opens_picked is
opens_picked (Note n ∷ is) = opens_picked is
opens_picked (Count n c ∷ is) = opens_picked is
opens_picked (Row r ∷ is) = opens_picked is
opens_picked (Done r ∷ is) = opens_picked is

pub dones_picked : (is : List Item) → (split is).records ≡ picked pick_done is
dones_picked [] = refl
dones_picked (Done r ∷ is) = ap (λ xs. r ∷ xs) (dones_picked is)
dones_picked (Version v ∷ is) = dones_picked is
dones_picked (Archive a ∷ is) = dones_picked is
dones_picked (Note n ∷ is) = dones_picked is
dones_picked (Count n c ∷ is) = dones_picked is
dones_picked (Row r ∷ is) = dones_picked is
dones_picked (Open u ∷ is) = dones_picked is

pub rows_picked : (is : List Item) → (split is).entities ≡ picked pick_row is
rows_picked [] = refl
rows_picked (Row r ∷ is) = ap (λ xs. r ∷ xs) (rows_picked is)
rows_picked (Version v ∷ is) = rows_picked is
rows_picked (Archive a ∷ is) = rows_picked is
rows_picked (Note n ∷ is) = rows_picked is
rows_picked (Count n c ∷ is) = rows_picked is
rows_picked (Open u ∷ is) = rows_picked is
rows_picked (Done r ∷ is) = rows_picked is

pub is_count : (i : Item) (x : Id) → pick_count i ≡ Some x → item_row (Count x.namespace x.count) ≡ item_row i
is_count (Count n c) x e = let is : ◌≡◌ {A = Id} (record { namespace = n; count = c }) x = cc in ap (λ (y : Id). item_row (Count y.namespace y.count)) (sym is)
is_count (Version v) x e = cc
is_count (Archive a) x e = cc
is_count (Note n) x e = cc
is_count (Row r) x e = cc
is_count (Open u) x e = cc
is_count (Done r) x e = cc

pub is_open : (i : Item) (x : Unrecorded) → pick_open i ≡ Some x → item_row (Open x) ≡ item_row i
is_open (Open u) x e = let is : u ≡ x = cc in ap (λ y. item_row (Open y)) (sym is)
is_open (Version v) x e = cc
is_open (Archive a) x e = cc
is_open (Note n) x e = cc
is_open (Count n c) x e = cc
is_open (Row r) x e = cc
is_open (Done r) x e = cc

pub is_done : (i : Item) (x : Record) → pick_done i ≡ Some x → item_row (Done x) ≡ item_row i
is_done (Done r) x e = let is : r ≡ x = cc in ap (λ y. item_row (Done y)) (sym is)
is_done (Version v) x e = cc
is_done (Archive a) x e = cc
is_done (Note n) x e = cc
is_done (Count n c) x e = cc
is_done (Row r) x e = cc
is_done (Open u) x e = cc

pub is_entity : (i : Item) (x : EntityRow) → pick_row i ≡ Some x → item_row (Row x) ≡ item_row i
is_entity (Row r) x e = let is : r ≡ x = cc in ap (λ y. item_row (Row y)) (sym is)
is_entity (Version v) x e = cc
is_entity (Archive a) x e = cc
is_entity (Note n) x e = cc
is_entity (Count n c) x e = cc
is_entity (Open u) x e = cc
is_entity (Done r) x e = cc
