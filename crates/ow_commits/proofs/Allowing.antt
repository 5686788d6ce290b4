-- What is kept of fit items is allowed, and is read as these items.
use Rattle.std.proofs.Common.{◌≡◌, ◌≤◌, ◌&&◌, ℕ, Bool, true, false, cond, List, [], ◌∷◌, ◌++◌, codes, filter, find, map, nat_le, not, is_some, option_and_then, option_map, Option, Some, None, Ordering, Less, Equal, Greater, refl, sym, ap, ◌∙◌, inr, arith, Ok}
use Rattle.std.specs.List.{AllByRecursion, cons_option, filter_map}
use Rattle.std.specs.Ordering.{match_ordering}
use Rattle.std.proofs.lemmas.Bool.{and_from, and_parts, le-leb, leb-true}
use Rattle.ow_value.specs.Decimal.{digits_of}
use Rattle.ow_value.specs.Value.{text_cmp}
use Rattle.ow_value.proofs.KeySearch.{equal_texts}
use Rattle.ow_entity.specs.declared.rows.Row.{Row}
use Rattle.ow_traits.specs.Rows.{text_of, with_row}
use Rattle.ow_floor.specs.declared.activations.Open.{Open}
use Rattle.ow_floor.specs.declared.activations.State.{State}
use Rattle.ow_floor.specs.Laws.{IsSound, times}
use Rattle.ow_floor.specs.Trace.{Trace, accepted, accepted_ids, shown_records, drawn, last, open_items, open_of as opened, recorded, records, resumed, standing}
use Rattle.ow_floor.specs.View.{count_or_zero, ids_of, is_in}
use Rattle.ow_floor.proofs.Alters.{same_id_refl}
use Rattle.ow_floor.proofs.Apart.{all_both as paired}
use Rattle.ow_floor.proofs.Archives.{all_shown}
use Rattle.ow_floor.proofs.Drawn.{drawn_last}
use Rattle.ow_floor.proofs.Firsts.{all_more}
use Rattle.ow_floor.proofs.Fires.{accepted_once}
use Rattle.ow_row_text.specs.declared.item.Item.{Item}
use Rattle.ow_row_text.specs.declared.item.Item.TheVariants as items
use Rattle.ow_row_text.specs.Item.{count_key, done_key, item_key, item_row, item_text}
use Rattle.ow_row_text.specs.Sorted.{Entries, rows_of}
use Rattle.ow_row_text.specs.declared.item.Note.{Note}
use Rattle.ow_row_text.proofs.Extent.{text_of-rows_of}
use Rattle.ow_row_text.proofs.Lists.{absent}
use Rattle.ow_row_text.proofs.Parts.{or_text, text_of-append}
use Rattle.ow_keep.specs.Allowed.{has_archive, has_record, is_counted, is_drawn, is_entity, is_fit_open, is_fit_record}
use Rattle.ow_keep.specs.Kept.{AreKept, MayStand}
use Rattle.ow_keep.specs.Known.{IsItem}
use Rattle.ow_keep.specs.declared.allowed.TheConstants.{GREATEST_COUNT}
use Rattle.ow_keep.specs.Judged.{judged}
use Rattle.ow_keep.proofs.Whole.{judged-kept}
use Rattle.ow_commits.specs.Fit.{AreCountsSmall, AreFit, AreOthersFit, IsFit, KeptIsAllowed, by_key, put_item, whole_items}
use Rattle.ow_commits.specs.Keeping.{IsDrawn}
use Rattle.ow_commits.specs.Kept.{OthersView, count_item, entries, is_kept, kept_items, kept_whole, other_entries, other_items, unrecorded}
use Rattle.ow_commits.proofs.Ending.{no_resumed, of_open}
use Rattle.ow_commits.proofs.Ids.{all_both, lacks_done, nowhere}
use Rattle.ow_commits.proofs.Resuming.{at_least, last_read}
use Rattle.ow_commits.proofs.Sections.{done_of, entries_are, mapped, sections}
use Rattle.ow_commits.proofs.Untouched.{count_apart, done_apart}
use Rattle.ow_commits.proofs.Weights.{count_text, done_text}
use Rattle.ow_commits.proofs.Whole.{no_other}
use Rattle.ow_records.specs.declared.activations.Activation.{Activation}
use Rattle.ow_records.specs.declared.ids.Id.{Id}
use Rattle.ow_records.specs.declared.record.Record.{Record}
use Rattle.ow_records.specs.declared.unrecorded.Unrecorded.{Unrecorded}
use Rattle.ow_records.specs.Id.{same_id}
use Rattle.ow_records.specs.Known.{IsId}
use Rattle.ow_records.specs.Unrecorded.{unrecorded_of}
use Rattle.ow_tables.specs.Builtin.{is_builtin}

-- ---- items in the order of their keys

put_by : (i j : Item) (js : List Item) (o : Ordering) → text_cmp (item_key i) (item_key j) ≡ o → map item_row (put_item i js) ≡ with_row (map item_row js) (item_key i) (item_text i)
    → map item_row (match_ordering o (i ∷ j ∷ js) (i ∷ js) (j ∷ put_item i js))
    ≡ match_ordering o (item_row i ∷ item_row j ∷ map item_row js) ((item_key j, item_text i) ∷ map item_row js) (item_row j ∷ with_row (map item_row js) (item_key i) (item_text i))
put_by i j js Less e rest = refl
put_by i j js Equal e rest = ap (λ k. (k, item_text i) ∷ map item_row js) (equal_texts (item_key i) (item_key j) e)
put_by i j js Greater e rest = ap (λ es. item_row j ∷ es) rest

put_rows : (i : Item) (js : List Item) → map item_row (put_item i js) ≡ with_row (map item_row js) (item_key i) (item_text i)
put_rows i [] = refl
put_rows i (j ∷ js) = put_by i j js (text_cmp (item_key i) (item_key j)) refl (put_rows i js)

by_key_rows : (is : List Item) → map item_row (by_key is) ≡ rows_of (map item_row is)
unfolding by_key rows_of
by_key_rows [] = refl
by_key_rows (i ∷ is) = put_rows i (by_key is) ∙ ap (λ es. with_row es (item_key i) (item_text i)) (by_key_rows is)

put_all_by : (P : Item → Type 0) (i j : Item) (js : List Item) (o : Ordering) → P i → P j → AllByRecursion P js → AllByRecursion P (put_item i js)
    → AllByRecursion P (match_ordering o (i ∷ j ∷ js) (i ∷ js) (j ∷ put_item i js))
put_all_by P i j js Less h k all rest = (h, (k, all))
put_all_by P i j js Equal h k all rest = (h, all)
put_all_by P i j js Greater h k all rest = (k, rest)

put_all : (P : Item → Type 0) (i : Item) (js : List Item) → P i → AllByRecursion P js → AllByRecursion P (put_item i js)
put_all P i [] h all = (h, tt)
put_all P i (j ∷ js) h all = put_all_by P i j js (text_cmp (item_key i) (item_key j)) h all.0 all.1 (put_all P i js h all.1)

by_key_all : (P : Item → Type 0) (is : List Item) → AllByRecursion P is → AllByRecursion P (by_key is)
unfolding by_key
by_key_all P [] all = tt
by_key_all P (i ∷ is) all = put_all P i (by_key is) all.0 (by_key_all P is all.1)

-- ---- for each element

pub first_of : {X : Type 0} (P : X → Type 0) (xs ys : List X) → AllByRecursion P (xs ++ ys) → AllByRecursion P xs
first_of P [] ys all = tt
first_of P (x ∷ xs) ys all = (all.0, first_of P xs ys all.1)

pub rest_of : {X : Type 0} (P : X → Type 0) (xs ys : List X) → AllByRecursion P (xs ++ ys) → AllByRecursion P ys
rest_of P [] ys all = all
rest_of P (x ∷ xs) ys all = rest_of P xs ys all.1

from_mapped : {X Y : Type 0} (P : Y → Type 0) (f : X → Y) (xs : List X) → AllByRecursion P (map f xs) → AllByRecursion (λ x. P (f x)) xs
from_mapped P f [] all = tt
from_mapped P f (x ∷ xs) all = (all.0, from_mapped P f xs all.1)

pub to_mapped : {X Y : Type 0} (P : Y → Type 0) (f : X → Y) (xs : List X) → AllByRecursion (λ x. P (f x)) xs → AllByRecursion P (map f xs)
to_mapped P f [] all = tt
to_mapped P f (x ∷ xs) all = (all.0, to_mapped P f xs all.1)

passing_by : {X : Type 0} (p : X → Bool) (x : X) (xs : List X) (b : Bool) → p x ≡ b → AllByRecursion (λ y. p y ≡ true) (filter p xs) → AllByRecursion (λ y. p y ≡ true) (cond b (x ∷ filter p xs) (filter p xs))
passing_by p x xs true e rest = (e, rest)
passing_by p x xs false e rest = rest

passing : {X : Type 0} (p : X → Bool) (xs : List X) → AllByRecursion (λ y. p y ≡ true) (filter p xs)
passing p [] = tt
passing p (x ∷ xs) = passing_by p x xs (p x) refl (passing p xs)

-- ---- tests

counted_in : (id : Id) (o : Option Id) → 1 ≤ id.count → id.count ≤ count_or_zero o → is_counted id (option_map (λ (i : Id). i.count) o) ≡ true
counted_in id None some le = absurd (omega (arith, some, le))
counted_in id (Some last) some le = and_from (nat_le 1 id.count) (nat_le id.count last.count) (le-leb 1 id.count some) (le-leb id.count last.count le)

-- ---- activations that have not ended

-- each is there at least once
there : (n : Id → ℕ) (os : List Open) → ((id : Id) → times id (ids_of os) ≤ n id) → AllByRecursion (λ u. 1 ≤ n u.id) (of_open os)
there n [] h = tt
there n (o ∷ os) h =
    let here : same_id o.task.id o.task.id ≡ true = same_id_refl o.task.id in
    let one : ◌≡◌ {A = ℕ} (cond (same_id o.task.id o.task.id) 1 0) 1 = ap (λ b. cond b 1 0) here in
    let most = h o.task.id in
    (omega (arith, one, most), there n os (λ id. let more = h id in omega (arith, more)))

open_one : (P : Unrecorded → Type 0) (a : Activation) (s : Option State) (rest : List Open) → P (unrecorded_of a) → AllByRecursion P (of_open rest) → AllByRecursion P (of_open (cons_option (opened a s) rest))
open_one P a None rest h all = all
open_one P a (Some s) rest h all = (h, all)

-- what holds of all accepted activations holds of the ones that have not ended
open_all : (P : Unrecorded → Type 0) (T : Trace) (xs : List Activation) → AllByRecursion (λ a. P (unrecorded_of a)) xs → AllByRecursion P (of_open (filter_map (λ a. opened a (standing T a.id)) xs))
open_all P T [] all = tt
open_all P T (a ∷ xs) all = open_one P a (standing T a.id) (filter_map (λ x. opened x (standing T x.id)) xs) all.0 (open_all P T xs all.1)

-- ---- what is kept of a sound trace

drawn_of : (id : Id) → IsFit (count_item id) → IsDrawn id
drawn_of id f = record { is = record { namespace = f.known.0; count = f.known.1 }; drawn = leb-true 1 id.count f.fit }

module _ (o : OthersView) (rs : List Row) (T : Trace) (sound : IsSound T) (small : AreCountsSmall T) (fit : AreFit rs T) (others : AreOthersFit o) where
  abbrev W : Entries
  W = kept_whole o rs T

  abbrev F : List Row
  F = filter is_kept rs

  abbrev Behind : List Item
  Behind = map items.Row F ++ (map items.Open (unrecorded T) ++ map items.Done (shown_records T))

  counts_fit : AllByRecursion (λ id. IsFit (count_item id)) (drawn T)
  counts_fit = from_mapped IsFit count_item (drawn T) (first_of IsFit (map count_item (drawn T)) Behind fit.1)

  behind_fit : AllByRecursion IsFit Behind
  behind_fit = rest_of IsFit (map count_item (drawn T)) Behind fit.1

  rows_fit : AllByRecursion (λ r. IsFit (items.Row r)) F
  rows_fit = from_mapped IsFit items.Row F (first_of IsFit (map items.Row F) (map items.Open (unrecorded T) ++ map items.Done (shown_records T)) behind_fit)

  ended_fit : AllByRecursion IsFit (map items.Open (unrecorded T) ++ map items.Done (shown_records T))
  ended_fit = rest_of IsFit (map items.Row F) (map items.Open (unrecorded T) ++ map items.Done (shown_records T)) behind_fit

  opens_fit : AllByRecursion (λ u. IsFit (items.Open u)) (unrecorded T)
  opens_fit = from_mapped IsFit items.Open (unrecorded T) (first_of IsFit (map items.Open (unrecorded T)) (map items.Done (shown_records T)) ended_fit)

  dones_fit : AllByRecursion (λ r. IsFit (items.Done r)) (shown_records T)
  dones_fit = from_mapped IsFit items.Done (shown_records T) (rest_of IsFit (map items.Open (unrecorded T)) (map items.Done (shown_records T)) ended_fit)

  drawn_ids : AllByRecursion IsDrawn (drawn T)
  drawn_ids = all_more (λ id. IsFit (count_item id)) IsDrawn (drawn T) drawn_of counts_fit

  done_ids : AllByRecursion (λ (r : Record). IsId r.id) (shown_records T)
  done_ids = all_more (λ r. IsFit (items.Done r)) (λ r. IsId r.id) (shown_records T) (λ r f. f.known.id) dones_fit

  -- at a key that is neither that of the archive nor that of a note
  text_there : (q : List ℕ) → text_of q (other_entries o) ≡ None → text_of q W ≡ text_of q (sections (drawn T) F (unrecorded T) (shown_records T))
  unfolding kept_whole
  text_there q none =
      text_of-rows_of q (other_entries o ++ entries rs T)
      ∙ (text_of-append q (other_entries o) (entries rs T)
      ∙ (ap (λ x. or_text x (text_of q (entries rs T))) none
      ∙ ap (text_of q) (entries_are rs T)))

  archive_there : has_archive W ≡ true
  unfolding kept_whole
  archive_there = ap is_some (text_of-rows_of (codes "archived") (other_entries o ++ entries rs T))

  version_there : is_some (text_of (codes "version") W) ≡ true
  version_there = ap is_some (text_there (codes "version") (no_other (codes "version") o refl (λ (n : Note). refl)))

  -- ids that were drawn
  is_drawn_there : (id : Id) → IsId id → 1 ≤ id.count → id.count ≤ last T id.namespace → is_drawn W id ≡ true
  is_drawn_there id h some le =
      let last_is = drawn_last T id.namespace in
      ap (λ o. is_counted id (option_and_then digits_of o)) (text_there (count_key id.namespace) (count_apart o id.namespace) ∙ count_text (drawn T) F (unrecorded T) (shown_records T) id.namespace)
      ∙ ap (is_counted id) (last_read id.namespace (drawn T) h.namespace drawn_ids)
      ∙ counted_in id (find (is_in id.namespace) (drawn T)) some (omega (arith, le, last_is))

  -- and of an activation that has not ended there is no record
  no_record_there : (id : Id) → IsId id → 1 ≤ times id (ids_of (open_items T)) → has_record W id ≡ false
  no_record_there id h some =
      let parts = sound.once id in
      let most = accepted_once T id sound in
      let accepted_here : 1 ≤ times id (accepted_ids T) = omega (arith, parts, some) in
      let unrecorded_here : times id (recorded T) ≡ 0 = omega (arith, parts, some, most) in
      let differ = all_shown _ T sound (all_both _ (resumed T) (records T) (no_resumed id T sound accepted_here) (nowhere (λ (r : Record). r.id) id (records T) unrecorded_here)) in
      ap is_some (text_there (done_key id) (done_apart o id) ∙ done_text (drawn T) F (unrecorded T) (shown_records T) id ∙ absent done_of (done_key id) (shown_records T) (lacks_done id (shown_records T) h done_ids differ))

  -- ---- each item is allowed

  count_stands : (id : Id) → IsFit (count_item id) × (id.count ≤ GREATEST_COUNT) → MayStand W (count_item id)
  count_stands id h = record { shallow = refl; allowed = and_from (nat_le 1 id.count) (nat_le id.count GREATEST_COUNT) h.0.fit (le-leb id.count GREATEST_COUNT h.1) }

  row_stands : (r : Row) → IsFit (items.Row r) × (is_kept r ≡ true) → MayStand W (items.Row r)
  row_stands r h = record { shallow = h.0.shallow; allowed = and_from (is_entity r) (not (is_builtin r)) h.0.fit h.1 }

  open_stands : (u : Unrecorded) → IsFit (items.Open u) × ((1 ≤ times u.id (ids_of (open_items T))) × (u.id.count ≤ last T u.id.namespace)) → MayStand W (items.Open u)
  open_stands u h =
      let was_drawn = is_drawn_there u.id h.0.known.id (at_least u.id.count _ h.0.fit) h.1.1 in
      let none = ap not (no_record_there u.id h.0.known.id h.1.0) in
      record {
        shallow = h.0.shallow;
        allowed = and_from (is_drawn W u.id && not (has_record W u.id)) (is_fit_open u)
            (and_from (is_drawn W u.id) (not (has_record W u.id)) was_drawn none)
            (and_parts (nat_le 1 u.id.count) (is_fit_open u) h.0.fit).1;
      }

  done_stands : (r : Record) → IsFit (items.Done r) × (r.id.count ≤ last T r.id.namespace) → MayStand W (items.Done r)
  done_stands r h = record {
    shallow = h.0.shallow;
    allowed = and_from (is_drawn W r.id) (is_fit_record r) (is_drawn_there r.id h.0.known.id (at_least r.id.count _ h.0.fit) h.1)
        (and_parts (nat_le 1 r.id.count) (is_fit_record r) h.0.fit).1;
  }

  -- ---- all are allowed

  opens_within : AllByRecursion (λ u. u.id.count ≤ last T u.id.namespace) (unrecorded T)
  opens_within = open_all (λ u. u.id.count ≤ last T u.id.namespace) T (accepted T) sound.drawn

  opens_there : AllByRecursion (λ u. 1 ≤ times u.id (ids_of (open_items T))) (unrecorded T)
  opens_there = there (λ id. times id (ids_of (open_items T))) (open_items T) (λ id. omega arith)

  dones_within : AllByRecursion (λ (r : Record). r.id.count ≤ last T r.id.namespace) (shown_records T)
  dones_within = all_shown _ T sound (all_both _ (resumed T) (records T) sound.resumed.drawn sound.ended_drawn)

  opens_stand : AllByRecursion (λ u. MayStand W (items.Open u)) (unrecorded T)
  opens_stand = all_more _ (λ u. MayStand W (items.Open u)) (unrecorded T) open_stands (paired _ _ (unrecorded T) opens_fit (paired _ _ (unrecorded T) opens_there opens_within))

  dones_stand : AllByRecursion (λ r. MayStand W (items.Done r)) (shown_records T)
  dones_stand = all_more _ (λ r. MayStand W (items.Done r)) (shown_records T) done_stands (paired _ _ (shown_records T) dones_fit dones_within)

  all_stand : AllByRecursion (MayStand W) (kept_items rs T)
  all_stand = (
    record { shallow = refl; allowed = archive_there },
    all_both _ (map count_item (drawn T)) Behind (to_mapped _ count_item (drawn T) (all_more _ (λ id. MayStand W (count_item id)) (drawn T) count_stands (paired _ _ (drawn T) counts_fit small)))
        (all_both _ (map items.Row F) (map items.Open (unrecorded T) ++ map items.Done (shown_records T)) (to_mapped _ items.Row F (all_more _ (λ r. MayStand W (items.Row r)) F row_stands (paired _ _ F rows_fit (passing is_kept rs))))
        (all_both _ (map items.Open (unrecorded T)) (map items.Done (shown_records T)) (to_mapped _ items.Open (unrecorded T) opens_stand) (to_mapped _ items.Done (shown_records T) dones_stand))),
  )

  others_stand : AllByRecursion (MayStand W) (other_items o)
  others_stand = (
    record { shallow = refl; allowed = others.fit.0.fit },
    to_mapped (MayStand W) items.Note o.notes (all_more (λ n. IsFit (items.Note n)) (λ n. MayStand W (items.Note n)) o.notes (λ n f. record { shallow = refl; allowed = f.fit }) (from_mapped IsFit items.Note o.notes others.fit.1)),
  )

  whole_stand : AllByRecursion (MayStand W) (whole_items o rs T)
  whole_stand = all_both (MayStand W) (other_items o) (kept_items rs T) others_stand all_stand

  whole_rows : map item_row (whole_items o rs T) ≡ other_entries o ++ entries rs T
  whole_rows = ap (λ es. item_row (items.Archive o.archive) ∷ es) (mapped items.Note o.notes (kept_items rs T))

  rows_there : W ≡ map item_row (by_key (whole_items o rs T))
  unfolding kept_whole
  rows_there = sym (by_key_rows (whole_items o rs T) ∙ ap rows_of whole_rows)

  are_kept : AreKept W (by_key (whole_items o rs T))
  are_kept = record { rows = rows_there; each = by_key_all (MayStand W) (whole_items o rs T) whole_stand; version = inr version_there }

  all_items : AllByRecursion IsItem (by_key (whole_items o rs T))
  all_items = by_key_all IsItem (whole_items o rs T) (all_more IsFit IsItem (whole_items o rs T) (λ i f. f.known) (all_both IsFit (other_items o) (kept_items rs T) others.fit fit))

  allowed : judged W ≡ Ok (by_key (whole_items o rs T))
  allowed = judged-kept W (by_key (whole_items o rs T)) are_kept all_items

pub kept_allowed : KeptIsAllowed
kept_allowed o rs T sound small fit others = allowed o rs T sound small fit others
