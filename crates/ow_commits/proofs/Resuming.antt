-- A floor may take over what rows hold.
use Rattle.std.proofs.Common.{◌≡◌, ◌==◌, ◌≤◌, ◌<◌, ◌^◌, ◌&&◌, ℕ, List, [], ◌∷◌, ◌++◌, Bool, true, false, cond, find, map, decimal, is_eq, nat_le, not, option_and_then, option_map, Option, Some, None, refl, sym, ap, ◌∙◌, subst, arith}
use Rattle.std.specs.List.{AllByRecursion, IsDistinct}
use Rattle.std.proofs.lemmas.Bool.{and_parts, leb-true}
use Rattle.std.proofs.lemmas.Bool.Decides.{nat_tests}
use Rattle.ow_value.specs.Value.{text_cmp}
use Rattle.ow_value.specs.Decimal.{digits_of}
use Rattle.ow_traits.specs.Rows.{AreRows, text_of}
use Rattle.ow_floor.specs.Growth.{AreResumable}
use Rattle.ow_floor.specs.View.{count_or_zero, is_in, last_of, same_namespace, same_record}
use Rattle.ow_floor.proofs.Apart.{all_both as paired}
use Rattle.ow_floor.proofs.Tallies.{eq_of}
use Rattle.ow_row_text.specs.Item.{count_key, done_key, item_row, item_text, open_key}
use Rattle.ow_row_text.specs.Lists.{Lacks}
use Rattle.ow_row_text.specs.Sorted.{Entries}
use Rattle.ow_row_text.specs.declared.item.Archive.{Archive as KeptArchive}
use Rattle.ow_row_text.specs.declared.item.Item.{Item}
use Rattle.ow_row_text.specs.declared.item.Item.TheVariants.{Version, Archive, Count, Note, Row, Open, Done}
use Rattle.ow_row_text.specs.declared.item.RowsVersion.{RowsVersion}
use Rattle.ow_row_text.proofs.Extent.{text_of-rows_of}
use Rattle.ow_row_text.proofs.Lists.{absent_kind}
use Rattle.ow_row_text.proofs.Parts.{or_text, text_of-append}
use Rattle.ow_keep.specs.Allowed.{has_record, is_counted, is_drawn}
use Rattle.ow_keep.specs.Kept.{AreKept, MayStand}
use Rattle.ow_keep.specs.Known.{IsItem}
use Rattle.ow_keep.specs.Split.{HoldsItems, Parts, archive_entries, entries as entries_of, main_entries, note_row, split, version_entries}
use Rattle.ow_keep.proofs.BuiltinLaws.{not_builtin_held}
use Rattle.ow_keep.proofs.Splits.{split_kept}
use Rattle.ow_commits.specs.Keeping.{AreIds, IsDrawn}
use Rattle.ow_commits.specs.Opening.{AreNotBuiltin, MayBeResumed, ResumedIdsAreKnown, abandoned, opened_trace, resumed_records}
use Rattle.ow_commits.proofs.Ids.{all_both}
use Rattle.ow_value.proofs.KeySearch.{turned_eq}
use Rattle.ow_commits.proofs.Keys.{count_other}
use Rattle.ow_commits.proofs.Opening.{none_recorded, open_apart}
use Rattle.ow_commits.proofs.Picking.{AreApartBy, apart_picked, counts_picked, dones_picked, each_picked, is_count, is_done, opens_picked, pick_count, pick_done, pick_open}
use Rattle.ow_commits.proofs.Sections.{both, count_of, done_of, open_of, row_of}
use Rattle.ow_commits.proofs.Taking.{HaveNoRecord, turn}
use Rattle.ow_commits.proofs.Weights.{here_by, or_none, same_key}
use Rattle.ow_records.specs.declared.ids.Id.{Id}
use Rattle.ow_records.specs.declared.record.Record.{Record}
use Rattle.ow_records.specs.declared.unrecorded.Unrecorded.{Unrecorded}
use Rattle.ow_records.specs.Id.{same_id}
use Rattle.ow_records.specs.Known.{IsId}
use Rattle.ow_records.proofs.IdLaws.{digits_of-decimal}
use Rattle.ow_traits.specs.declared.prewarms.Prewarm.{Prewarm}

-- ---- ids whose keys differ

other_number : (m n : ℕ) (b : Bool) → (m == n) ≡ b → is_eq (text_cmp (count_key m) (count_key n)) ≡ false → b ≡ false
other_number m n true e other =
    let is : m ≡ n = grind (arith, nat_tests) in
    let never : true ≡ false = sym (same_key (count_key m) (count_key n) (ap count_key is)) ∙ other in
    cc
other_number m n false e other = refl

other_id : (a b : Id) (s : Bool) → same_id a b ≡ s → is_eq (text_cmp (done_key a) (done_key b)) ≡ false → s ≡ false
other_id a b true e other =
    let never : true ≡ false = sym (same_key (done_key a) (done_key b) (ap done_key (eq_of a b e))) ∙ other in
    cc
other_id a b false e other = refl

other_counts : (id : Id) (ids : List Id) → Lacks count_of (count_key id.namespace) ids → AllByRecursion (λ y. same_namespace id y ≡ false) ids
other_counts id [] h = tt
other_counts id (x ∷ ids) h = (other_number id.namespace x.namespace (id.namespace == x.namespace) refl h.0, other_counts id ids h.1)

namespaces_apart : (ids : List Id) → AreApartBy count_of ids → IsDistinct same_namespace ids
unfolding IsDistinct
namespaces_apart [] h = tt
namespaces_apart (id ∷ ids) h = (other_counts id ids h.0, namespaces_apart ids h.1)

other_dones : (id : Id) (ds : List Record) → Lacks done_of (done_key id) ds → AllByRecursion (λ d. same_id id d.id ≡ false) ds
other_dones id [] h = tt
other_dones id (d ∷ ds) h = (other_id id d.id (same_id id d.id) refl h.0, other_dones id ds h.1)

other_opens : (at : ℕ) (id : Id) (us : List Unrecorded) → Lacks open_of (open_key id) us → AllByRecursion (λ (d : Record). same_id id d.id ≡ false) (abandoned at us)
other_opens at id [] h = tt
other_opens at id (u ∷ us) h = (other_id id u.id (same_id id u.id) refl h.0, other_opens at id us h.1)

opens_distinct : (at : ℕ) (us : List Unrecorded) → AreApartBy open_of us → IsDistinct same_record (abandoned at us)
unfolding IsDistinct
opens_distinct at [] h = tt
opens_distinct at (u ∷ us) h = (other_opens at u.id us h.0, opens_distinct at us h.1)

first_new : (at : ℕ) (d : Record) (ds : List Record) (us : List Unrecorded) → HaveNoRecord us (d ∷ ds) → AllByRecursion (λ (x : Record). same_id d.id x.id ≡ false) (abandoned at us)
first_new at d ds [] h = tt
first_new at d ds (u ∷ us) h = (other_id d.id u.id (same_id d.id u.id) refl (turn (done_key u.id) (done_key d.id) h.0.0), first_new at d ds us h.1)

rest_new : (d : Record) (ds : List Record) (us : List Unrecorded) → HaveNoRecord us (d ∷ ds) → HaveNoRecord us ds
rest_new d ds [] h = tt
rest_new d ds (u ∷ us) h = (h.0.1, rest_new d ds us h.1)

records_apart : (at : ℕ) (ds : List Record) (us : List Unrecorded) → AreApartBy done_of ds → AreApartBy open_of us → HaveNoRecord us ds → IsDistinct same_record (resumed_records at us ds)
unfolding IsDistinct
records_apart at [] us dones opens new = opens_distinct at us opens
records_apart at (d ∷ ds) us dones opens new =
    (all_both _ ds (abandoned at us) (other_dones d.id ds dones.0) (first_new at d ds us new), records_apart at ds us dones.1 opens (rest_new d ds us new))

-- ---- what was drawn

pub at_least : (n : ℕ) (b : Bool) → nat_le 1 n && b ≡ true → 1 ≤ n
at_least n b e = leb-true 1 n (and_parts (nat_le 1 n) b e).0

drawn_of : (all : Entries) (i : Item) (id : Id) → pick_count i ≡ Some id → MayStand all i × IsItem i → IsDrawn id
drawn_of all (Count n k) id e h =
    let is : ◌≡◌ {A = Id} (record { namespace = n; count = k }) id = cc in
    subst (λ (x : Id). IsDrawn x) is (record { is = record { namespace = h.1.0; count = h.1.1 }; drawn = at_least k _ h.0.allowed })
drawn_of all (Version v) id e h = cc
drawn_of all (Archive a) id e h = cc
drawn_of all (Note n) id e h = cc
drawn_of all (Row r) id e h = cc
drawn_of all (Open u) id e h = cc
drawn_of all (Done r) id e h = cc

counts_drawn : (all : Entries) (is : List Item) → AllByRecursion (MayStand all) is → AllByRecursion IsItem is → AllByRecursion IsDrawn (split is).counts
counts_drawn all is each known =
    subst (λ (ids : List Id). AllByRecursion IsDrawn ids) (sym (counts_picked is))
    (each_picked pick_count (λ i. MayStand all i × IsItem i) IsDrawn (drawn_of all) is (paired (MayStand all) IsItem is each known))

read_by : (n : ℕ) (x : Id) (xs : List Id) (b : Bool) → (x.namespace == n) ≡ b → n < 2 ^ 64 → IsDrawn x
    → option_and_then digits_of (text_of (count_key n) (map count_of xs)) ≡ option_map (λ (i : Id). i.count) (find (is_in n) xs)
    → option_and_then digits_of (text_of (count_key n) (map count_of (x ∷ xs))) ≡ option_map (λ (i : Id). i.count) (find (is_in n) (x ∷ xs))
unfolding item_text
read_by n x xs true e small h rest =
    let is : x.namespace ≡ n = grind (arith, nat_tests) in
    let there : is_eq (text_cmp (count_key n) (count_key x.namespace)) ≡ true = same_key (count_key n) (count_key x.namespace) (ap count_key (sym is)) in
    ap (option_and_then digits_of) (here_by (count_key n) (count_key x.namespace) (decimal x.count) (map count_of xs) true there)
    ∙ (digits_of-decimal x.count h.is.count
    ∙ ap (λ b. option_map (λ (i : Id). i.count) (cond b (Some x) (find (is_in n) xs))) (sym e))
read_by n x xs false e small h rest =
    let other : is_eq (text_cmp (count_key n) (count_key x.namespace)) ≡ false = count_other n x.namespace small h.is.namespace (turned_eq x.namespace n e) in
    ap (option_and_then digits_of) (here_by (count_key n) (count_key x.namespace) (decimal x.count) (map count_of xs) false other)
    ∙ (rest
    ∙ ap (λ b. option_map (λ (i : Id). i.count) (cond b (Some x) (find (is_in n) xs))) (sym e))

pub last_read : (n : ℕ) (ids : List Id) → n < 2 ^ 64 → AllByRecursion IsDrawn ids → option_and_then digits_of (text_of (count_key n) (map count_of ids)) ≡ option_map (λ (i : Id). i.count) (find (is_in n) ids)
last_read n [] small all = refl
last_read n (x ∷ ids) small all = read_by n x ids (x.namespace == n) refl small all.0 (last_read n ids small all.1)

no_version : (n : ℕ) (o : Option RowsVersion) → text_of (count_key n) (version_entries o) ≡ None
no_version n None = refl
no_version n (Some v) = refl

no_archive_row : (n : ℕ) (o : Option KeptArchive) → text_of (count_key n) (archive_entries o) ≡ None
no_archive_row n None = refl
no_archive_row n (Some a) = refl

count_there : (p : Parts) (n : ℕ) → text_of (count_key n) (entries_of p) ≡ text_of (count_key n) (map count_of p.counts)
count_there p n =
    text_of-append (count_key n) (archive_entries p.archive) (map note_row p.notes ++ main_entries p)
    ∙ ap (λ o. or_text o (text_of (count_key n) (map note_row p.notes ++ main_entries p))) (no_archive_row n p.archive)
    ∙ text_of-append (count_key n) (map note_row p.notes) (main_entries p)
    ∙ ap (λ o. or_text o (text_of (count_key n) (main_entries p))) (absent_kind note_row (count_key n) p.notes (λ x. refl))
    ∙ text_of-append (count_key n) (version_entries p.version) (map count_of p.counts ++ (map open_of p.unrecorded ++ (map done_of p.records ++ map row_of p.entities)))
    ∙ ap (λ o. or_text o (text_of (count_key n) (map count_of p.counts ++ (map open_of p.unrecorded ++ (map done_of p.records ++ map row_of p.entities))))) (no_version n p.version)
    ∙ text_of-append (count_key n) (map count_of p.counts) (map open_of p.unrecorded ++ (map done_of p.records ++ map row_of p.entities))
    ∙ or_none (text_of (count_key n) (map count_of p.counts)) (text_of (count_key n) (map open_of p.unrecorded ++ (map done_of p.records ++ map row_of p.entities)))
    (both (count_key n) (map open_of p.unrecorded) (map done_of p.records ++ map row_of p.entities) (absent_kind open_of (count_key n) p.unrecorded (λ x. refl))
    (both (count_key n) (map done_of p.records) (map row_of p.entities) (absent_kind done_of (count_key n) p.records (λ x. refl)) (absent_kind row_of (count_key n) p.entities (λ x. refl))))

within : (id : Id) (o : Option Id) → is_counted id (option_map (λ (i : Id). i.count) o) ≡ true → id.count ≤ count_or_zero o
within id None e = cc
within id (Some last) e =
    let h : nat_le id.count last.count ≡ true = second_true (nat_le 1 id.count) (nat_le id.count last.count) e in
    grind (arith, nat_tests)
  where
    second_true : (a b : Bool) → a && b ≡ true → b ≡ true
    second_true true b e = e
    second_true false b e = cc

id_within : (is : List Item) (id : Id) → AreRows (map item_row is) → AllByRecursion IsDrawn (split is).counts → IsId id → is_drawn (map item_row is) id ≡ true → id.count ≤ last_of (split is).counts id.namespace
id_within is id sorted drawn h e =
    let p = split is in
    let text : text_of (count_key id.namespace) (map item_row is) ≡ text_of (count_key id.namespace) (map count_of p.counts)
    = ap (text_of (count_key id.namespace)) (sym (split_kept is sorted)) ∙ text_of-rows_of (count_key id.namespace) (entries_of p) ∙ count_there p id.namespace in
    let read : option_and_then digits_of (text_of (count_key id.namespace) (map item_row is)) ≡ option_map (λ (i : Id). i.count) (find (is_in id.namespace) p.counts)
    = ap (option_and_then digits_of) text ∙ last_read id.namespace p.counts h.namespace drawn in
    within id (find (is_in id.namespace) p.counts) (subst (λ o. is_counted id o ≡ true) read e)

module _ (is : List Item) (sorted : AreRows (map item_row is)) (drawn : AllByRecursion IsDrawn (split is).counts) where
  abbrev Within : Id → Type 0
  Within id = id.count ≤ last_of (split is).counts id.namespace

  open_within : (i : Item) (u : Unrecorded) → pick_open i ≡ Some u → MayStand (map item_row is) i × IsItem i → Within u.id
  open_within (Open v) u e h =
      let same : v ≡ u = cc in
      subst (λ (x : Unrecorded). Within x.id) same (id_within is v.id sorted drawn h.1.id (and_parts (is_drawn (map item_row is) v.id) _ (and_parts (is_drawn (map item_row is) v.id && not (has_record (map item_row is) v.id)) _ h.0.allowed).0).0)
  open_within (Version v) u e h = cc
  open_within (Archive a) u e h = cc
  open_within (Note n) u e h = cc
  open_within (Count n c) u e h = cc
  open_within (Row r) u e h = cc
  open_within (Done r) u e h = cc

  done_within : (i : Item) (r : Record) → pick_done i ≡ Some r → MayStand (map item_row is) i × IsItem i → Within r.id
  done_within (Done d) r e h =
      let same : d ≡ r = cc in
      subst (λ (x : Record). Within x.id) same (id_within is d.id sorted drawn h.1.id (and_parts (is_drawn (map item_row is) d.id) _ h.0.allowed).0)
  done_within (Version v) r e h = cc
  done_within (Archive a) r e h = cc
  done_within (Note n) r e h = cc
  done_within (Count n c) r e h = cc
  done_within (Row x) r e h = cc
  done_within (Open u) r e h = cc

-- of what is known of open activations the same is known of their records
of_abandoned : (P : Id → Type 0) (at : ℕ) (us : List Unrecorded) → AllByRecursion (λ u. P u.id) us → AllByRecursion (λ (r : Record). P r.id) (abandoned at us)
of_abandoned P at [] h = tt
of_abandoned P at (u ∷ us) h = (h.0, of_abandoned P at us h.1)

split_resumed : (is : List Item) (at : ℕ) → AreRows (map item_row is) → AllByRecursion (MayStand (map item_row is)) is → AllByRecursion IsItem is
    → AreResumable (split is).counts (resumed_records at (split is).unrecorded (split is).records)
split_resumed is at sorted each known =
    let all = paired (MayStand (map item_row is)) IsItem is each known in
    let drawn = counts_drawn (map item_row is) is each known in
    record {
      namespaces = namespaces_apart (split is).counts (subst (λ (ids : List Id). AreApartBy count_of ids) (sym (counts_picked is)) (apart_picked pick_count count_of is_count is sorted));
      apart = records_apart at (split is).records (split is).unrecorded (subst (λ (ds : List Record). AreApartBy done_of ds) (sym (dones_picked is)) (apart_picked pick_done done_of is_done is sorted))
          (open_apart is sorted) (none_recorded is each);
      drawn = all_both _ (split is).records (abandoned at (split is).unrecorded)
          (subst (λ (ds : List Record). AllByRecursion (λ r. r.id.count ≤ last_of (split is).counts r.id.namespace) ds) (sym (dones_picked is))
          (each_picked pick_done _ (λ r. r.id.count ≤ last_of (split is).counts r.id.namespace) (done_within is sorted drawn) is all))
          (of_abandoned (λ id. id.count ≤ last_of (split is).counts id.namespace) at (split is).unrecorded
          (subst (λ (us : List Unrecorded). AllByRecursion (λ u. u.id.count ≤ last_of (split is).counts u.id.namespace) us) (sym (opens_picked is))
          (each_picked pick_open _ (λ u. u.id.count ≤ last_of (split is).counts u.id.namespace) (open_within is sorted drawn) is all)));
    }

resumed_of : (is : List Item) (all : Entries) (p : Parts) (at : ℕ) → all ≡ map item_row is → p ≡ split is → AreRows all → AllByRecursion (MayStand all) is → AllByRecursion IsItem is
    → AreResumable p.counts (resumed_records at p.unrecorded p.records)
resumed_of is all p at rows parts sorted each known =
    subst (λ (q : Parts). AreResumable q.counts (resumed_records at q.unrecorded q.records)) (sym parts)
    (split_resumed is at (subst AreRows rows sorted) (subst (λ (es : Entries). AllByRecursion (MayStand es) is) rows each) known)

pub may_be_resumed : MayBeResumed
may_be_resumed all p at sorted holds = resumed_of holds.items all p at holds.kept.rows holds.parts sorted holds.kept.each holds.known

-- ---- ids

open_id : (i : Item) (u : Unrecorded) → pick_open i ≡ Some u → IsItem i → IsId u.id
open_id (Open v) u e h = let same : v ≡ u = cc in subst (λ (x : Unrecorded). IsId x.id) same h.id
open_id (Version v) u e h = cc
open_id (Archive a) u e h = cc
open_id (Note n) u e h = cc
open_id (Count n c) u e h = cc
open_id (Row r) u e h = cc
open_id (Done r) u e h = cc

done_id : (i : Item) (r : Record) → pick_done i ≡ Some r → IsItem i → IsId r.id
done_id (Done d) r e h = let same : d ≡ r = cc in subst (λ (x : Record). IsId x.id) same h.id
done_id (Version v) r e h = cc
done_id (Archive a) r e h = cc
done_id (Note n) r e h = cc
done_id (Count n c) r e h = cc
done_id (Row x) r e h = cc
done_id (Open u) r e h = cc

split_ids : (all : Entries) (is : List Item) (at pool : ℕ) (wants : List Prewarm) → AllByRecursion (MayStand all) is → AllByRecursion IsItem is → AreIds (opened_trace at (split is) pool wants)
split_ids all is at pool wants each known = record {
  drawn = counts_drawn all is each known;
  opened = tt;
  ended = all_both _ (resumed_records at (split is).unrecorded (split is).records) [] (all_both _ (split is).records (abandoned at (split is).unrecorded)
      (subst (λ (ds : List Record). AllByRecursion (λ r. IsId r.id) ds) (sym (dones_picked is)) (each_picked pick_done IsItem (λ r. IsId r.id) done_id is known))
      (of_abandoned IsId at (split is).unrecorded (subst (λ (us : List Unrecorded). AllByRecursion (λ u. IsId u.id) us) (sym (opens_picked is)) (each_picked pick_open IsItem (λ u. IsId u.id) open_id is known)))) tt;
}

pub ids_known : ResumedIdsAreKnown
ids_known all p at pool wants holds =
    subst (λ (q : Parts). AreIds (opened_trace at q pool wants)) (sym holds.parts) (split_ids all holds.items at pool wants holds.kept.each holds.known)

-- of items that rows are
pub held_resumable : (at : ℕ) (rows : Entries) (is : List Item) → AreRows rows → AreKept rows is → AllByRecursion IsItem is → AreResumable (split is).counts (resumed_records at (split is).unrecorded (split is).records)
held_resumable at rows is sorted held known = resumed_of is rows (split is) at held.rows refl sorted held.each known

-- ---- rows of entities

pub not_builtin : (all : Entries) (p : Parts) → HoldsItems all p → AreNotBuiltin p.entities
not_builtin all p holds = not_builtin_held all p holds
