-- How many bytes the kept rows have after a change.
use Rattle.std.proofs.Common.{◌≡◌, ◌==◌, ◌+◌, ◌≤◌, ◌<◌, ◌^◌, ℕ, Bool, true, false, cond, List, [], ◌∷◌, ◌++◌, length, map, filter, find, is_eq, Option, Some, None, refl, sym, ap, ◌∙◌, subst, arith}
use Rattle.std.specs.List.{AllByRecursion}
use Rattle.std.proofs.lemmas.Bool.Decides.{nat_tests}
use Rattle.ow_value.specs.Value.{text_cmp}
use Rattle.ow_entity.specs.declared.rows.Row.{Row}
use Rattle.ow_entity.specs.Row.{kind_of, name_of}
use Rattle.ow_traits.specs.Rows.{text_of, with_row, without}
use Rattle.ow_traits.specs.declared.change_list.Change.TheVariants.{Put, Drop as Dropped}
use Rattle.ow_floor.specs.View.{count_or_zero, is_in, last_of}
use Rattle.ow_floor.proofs.Apart.{turned}
use Rattle.ow_floor.proofs.Tallies.{eq_of}
use Rattle.ow_row_text.specs.declared.item.Item.TheVariants as items
use Rattle.ow_row_text.specs.Bytes.{bytes_of, weight, weight_at}
use Rattle.ow_row_text.specs.Item.{count_key, done_key, entity_key, item_text, open_key}
use Rattle.ow_row_text.specs.Sorted.{Entries, Makes, rows_of}
use Rattle.ow_row_text.proofs.Bytes.{drop_weighs, put_weighs, weight_at-rows_of}
use Rattle.ow_row_text.proofs.Extent.{AreRows-rows_of, changes_kept, same}
use Rattle.ow_row_text.proofs.Lists.{absent_kind}
use Rattle.ow_row_text.proofs.Parts.{or_text, text_of-append}
use Rattle.ow_commits.specs.Keeping.{IsDrawn, bytes_at, last_bytes, old_bytes, open_bytes, row_bytes}
use Rattle.ow_commits.specs.Kept.{is_kept}
use Rattle.ow_value.proofs.KeySearch.{turned_eq}
use Rattle.ow_commits.proofs.Keys.{count_other, open_other}
use Rattle.ow_commits.proofs.Sections.{both, count_of, done_no_count, done_no_open, done_no_row, done_of, id_no_count, id_no_done, id_no_row, open_of, row_no_count, row_no_done, row_no_open, row_of, sections, version}
use Rattle.ow_commits.proofs.TableRows.{equal_by, is_place, kept_alike, other_by, places_are}
use Rattle.ow_records.specs.declared.ids.Id.{Id}
use Rattle.ow_records.specs.declared.record.Record.{Record}
use Rattle.ow_records.specs.declared.unrecorded.Unrecorded.{Unrecorded}
use Rattle.ow_records.specs.Id.{same_id}
use Rattle.ow_records.specs.Known.{IsId}
use Rattle.ow_tables.specs.Rows.{found, is_row}

pub put_bytes : (key text : List ℕ) (old new : Entries) → Makes (Put key text ∷ []) old new → bytes_of (rows_of new) + weight_at key old ≡ bytes_of (rows_of old) + (length key + length text)
put_bytes key text old new h =
    subst (λ (rows : Entries). bytes_of rows + weight_at key old ≡ bytes_of (rows_of old) + (length key + length text)) (changes_kept (Put key text ∷ []) old new h)
    (subst (λ w. bytes_of (with_row (rows_of old) key text) + w ≡ bytes_of (rows_of old) + (length key + length text)) (weight_at-rows_of key old)
    (put_weighs key text (rows_of old) (AreRows-rows_of old)))

pub drop_bytes : (key : List ℕ) (old new : Entries) → Makes (Dropped key ∷ []) old new → bytes_of (rows_of new) + weight_at key old ≡ bytes_of (rows_of old)
drop_bytes key old new h =
    subst (λ (rows : Entries). bytes_of rows + weight_at key old ≡ bytes_of (rows_of old)) (changes_kept (Dropped key ∷ []) old new h)
    (subst (λ w. bytes_of (without key (rows_of old)) + w ≡ bytes_of (rows_of old)) (weight_at-rows_of key old)
    (drop_weighs key (rows_of old) (AreRows-rows_of old)))

-- ---- the text at a key

pub or_none : (o p : Option (List ℕ)) → p ≡ None → or_text o p ≡ o
or_none None p e = e
or_none (Some t) p e = refl

-- of a section alone
alone : (key : List ℕ) (before here behind : Entries) → text_of key before ≡ None → text_of key behind ≡ None → text_of key (before ++ (here ++ behind)) ≡ text_of key here
alone key before here behind a b =
    text_of-append key before (here ++ behind)
    ∙ ap (λ o. or_text o (text_of key (here ++ behind))) a
    ∙ text_of-append key here behind
    ∙ or_none (text_of key here) (text_of key behind) b

module _ (ids : List Id) (rs : List Row) (us : List Unrecorded) (ds : List Record) where
  pub count_text : (namespace : ℕ) → text_of (count_key namespace) (sections ids rs us ds) ≡ text_of (count_key namespace) (map count_of ids)
  count_text n = alone (count_key n) version (map count_of ids) (map row_of rs ++ (map open_of us ++ map done_of ds)) refl
      (both (count_key n) (map row_of rs) (map open_of us ++ map done_of ds) (absent_kind row_of (count_key n) rs (λ x. refl))
      (both (count_key n) (map open_of us) (map done_of ds) (absent_kind open_of (count_key n) us (λ x. refl)) (absent_kind done_of (count_key n) ds (λ x. refl))))

  pub row_text : (r : Row) → text_of (entity_key r) (sections ids rs us ds) ≡ text_of (entity_key r) (map row_of rs)
  row_text r =
      text_of-append (entity_key r) version (map count_of ids ++ (map row_of rs ++ (map open_of us ++ map done_of ds)))
      ∙ alone (entity_key r) (map count_of ids) (map row_of rs) (map open_of us ++ map done_of ds) (row_no_count r ids)
      (both (entity_key r) (map open_of us) (map done_of ds) (row_no_open r us) (row_no_done r ds))

  pub open_text : (id : Id) → text_of (open_key id) (sections ids rs us ds) ≡ text_of (open_key id) (map open_of us)
  open_text id =
      text_of-append (open_key id) (map count_of ids) (map row_of rs ++ (map open_of us ++ map done_of ds))
      ∙ ap (λ o. or_text o (text_of (open_key id) (map row_of rs ++ (map open_of us ++ map done_of ds)))) (id_no_count id ids)
      ∙ alone (open_key id) (map row_of rs) (map open_of us) (map done_of ds) (id_no_row id rs) (id_no_done id ds)

  pub done_text : (id : Id) → text_of (done_key id) (sections ids rs us ds) ≡ text_of (done_key id) (map done_of ds)
  done_text id =
      text_of-append (done_key id) (map count_of ids) (map row_of rs ++ (map open_of us ++ map done_of ds))
      ∙ ap (λ o. or_text o (text_of (done_key id) (map row_of rs ++ (map open_of us ++ map done_of ds)))) (done_no_count id ids)
      ∙ text_of-append (done_key id) (map row_of rs) (map open_of us ++ map done_of ds)
      ∙ ap (λ o. or_text o (text_of (done_key id) (map open_of us ++ map done_of ds))) (done_no_row id rs)
      ∙ text_of-append (done_key id) (map open_of us) (map done_of ds)
      ∙ ap (λ o. or_text o (text_of (done_key id) (map done_of ds))) (done_no_open id us)

-- ---- weights

pub here_by : (key k t : List ℕ) (es : Entries) (b : Bool) → is_eq (text_cmp key k) ≡ b → text_of key ((k, t) ∷ es) ≡ cond b (Some t) (text_of key es)
here_by key k t es b e = ap (λ c. cond c (Some t) (text_of key es)) e

pub same_key : (a b : List ℕ) → a ≡ b → is_eq (text_cmp a b) ≡ true
same_key a b e = subst (λ z. is_eq (text_cmp a z) ≡ true) e (ap is_eq (same a))

nonzero : (count n : ℕ) (b : Bool) → (count == 0) ≡ b → 1 ≤ count → n ≡ cond b 0 n
nonzero count n true e more = absurd (grind (arith, nat_tests))
nonzero count n false e more = refl

some_bytes : (m n count : ℕ) → 1 ≤ count → m ≡ n → length (count_key n) + length (item_text (items.Count m count)) ≡ last_bytes n count
some_bytes m n count more is =
    subst (λ k. length (count_key n) + length (item_text (items.Count k count)) ≡ last_bytes n count) (sym is) (nonzero count (row_bytes (items.Count n count)) (count == 0) refl more)

last_by : (n : ℕ) (x : Id) (xs : List Id) (b : Bool) → (x.namespace == n) ≡ b → n < 2 ^ 64 → IsDrawn x
    → weight (count_key n) (text_of (count_key n) (map count_of xs)) ≡ last_bytes n (last_of xs n)
    → weight (count_key n) (text_of (count_key n) (map count_of (x ∷ xs))) ≡ last_bytes n (last_of (x ∷ xs) n)
last_by n x xs true e small h rest =
    let is : x.namespace ≡ n = grind (arith, nat_tests) in
    let there : is_eq (text_cmp (count_key n) (count_key x.namespace)) ≡ true = same_key (count_key n) (count_key x.namespace) (ap count_key (sym is)) in
    ap (weight (count_key n)) (here_by (count_key n) (count_key x.namespace) (item_text (items.Count x.namespace x.count)) (map count_of xs) true there)
    ∙ (some_bytes x.namespace n x.count h.drawn is
    ∙ ap (λ b. last_bytes n (count_or_zero (cond b (Some x) (find (is_in n) xs)))) (sym e))
last_by n x xs false e small h rest =
    let other : is_eq (text_cmp (count_key n) (count_key x.namespace)) ≡ false = count_other n x.namespace small h.is.namespace (turned_eq x.namespace n e) in
    ap (weight (count_key n)) (here_by (count_key n) (count_key x.namespace) (item_text (items.Count x.namespace x.count)) (map count_of xs) false other)
    ∙ (rest
    ∙ ap (λ b. last_bytes n (count_or_zero (cond b (Some x) (find (is_in n) xs)))) (sym e))

pub count_weighs : (n : ℕ) (ids : List Id) → n < 2 ^ 64 → AllByRecursion IsDrawn ids → weight (count_key n) (text_of (count_key n) (map count_of ids)) ≡ last_bytes n (last_of ids n)
count_weighs n [] small all = refl
count_weighs n (x ∷ ids) small all = last_by n x ids (x.namespace == n) refl small all.0 (count_weighs n ids small all.1)

open_by : (id : Id) (u : Unrecorded) (us : List Unrecorded) (b : Bool) → same_id u.id id ≡ b → IsId id → IsId u.id
    → weight (open_key id) (text_of (open_key id) (map open_of us)) ≡ bytes_at id (map open_bytes us)
    → weight (open_key id) (text_of (open_key id) (map open_of (u ∷ us))) ≡ bytes_at id (map open_bytes (u ∷ us))
open_by id u us true e h hu rest =
    let is : u.id ≡ id = eq_of u.id id e in
    let there : is_eq (text_cmp (open_key id) (open_key u.id)) ≡ true = same_key (open_key id) (open_key u.id) (ap open_key (sym is)) in
    ap (weight (open_key id)) (here_by (open_key id) (open_key u.id) (item_text (items.Open u)) (map open_of us) true there)
    ∙ (ap (λ (x : Id). length (open_key x) + length (item_text (items.Open u))) (sym is)
    ∙ ap (λ b. cond b (row_bytes (items.Open u)) (bytes_at id (map open_bytes us))) (sym e))
open_by id u us false e h hu rest =
    let other : is_eq (text_cmp (open_key id) (open_key u.id)) ≡ false = open_other id u.id h hu (turned u.id id e) in
    ap (weight (open_key id)) (here_by (open_key id) (open_key u.id) (item_text (items.Open u)) (map open_of us) false other)
    ∙ (rest
    ∙ ap (λ b. cond b (row_bytes (items.Open u)) (bytes_at id (map open_bytes us))) (sym e))

pub open_weighs : (id : Id) (us : List Unrecorded) → IsId id → AllByRecursion (λ u. IsId u.id) us → weight (open_key id) (text_of (open_key id) (map open_of us)) ≡ bytes_at id (map open_bytes us)
open_weighs id [] h all = refl
open_weighs id (u ∷ us) h all = open_by id u us (same_id u.id id) refl h all.0 (open_weighs id us h all.1)

row_by : (r x : Row) (xs : List Row) (here b : Bool) → is_row (kind_of r) (name_of r) x ≡ here → is_kept x ≡ b → is_kept r ≡ true
    → weight (entity_key r) (text_of (entity_key r) (map row_of (filter is_kept xs))) ≡ old_bytes (found (kind_of r) (name_of r) xs)
    → weight (entity_key r) (text_of (entity_key r) (map row_of (cond b (x ∷ filter is_kept xs) (filter is_kept xs)))) ≡ old_bytes (cond here (Some x) (found (kind_of r) (name_of r) xs))
row_by r x xs true true e k kept rest =
    let there : entity_key r ≡ entity_key x = equal_by r x (sym (is_place r x) ∙ e) in
    ap (weight (entity_key r)) (here_by (entity_key r) (entity_key x) (item_text (items.Row x)) (map row_of (filter is_kept xs)) true (same_key (entity_key r) (entity_key x) there))
    ∙ ap (λ key. length key + length (item_text (items.Row x))) there
row_by r x xs true false e k kept rest =
    let alike : is_kept r ≡ is_kept x = kept_alike r x (places_are r x (sym (is_place r x) ∙ e)) in
    let never : true ≡ false = sym kept ∙ alike ∙ k in
    cc
row_by r x xs false true e k kept rest =
    ap (weight (entity_key r)) (here_by (entity_key r) (entity_key x) (item_text (items.Row x)) (map row_of (filter is_kept xs)) false (other_by r x (sym (is_place r x) ∙ e))) ∙ rest
row_by r x xs false false e k kept rest = rest

pub row_weighs : (r : Row) (rs : List Row) → is_kept r ≡ true → weight (entity_key r) (text_of (entity_key r) (map row_of (filter is_kept rs))) ≡ old_bytes (found (kind_of r) (name_of r) rs)
row_weighs r [] kept = refl
row_weighs r (x ∷ rs) kept = row_by r x rs (is_row (kind_of r) (name_of r) x) (is_kept x) refl refl kept (row_weighs r rs kept)
