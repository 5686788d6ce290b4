-- What is committed of ends makes what is kept after them.
use Rattle.std.proofs.Common.{◌≡◌, ◌+◌, ◌≤◌, ℕ, Bool, true, false, cond, List, [], ◌∷◌, filter, find, map, Some, refl, sym, ap, ◌∙◌, subst, arith}
use Rattle.std.specs.List.{AllByRecursion}
use Rattle.ow_entity.specs.declared.rows.Row.{Row}
use Rattle.ow_traits.specs.declared.change_list.Change.{Change}
use Rattle.ow_traits.specs.declared.change_list.Change.TheVariants.{Drop as Dropped}
use Rattle.ow_floor.specs.declared.activations.Open.{Open}
use Rattle.ow_floor.specs.Laws.{IsSound, times}
use Rattle.ow_floor.specs.Trace.{End, Trace, Ended, accepted_ids, shown_records, drawn, open_items, record_of, recorded, records, resumed}
use Rattle.ow_floor.specs.View.{ids_of, is_of, remove_first}
use Rattle.ow_floor.proofs.Alters.{same_id_refl}
use Rattle.ow_floor.proofs.Apart.{turned}
use Rattle.ow_floor.proofs.Archives.{all_shown}
use Rattle.ow_floor.proofs.Fires.{accepted_once, known_once}
use Rattle.ow_floor.proofs.Tallies.{eq_of, times-removed}
use Rattle.ow_floor.proofs.Firsts.{find_passes}
use Rattle.ow_row_text.specs.declared.item.Item.TheVariants as items
use Rattle.ow_row_text.specs.Bytes.{bytes_of, weight, weight_at}
use Rattle.ow_row_text.specs.Item.{done_key, item_text, open_key}
use Rattle.ow_row_text.specs.Sorted.{Entries, Makes, rows_of}
use Rattle.ow_row_text.proofs.Lists.{absent, makes_then, put_end}
use Rattle.ow_commits.specs.Commits.{end_changes, put_of}
use Rattle.ow_commits.specs.Keeping.{AreIds, bytes_at, open_bytes, row_bytes}
use Rattle.ow_commits.specs.Kept.{entries, is_kept, kept, unrecorded}
use Rattle.ow_commits.proofs.Ids.{all_both, kept_ids, lacks_done, lacks_open, nowhere}
use Rattle.ow_commits.proofs.Keys.{open_other}
use Rattle.ow_commits.proofs.Places.{drop_behind, drop_nothing, dropped}
use Rattle.ow_commits.proofs.RowLaws.{made_so}
use Rattle.ow_commits.proofs.Sections.{done_of, done_put, entries_are, open_dropped, open_of, sections}
use Rattle.ow_commits.proofs.Weights.{done_text, drop_bytes, open_text, open_weighs, put_bytes}
use Rattle.ow_records.specs.declared.ids.Id.{Id}
use Rattle.ow_records.specs.declared.record.Record.{Record}
use Rattle.ow_records.specs.declared.unrecorded.Unrecorded.{Unrecorded}
use Rattle.ow_records.specs.Id.{same_id}
use Rattle.ow_records.specs.Known.{IsId}
use Rattle.ow_records.specs.Unrecorded.{unrecorded_of}

abbrev pub of_open : List Open → List Unrecorded
of_open os = map (λ o. unrecorded_of o.task) os

-- ---- the row of an activation that has ended is dropped

pub alike : (x y : Id) → same_id x y ≡ true → same_id y x ≡ true
alike x y h = subst (λ (z : Id). same_id z x ≡ true) (eq_of x y h) (same_id_refl x)

pub last_one : (b : Bool) (n : ℕ) → b ≡ true → cond b 1 0 + n ≤ 1 → n ≡ 0
last_one true n e h = omega (arith, h)
last_one false n e h = cc

gone_by : (id : Id) (o : Open) (os : List Open) (b : Bool) → same_id o.task.id id ≡ b → IsId id → AllByRecursion (λ u. IsId u.id) (of_open (o ∷ os)) → times id (ids_of (o ∷ os)) ≤ 1
    → (times id (ids_of os) ≤ 1 → Makes (Dropped (open_key id) ∷ []) (map open_of (of_open os)) (map open_of (of_open (remove_first (is_of id) os))))
    → Makes (Dropped (open_key id) ∷ []) (map open_of (of_open (o ∷ os))) (map open_of (of_open (remove_first (is_of id) (o ∷ os))))
unfolding remove_first
gone_by id o os true e h all once rest =
    let same : id ≡ o.task.id = eq_of id o.task.id (alike o.task.id id e) in
    let none : times id (ids_of os) ≡ 0 = last_one (same_id id o.task.id) (times id (ids_of os)) (alike o.task.id id e) once in
    let lacks = lacks_open id (of_open os) h all.1 (nowhere (λ (u : Unrecorded). u.id) id (of_open os) (ap (times id) (kept_ids os) ∙ none)) in
    rw e (dropped open_of (open_key id) (unrecorded_of o.task) (of_open os) (of_open os) (ap open_key same) (drop_nothing (open_key id) (map open_of (of_open os)) (absent open_of (open_key id) (of_open os) lacks)))
gone_by id o os false e h all once rest =
    let fewer : times id (ids_of os) ≤ 1 = omega (arith, once) in
    rw e (drop_behind open_of (open_key id) (unrecorded_of o.task) (of_open os) (of_open (remove_first (is_of id) os)) (open_other id o.task.id h all.0 (turned o.task.id id e)) (rest fewer))

gone : (id : Id) (os : List Open) → IsId id → AllByRecursion (λ u. IsId u.id) (of_open os) → times id (ids_of os) ≤ 1
    → Makes (Dropped (open_key id) ∷ []) (map open_of (of_open os)) (map open_of (of_open (remove_first (is_of id) os)))
unfolding remove_first
gone id [] h all once = drop_nothing (open_key id) [] refl
gone id (o ∷ os) h all once = gone_by id o os (same_id o.task.id id) refl h all once (λ fewer. gone id os h all.1 fewer)

-- ---- for each that is left

left_by : (P : Unrecorded → Type 0) (p : Open → Bool) (o : Open) (os : List Open) (b : Bool) → p o ≡ b → P (unrecorded_of o.task) → AllByRecursion P (of_open os) → AllByRecursion P (of_open (remove_first p os))
    → AllByRecursion P (of_open (remove_first p (o ∷ os)))
unfolding remove_first
left_by P p o os true e h all rest = rw e all
left_by P p o os false e h all rest = rw e (h, rest)

all_left : (P : Unrecorded → Type 0) (p : Open → Bool) (os : List Open) → AllByRecursion P (of_open os) → AllByRecursion P (of_open (remove_first p os))
unfolding remove_first
all_left P p [] all = tt
all_left P p (o ∷ os) all = left_by P p o os (p o) refl all.0 all.1 (all_left P p os all.1)

found_by : (P : Unrecorded → Type 0) (p : Open → Bool) (o x : Open) (os : List Open) (b : Bool) → p x ≡ b → find p (x ∷ os) ≡ Some o → P (unrecorded_of x.task) → (find p os ≡ Some o → P (unrecorded_of o.task)) → P (unrecorded_of o.task)
found_by P p o x os true e found h rest =
    let is : Some x ≡ Some o = rw e at found in
    let same : x ≡ o = cc in
    subst (λ (z : Open). P (unrecorded_of z.task)) same h
found_by P p o x os false e found h rest = rest (rw e at found)

of_found : (P : Unrecorded → Type 0) (p : Open → Bool) (o : Open) (os : List Open) → find p os ≡ Some o → AllByRecursion P (of_open os) → P (unrecorded_of o.task)
of_found P p o [] found all = cc
of_found P p o (x ∷ os) found all = found_by P p o x os (p x) refl found all.0 (λ f. of_found P p o os f all.1)

-- ---- one end

-- what was taken over is of no id that was accepted here
pub no_resumed : (id : Id) (T : Trace) → IsSound T → 1 ≤ times id (accepted_ids T) → AllByRecursion (λ r. same_id id r.id ≡ false) (resumed T)
no_resumed id T sound there = let once = known_once T id sound in nowhere (λ (r : Record). r.id) id (resumed T) (omega (arith, once, there))

pub record Stood (id : Id) (T : Trace) : Type 0 where
  pub once : times id (ids_of (open_items T)) ≤ 1
  pub accepted : 1 ≤ times id (accepted_ids T)
  pub unrecorded : times id (recorded T) ≡ 0

pub stood : (id : Id) (o : Open) (T : Trace) → find (is_of id) (open_items T) ≡ Some o → IsSound T → Stood id T
stood id o T found sound =
    let it : same_id id o.task.id ≡ true = alike o.task.id id (find_passes (is_of id) o (open_items T) found) in
    let more : times id (ids_of (open_items T)) ≡ times id (ids_of (remove_first (is_of id) (open_items T))) + cond (same_id id o.task.id) 1 0 = times-removed (is_of id) id (open_items T) o found in
    let one : ◌≡◌ {A = ℕ} (cond (same_id id o.task.id) 1 0) 1 = ap (λ b. cond b 1 0) it in
    let parts = sound.once id in
    let most = accepted_once T id sound in
    record { once = omega (arith, parts, most); accepted = omega (arith, more, one, parts); unrecorded = omega (arith, more, one, parts, most) }

-- what is made of what is kept, how many bytes it has less and more then, and that the ids are those of activations
pub record Goes (rs : List Row) (cs : List Change) (less more : ℕ) (T U : Trace) : Type 0 where
  pub makes : Makes cs (entries rs T) (entries rs U)
  pub bytes : bytes_of (kept rs U) + less ≡ bytes_of (kept rs T) + more
  pub ids : AreIds U

module _ (rs : List Row) (T : Trace) (e : End) (o : Open) (found : find (is_of e.task.id) (open_items T) ≡ Some o) (is_open : unrecorded (Ended e ∷ T) ≡ of_open (remove_first (is_of e.task.id) (open_items T))) (sound : IsSound T) (ids : AreIds T) where
  abbrev this : Id
  this = e.task.id

  is_id : IsId this
  is_id =
      let same : o.task.id ≡ this = eq_of o.task.id this (find_passes (is_of this) o (open_items T) found) in
      subst (λ (x : Id). IsId x) same (of_found (λ u. IsId u.id) (is_of this) o (open_items T) found ids.opened)

  abbrev left : List Unrecorded
  left = of_open (remove_first (is_of this) (open_items T))

  abbrev F : List Row
  F = filter is_kept rs

  drop_made : Makes (Dropped (open_key this) ∷ []) (sections (drawn T) F (unrecorded T) (shown_records T)) (sections (drawn T) F left (shown_records T))
  drop_made = open_dropped this (drawn T) F (unrecorded T) left (shown_records T) (gone this (open_items T) is_id ids.opened (stood this o T found sound).once)

  no_record : AllByRecursion (λ r. same_id this r.id ≡ false) (shown_records T)
  no_record = all_shown _ T sound (all_both _ (resumed T) (records T) (no_resumed this T sound (stood this o T found sound).accepted) (nowhere (λ (r : Record). r.id) this (records T) (stood this o T found sound).unrecorded))

  put_made : Makes (put_of (items.Done (record_of e)) ∷ []) (sections (drawn T) F left (shown_records T)) (sections (drawn T) F left (shown_records (Ended e ∷ T)))
  put_made = done_put (record_of e) (drawn T) F left (shown_records T) (shown_records (Ended e ∷ T))
      (put_end done_of (record_of e) (shown_records T) (lacks_done this (shown_records T) is_id ids.ended no_record))

  abbrev E0 : Entries
  E0 = sections (drawn T) F (unrecorded T) (shown_records T)

  abbrev E1 : Entries
  E1 = sections (drawn T) F left (shown_records T)

  abbrev E2 : Entries
  E2 = sections (drawn T) F left (shown_records (Ended e ∷ T))

  open_there : weight_at (open_key this) E0 ≡ bytes_at this (map open_bytes (unrecorded T))
  open_there = ap (weight (open_key this)) (open_text (drawn T) F (unrecorded T) (shown_records T) this) ∙ open_weighs this (unrecorded T) is_id ids.opened

  done_there : weight_at (done_key this) E1 ≡ 0
  done_there = ap (weight (done_key this)) (done_text (drawn T) F left (shown_records T) this ∙ absent done_of (done_key this) (shown_records T) (lacks_done this (shown_records T) is_id ids.ended no_record))

  end_weighs : bytes_of (kept rs (Ended e ∷ T)) + bytes_at this (map open_bytes (unrecorded T)) ≡ bytes_of (kept rs T) + row_bytes (items.Done (record_of e))
  unfolding kept
  end_weighs =
      let one = drop_bytes (open_key this) E0 E1 drop_made in
      let two = put_bytes (done_key this) (item_text (items.Done (record_of e))) E1 E2 put_made in
      let before : bytes_of (rows_of (entries rs T)) ≡ bytes_of (rows_of E0) = ap (λ es. bytes_of (rows_of es)) (entries_are rs T) in
      let after : bytes_of (rows_of (entries rs (Ended e ∷ T))) ≡ bytes_of (rows_of E2)
      = ap (λ es. bytes_of (rows_of es)) (entries_are rs (Ended e ∷ T)) ∙ ap (λ us. bytes_of (rows_of (sections (drawn T) F us (shown_records (Ended e ∷ T))))) is_open in
      omega (arith, one, two, before, after, open_there, done_there)

  pub end_goes : Goes rs (end_changes (record_of e)) (bytes_at this (map open_bytes (unrecorded T))) (row_bytes (items.Done (record_of e))) T (Ended e ∷ T)
  end_goes = record {
    bytes = end_weighs;
    makes = made_so (end_changes (record_of e)) rs rs T (Ended e ∷ T)
        (subst (λ (us : List Unrecorded). Makes (end_changes (record_of e)) (sections (drawn T) F (unrecorded T) (shown_records T)) (sections (drawn T) F us (shown_records (Ended e ∷ T)))) (sym is_open)
        (makes_then (Dropped (open_key this) ∷ []) (put_of (items.Done (record_of e)) ∷ []) _ _ _ drop_made put_made));
    ids = record {
      drawn = ids.drawn;
      opened = subst (λ (us : List Unrecorded). AllByRecursion (λ u. IsId u.id) us) (sym is_open) (all_left (λ u. IsId u.id) (is_of this) (open_items T) ids.opened);
      ended = all_both _ (shown_records T) (record_of e ∷ []) ids.ended (is_id, tt);
    };
  }
