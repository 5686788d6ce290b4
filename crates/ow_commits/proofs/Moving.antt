-- What is committed of moves makes what is kept after their items.
use Rattle.std.proofs.Common.{◌≡◌, ◌+◌, ◌-◌, ◌≤◌, ◌<◌, ℕ, zero, suc, false, List, [], ◌∷◌, ◌++◌, filter, find, length, drop, drop-cons, get_or, add-one, map, Option, Some, refl, sym, ap, ◌∙◌, subst, arith, append_assoc, append-nil}
use Rattle.std.specs.List.{AllByRecursion, flat_map}
use Rattle.ow_entity.specs.declared.rows.Row.{Row}
use Rattle.ow_traits.specs.declared.change_list.Change.{Change}
use Rattle.ow_traits.specs.Changes.{changed}
use Rattle.ow_floor.specs.declared.activations.State.TheVariants.{Running}
use Rattle.ow_floor.specs.declared.moves.Moved.{Moved}
use Rattle.ow_floor.specs.declared.moves.Moved.TheVariants as moves
use Rattle.ow_floor.specs.Calls.{moved, moved_by}
use Rattle.ow_floor.specs.Growth.{AreRight, IsRight, grown, open_after}
use Rattle.ow_floor.specs.Laws.{IsFiringApart, IsSound, times}
use Rattle.ow_floor.specs.Trace.{Item, Trace, Opened, Resumed, Accepted, Ordered, Prewarming, Removed, Begun, Answered, Lost, Gone, Ended, Drawn, Fired, Swept, Drained, Reopened, Archived, accepted, shown_records, drawn, fired, firing, last, live, open_items, record_of, recorded, records, resumed, shown}
use Rattle.ow_floor.specs.View.{Shown, is_number, put_id, remove_first, waits}
use Rattle.ow_floor.proofs.Archives.{all_shown}
use Rattle.ow_floor.proofs.Drawn.{drawn_last}
use Rattle.ow_floor.proofs.Fires.{apart_activations, strange_records, times-append}
use Rattle.ow_floor.proofs.Firsts.{all_more}
use Rattle.ow_floor.proofs.Soundness.{sound_items}
use Rattle.ow_floor.proofs.Standing.{open_fired}
use Rattle.ow_row_text.specs.declared.item.Item.TheVariants as items
use Rattle.ow_row_text.specs.Bytes.{bytes_of, weight, weight_at}
use Rattle.ow_row_text.specs.Item.{count_key, done_key, item_key, item_text}
use Rattle.ow_row_text.specs.Sorted.{Entries, Makes, rows_of}
use Rattle.ow_row_text.proofs.Extent.{changes_kept}
use Rattle.ow_row_text.proofs.Lists.{absent, makes_then, put_end}
use Rattle.ow_commits.specs.Commits.{changes_of, put_of}
use Rattle.ow_commits.specs.Keeping.{AreIds, AreOwn, Follows, FollowingView, FollowsOne, IsKnownMove, IsOwn, KeepingView, StandsFollowing, StandsForKept, is_of as kept_of, last_bytes, less_of, more_of, open_bytes, row_bytes}
use Rattle.ow_commits.specs.Kept.{OthersView, count_item, entries, is_kept, kept, others_bytes, unrecorded}
use Rattle.ow_commits.specs.Laws.{MovesAreKept}
use Rattle.ow_commits.specs.declared.open_bytes.OpenBytes.{OpenBytes}
use Rattle.ow_commits.proofs.Accepting.{accept_ids, accept_made, accept_weighs, accepted_open, opens_append}
use Rattle.ow_commits.proofs.Counting.{counted}
use Rattle.ow_commits.proofs.Ending.{end_goes, of_open}
use Rattle.ow_commits.proofs.Ids.{all_both, all_put, lacks_done, nowhere}
use Rattle.ow_commits.proofs.RowLaws.{made_so}
use Rattle.ow_commits.proofs.Sections.{count_put, done_of, done_put, entries_are, sections}
use Rattle.ow_commits.proofs.Stays.{one_right, opens_of, opens_removed, same_freed, same_open, stays}
use Rattle.ow_commits.proofs.Weights.{count_text, count_weighs, done_text, put_bytes}
use Rattle.ow_records.specs.declared.ids.Id.{Id}
use Rattle.ow_records.specs.declared.record.Record.{Record}
use Rattle.ow_records.specs.declared.unrecorded.Unrecorded.{Unrecorded}
use Rattle.ow_records.specs.Id.{same_id}
use Rattle.ow_records.specs.Known.{IsId}
use Rattle.ow_records.specs.Unrecorded.{unrecorded_of}

-- ---- an id is drawn for a fire

module _ (rs : List Row) (T : Trace) (id : Id) (at : ℕ) (sound : IsSound T) (ids : AreIds T) (is : IsId id) (next : id.count ≡ last T id.namespace + 1) where
  abbrev FD : List Row
  FD = filter is_kept rs

  abbrev DrawnBefore : Entries
  DrawnBefore = sections (drawn T) FD (unrecorded T) (shown_records T)

  abbrev DrawnAfter : Entries
  DrawnAfter = sections (put_id id (drawn T)) FD (unrecorded T) (shown_records T)

  draw_step : Makes (put_of (count_item id) ∷ []) DrawnBefore DrawnAfter
  draw_step = count_put id (drawn T) (put_id id (drawn T)) FD (unrecorded T) (shown_records T) (counted id (drawn T) is ids.drawn)

  draw_made : Makes (put_of (count_item id) ∷ []) (entries rs T) (entries rs (Drawn id at ∷ T))
  draw_made = made_so (put_of (count_item id) ∷ []) rs rs T (Drawn id at ∷ T) draw_step

  draw_last : weight_at (count_key id.namespace) DrawnBefore ≡ last_bytes id.namespace (last T id.namespace)
  draw_last =
      ap (weight (count_key id.namespace)) (count_text (drawn T) FD (unrecorded T) (shown_records T) id.namespace)
      ∙ count_weighs id.namespace (drawn T) is.namespace ids.drawn
      ∙ ap (last_bytes id.namespace) (drawn_last T id.namespace)

  draw_weighs : bytes_of (kept rs (Drawn id at ∷ T)) + last_bytes id.namespace (last T id.namespace) ≡ bytes_of (kept rs T) + row_bytes (count_item id)
  unfolding kept
  draw_weighs =
      let one = put_bytes (item_key (count_item id)) (item_text (count_item id)) DrawnBefore DrawnAfter draw_step in
      let before : bytes_of (rows_of (entries rs T)) ≡ bytes_of (rows_of DrawnBefore) = ap (λ es. bytes_of (rows_of es)) (entries_are rs T) in
      let after : bytes_of (rows_of (entries rs (Drawn id at ∷ T))) ≡ bytes_of (rows_of DrawnAfter) = ap (λ es. bytes_of (rows_of es)) (entries_are rs (Drawn id at ∷ T)) in
      omega (arith, one, before, after, draw_last)

  draw_ids : AreIds (Drawn id at ∷ T)
  draw_ids = record { drawn = all_put _ id (drawn T) (record { is = is; drawn = omega (arith, next) }) ids.drawn; opened = ids.opened; ended = ids.ended }

-- ---- a fire is recorded

module _ (rs : List Row) (T : Trace) (r : Record) (sound : IsSound T) (ids : AreIds T) (is : IsId r.id) (drawn_for : firing T ≡ Some r.id) where
  fire_own : IsFiringApart (Some r.id) (fired T) (resumed T) (last T) (accepted T)
  fire_own = subst (λ (o : Option Id). IsFiringApart o (fired T) (resumed T) (last T) (accepted T)) drawn_for sound.fires.next

  abbrev FF : List Row
  FF = filter is_kept rs

  fire_open : unrecorded (Fired r ∷ T) ≡ unrecorded T
  fire_open = ap of_open (open_fired r T fire_own.1.0)

  fire_times : times r.id (recorded T) ≡ 0
  fire_times =
      let parts = sound.once r.id in
      let both = times-append r.id (map (λ a. a.id) (accepted T)) (map (λ x. x.id) (fired T)) in
      let one = apart_activations r.id (accepted T) fire_own.1.0 in
      let two = strange_records r.id (fired T) fire_own.1.1.0 in
      omega (arith, parts, both, one, two)

  fire_nowhere : AllByRecursion (λ x. same_id r.id x.id ≡ false) (shown_records T)
  fire_nowhere = all_shown _ T sound (all_both _ (resumed T) (records T) (all_more _ (λ (x : Record). same_id r.id x.id ≡ false) (resumed T) (λ x both. both.0) fire_own.1.1.1) (nowhere (λ (x : Record). x.id) r.id (records T) fire_times))

  abbrev P0 : Entries
  P0 = sections (drawn T) FF (unrecorded T) (shown_records T)

  abbrev P1 : Entries
  P1 = sections (drawn T) FF (unrecorded T) (shown_records (Fired r ∷ T))

  fire_step : Makes (put_of (items.Done r) ∷ []) P0 P1
  fire_step = done_put r (drawn T) FF (unrecorded T) (shown_records T) (shown_records (Fired r ∷ T))
      (put_end done_of r (shown_records T) (lacks_done r.id (shown_records T) is ids.ended fire_nowhere))

  fire_made : Makes (put_of (items.Done r) ∷ []) (entries rs T) (entries rs (Fired r ∷ T))
  fire_made =
      made_so (put_of (items.Done r) ∷ []) rs rs T (Fired r ∷ T)
      (subst (λ (us : List Unrecorded). Makes (put_of (items.Done r) ∷ []) P0 (sections (drawn T) FF us (shown_records (Fired r ∷ T)))) (sym fire_open) fire_step)

  fire_none : weight_at (done_key r.id) P0 ≡ 0
  fire_none = ap (weight (done_key r.id)) (done_text (drawn T) FF (unrecorded T) (shown_records T) r.id ∙ absent done_of (done_key r.id) (shown_records T) (lacks_done r.id (shown_records T) is ids.ended fire_nowhere))

  fire_weighs : bytes_of (kept rs (Fired r ∷ T)) ≡ bytes_of (kept rs T) + row_bytes (items.Done r)
  unfolding kept
  fire_weighs =
      let one = put_bytes (done_key r.id) (item_text (items.Done r)) P0 P1 fire_step in
      let before : bytes_of (rows_of (entries rs T)) ≡ bytes_of (rows_of P0) = ap (λ es. bytes_of (rows_of es)) (entries_are rs T) in
      let after : bytes_of (rows_of (entries rs (Fired r ∷ T))) ≡ bytes_of (rows_of P1)
      = ap (λ es. bytes_of (rows_of es)) (entries_are rs (Fired r ∷ T)) ∙ ap (λ us. bytes_of (rows_of (sections (drawn T) FF us (shown_records (Fired r ∷ T))))) fire_open in
      omega (arith, one, before, after, fire_none)

  fire_ids : AreIds (Fired r ∷ T)
  fire_ids = record {
    drawn = ids.drawn;
    opened = subst (λ (us : List Unrecorded). AllByRecursion (λ u. IsId u.id) us) (sym fire_open) ids.opened;
    ended = all_both _ (shown_records T) (r ∷ []) ids.ended (is, tt);
  }

-- ---- one item

-- with these changes, and as many bytes beside others, the kept rows are those after the items
pub record GoesOn (beside : ℕ) (rs : List Row) (cs : List Change) (bytes : ℕ) (os : List OpenBytes) (T U : Trace) : Type 0 where
  pub makes : Makes cs (entries rs T) (entries rs U)
  pub stands : (bytes ≡ beside + bytes_of (kept rs U)) × (os ≡ opens_of U)
  pub ids : AreIds U

one_of : (m : Moved) (bytes : ℕ) (os : List OpenBytes) (after : ℕ) (left : List OpenBytes) → Follows (m ∷ []) bytes os after left → FollowsOne m bytes os after left
one_of m bytes os after left h =
    subst (λ (n : ℕ). FollowsOne m bytes os n left) (sym h.2.1.0) (subst (λ (us : List OpenBytes). FollowsOne m bytes os h.0 us) (sym h.2.1.1) h.2.0)

abbrev Before : ℕ → List Row → Trace → ℕ → List OpenBytes → Type 0
Before beside rs T bytes os = (bytes ≡ beside + bytes_of (kept rs T)) × (os ≡ opens_of T)

still : (beside : ℕ) (rs : List Row) (item : Item) (T : Trace) (bytes after : ℕ) (os left : List OpenBytes) → unrecorded (item ∷ T) ≡ unrecorded T → drawn (item ∷ T) ≡ drawn T → shown_records (item ∷ T) ≡ shown_records T
    → AreIds T → Before beside rs T bytes os → (after ≡ bytes) × (left ≡ os) → GoesOn beside rs [] after left T (item ∷ T)
still beside rs item T bytes after os left is_open is_drawn is_ended ids before same =
    let goes = stays rs item T is_open is_drawn is_ended ids in
    let b = goes.bytes in
    let now = before.0 in
    let e = same.0 in
    record { makes = goes.makes; stands = (omega (arith, b, now, e), same.1 ∙ (before.1 ∙ ap (map open_bytes) (sym is_open))); ids = goes.ids }

item_follows : (beside : ℕ) (rs : List Row) (item : Item) (T : Trace) (bytes after : ℕ) (os left : List OpenBytes) → unrecorded (item ∷ T) ≡ of_open (open_after item (live T) (open_items T)) → IsRight item (shown T) → IsOwn item → IsSound T → AreIds T
    → AllByRecursion IsKnownMove (moved_by item) → Before beside rs T bytes os → Follows (moved_by item) bytes os after left → GoesOn beside rs (flat_map changes_of (moved_by item)) after left T (item ∷ T)
item_follows beside rs (Opened pool wants) T bytes after os left is_open right own sound ids known before follows = absurd right.0
item_follows beside rs (Resumed counts taken) T bytes after os left is_open right own sound ids known before follows = absurd own
item_follows beside rs (Accepted a) T bytes after os left is_open right own sound ids known before follows =
    let one = one_of (moves.Accepted a) bytes os after left follows in
    let next : a.id.count ≡ last T a.id.namespace + 1 = right.0 ∙ ap (λ n. n + 1) (drawn_last T a.id.namespace) in
    let weighs = accept_weighs rs T a sound ids known.0 next in
    let was : last T a.id.namespace ≡ a.id.count - 1 = omega (arith, next) in
    let less : last_bytes a.id.namespace (last T a.id.namespace) ≡ last_bytes a.id.namespace (a.id.count - 1) = ap (last_bytes a.id.namespace) was in
    let sum = one.bytes in
    let now = before.0 in
    record {
      makes = accept_made rs T a sound ids known.0 next;
      stands = (
        omega (arith, weighs, less, sum, now),
        one.opens ∙ (ap (λ (xs : List OpenBytes). xs ++ open_bytes (unrecorded_of a) ∷ []) before.1 ∙ (sym (opens_append (unrecorded T) (unrecorded_of a)) ∙ ap (map open_bytes) (sym (accepted_open a T next sound)))),
      );
      ids = accept_ids T a sound ids known.0 next;
    }
item_follows beside rs (Ended e) T bytes after os left is_open right own sound ids known before follows =
    let one = one_of (moves.Ended (record_of e)) bytes os after left follows in
    let goes = end_goes rs T e right.0.0 right.0.1 is_open sound ids in
    let weighs = goes.bytes in
    let sum : after + less_of (moves.Ended (record_of e)) (opens_of T) ≡ bytes + more_of (moves.Ended (record_of e)) = subst (λ (xs : List OpenBytes). after + less_of (moves.Ended (record_of e)) xs ≡ bytes + more_of (moves.Ended (record_of e))) before.1 one.bytes in
    let now = before.0 in
    record {
      makes = goes.makes;
      stands = (
        omega (arith, weighs, sum, now),
        one.opens ∙ (ap (λ (xs : List OpenBytes). remove_first (kept_of e.task.id) xs) before.1 ∙ sym (ap (map open_bytes) is_open ∙ opens_removed e.task.id (open_items T))),
      );
      ids = goes.ids;
    }
item_follows beside rs (Drawn id at) T bytes after os left is_open right own sound ids known before follows =
    let one = one_of (moves.Drawn id) bytes os after left follows in
    let next : id.count ≡ last T id.namespace + 1 = right.0 ∙ ap (λ n. n + 1) (drawn_last T id.namespace) in
    let weighs = draw_weighs rs T id at sound ids known.0 next in
    let was : last T id.namespace ≡ id.count - 1 = omega (arith, next) in
    let less : last_bytes id.namespace (last T id.namespace) ≡ last_bytes id.namespace (id.count - 1) = ap (last_bytes id.namespace) was in
    let sum = one.bytes in
    let now = before.0 in
    record {
      makes = draw_made rs T id at sound ids known.0 next;
      stands = (omega (arith, weighs, less, sum, now), one.opens ∙ before.1);
      ids = draw_ids rs T id at sound ids known.0 next;
    }
item_follows beside rs (Fired r) T bytes after os left is_open right own sound ids known before follows =
    let one = one_of (moves.Fired r) bytes os after left follows in
    let weighs = fire_weighs rs T r sound ids known.0 right.0 in
    let sum = one.bytes in
    let now = before.0 in
    record {
      makes = fire_made rs T r sound ids known.0 right.0;
      stands = (omega (arith, weighs, sum, now), one.opens ∙ (before.1 ∙ ap (map open_bytes) (sym (fire_open rs T r sound ids known.0 right.0))));
      ids = fire_ids rs T r sound ids known.0 right.0;
    }
item_follows beside rs (Ordered run key) T bytes after os left is_open right own sound ids known before follows = still beside rs (Ordered run key) T bytes after os left (is_open ∙ same_open waits (Running run.number) (open_items T)) refl refl ids before follows
item_follows beside rs (Lost run at) T bytes after os left is_open right own sound ids known before follows = still beside rs (Lost run at) T bytes after os left (is_open ∙ same_freed (find (is_number run) (live T)) (open_items T)) refl refl ids before follows
item_follows beside rs (Prewarming order at) T bytes after os left is_open right own sound ids known before follows = still beside rs (Prewarming order at) T bytes after os left is_open refl refl ids before follows
item_follows beside rs (Removed containers at) T bytes after os left is_open right own sound ids known before follows = still beside rs (Removed containers at) T bytes after os left is_open refl refl ids before follows
item_follows beside rs (Begun run at) T bytes after os left is_open right own sound ids known before follows = still beside rs (Begun run at) T bytes after os left is_open refl refl ids before follows
item_follows beside rs (Answered run alive at) T bytes after os left is_open right own sound ids known before follows = still beside rs (Answered run alive at) T bytes after os left is_open refl refl ids before follows
item_follows beside rs (Gone slot generation at) T bytes after os left is_open right own sound ids known before follows = still beside rs (Gone slot generation at) T bytes after os left is_open refl refl ids before follows
item_follows beside rs (Swept at) T bytes after os left is_open right own sound ids known before follows = still beside rs (Swept at) T bytes after os left is_open refl refl ids before follows
item_follows beside rs (Drained at) T bytes after os left is_open right own sound ids known before follows = still beside rs (Drained at) T bytes after os left is_open refl refl ids before follows
item_follows beside rs (Reopened at) T bytes after os left is_open right own sound ids known before follows = still beside rs (Reopened at) T bytes after os left is_open refl refl ids before follows
item_follows beside rs (Archived until at) T bytes after os left is_open right own sound ids known before follows = absurd own

-- ---- items

follows_split : (xs ys : List Moved) (bytes : ℕ) (os : List OpenBytes) (after : ℕ) (left : List OpenBytes) → Follows (xs ++ ys) bytes os after left
    → (n : ℕ) × (us : List OpenBytes) × (Follows xs bytes os n us × Follows ys n us after left)
follows_split [] ys bytes os after left h = (bytes, os, ((refl, refl), h))
follows_split (m ∷ xs) ys bytes os after left h =
    let rest = follows_split xs ys h.0 h.1 after left h.2.1 in
    (rest.0, rest.1, ((h.0, h.1, (h.2.0, rest.2.0)), rest.2.1))

known_split : (xs ys : List Moved) → AllByRecursion IsKnownMove (xs ++ ys) → AllByRecursion IsKnownMove xs × AllByRecursion IsKnownMove ys
known_split [] ys all = (tt, all)
known_split (m ∷ xs) ys all = let rest = known_split xs ys all.1 in ((all.0, rest.0), rest.1)

changes_append : (xs ys : List Moved) → flat_map changes_of (xs ++ ys) ≡ flat_map changes_of xs ++ flat_map changes_of ys
changes_append [] ys = refl
changes_append (m ∷ xs) ys = ap (λ cs. changes_of m ++ cs) (changes_append xs ys) ∙ sym (append_assoc (changes_of m) (flat_map changes_of xs) (flat_map changes_of ys))

pub moves_go : (beside : ℕ) (rs : List Row) (items T : Trace) (bytes after : ℕ) (os left : List OpenBytes) → AreRight items (shown T) → AreOwn items → IsSound T → AreIds T → AllByRecursion IsKnownMove (moved items) → Before beside rs T bytes os
    → Follows (moved items) bytes os after left → GoesOn beside rs (flat_map changes_of (moved items)) after left T (items ++ T)
moves_go beside rs [] T bytes after os left right own sound ids known before follows =
    record { makes = record { each = λ q. refl }; stands = (follows.0 ∙ before.0, follows.1 ∙ before.1); ids = ids }
moves_go beside rs (item ∷ items) T bytes after os left right own sound ids known before follows =
    let U : Trace = items ++ T in
    let split = follows_split (moved items) (moved_by item) bytes os after left follows in
    let parts = known_split (moved items) (moved_by item) known in
    let so_far = moves_go beside rs items T bytes split.0 os split.1 right.1 own.1 sound ids parts.0 before split.2.0 in
    let past = sound_items items T right.1 sound in
    let here : AreRight (item ∷ []) (shown U) = one_right item U (grown items (shown T)) past.1 right.0 in
    let is_open : unrecorded (item ∷ U) ≡ of_open (open_after item (live U) (open_items U)) = ap (λ (v : Shown). of_open v.open_items) (sound_items (item ∷ []) U here past.0).1 in
    let one = item_follows beside rs item U split.0 after split.1 left is_open here.0 own.0 past.0 so_far.ids parts.1 so_far.stands split.2.1 in
    record {
      makes = subst (λ (cs : List Change). Makes cs (entries rs T) (entries rs (item ∷ U))) (sym (changes_append (moved items) (moved_by item)))
          (makes_then (flat_map changes_of (moved items)) (flat_map changes_of (moved_by item)) (entries rs T) (entries rs U) (entries rs (item ∷ U)) so_far.makes one.makes);
      stands = one.stands;
      ids = one.ids;
    }

item_makes : (rs : List Row) (item : Item) (T : Trace) → unrecorded (item ∷ T) ≡ of_open (open_after item (live T) (open_items T)) → IsRight item (shown T) → IsOwn item → IsSound T → AreIds T
    → AllByRecursion IsKnownMove (moved_by item) → Makes (flat_map changes_of (moved_by item)) (entries rs T) (entries rs (item ∷ T)) × AreIds (item ∷ T)
item_makes rs (Opened pool wants) T is_open right own sound ids known = absurd right.0
item_makes rs (Resumed counts taken) T is_open right own sound ids known = absurd own
item_makes rs (Accepted a) T is_open right own sound ids known =
    let next : a.id.count ≡ last T a.id.namespace + 1 = right.0 ∙ ap (λ n. n + 1) (drawn_last T a.id.namespace) in
    (accept_made rs T a sound ids known.0 next, accept_ids T a sound ids known.0 next)
item_makes rs (Ended e) T is_open right own sound ids known = let goes = end_goes rs T e right.0.0 right.0.1 is_open sound ids in (goes.makes, goes.ids)
item_makes rs (Drawn id at) T is_open right own sound ids known =
    let next : id.count ≡ last T id.namespace + 1 = right.0 ∙ ap (λ n. n + 1) (drawn_last T id.namespace) in
    (draw_made rs T id at sound ids known.0 next, draw_ids rs T id at sound ids known.0 next)
item_makes rs (Fired r) T is_open right own sound ids known = (fire_made rs T r sound ids known.0 right.0, fire_ids rs T r sound ids known.0 right.0)
item_makes rs (Ordered run key) T is_open right own sound ids known = let goes = stays rs (Ordered run key) T (is_open ∙ same_open waits (Running run.number) (open_items T)) refl refl ids in (goes.makes, goes.ids)
item_makes rs (Lost run at) T is_open right own sound ids known = let goes = stays rs (Lost run at) T (is_open ∙ same_freed (find (is_number run) (live T)) (open_items T)) refl refl ids in (goes.makes, goes.ids)
item_makes rs (Prewarming order at) T is_open right own sound ids known = let goes = stays rs (Prewarming order at) T is_open refl refl ids in (goes.makes, goes.ids)
item_makes rs (Removed containers at) T is_open right own sound ids known = let goes = stays rs (Removed containers at) T is_open refl refl ids in (goes.makes, goes.ids)
item_makes rs (Begun run at) T is_open right own sound ids known = let goes = stays rs (Begun run at) T is_open refl refl ids in (goes.makes, goes.ids)
item_makes rs (Answered run alive at) T is_open right own sound ids known = let goes = stays rs (Answered run alive at) T is_open refl refl ids in (goes.makes, goes.ids)
item_makes rs (Gone slot generation at) T is_open right own sound ids known = let goes = stays rs (Gone slot generation at) T is_open refl refl ids in (goes.makes, goes.ids)
item_makes rs (Swept at) T is_open right own sound ids known = let goes = stays rs (Swept at) T is_open refl refl ids in (goes.makes, goes.ids)
item_makes rs (Drained at) T is_open right own sound ids known = let goes = stays rs (Drained at) T is_open refl refl ids in (goes.makes, goes.ids)
item_makes rs (Reopened at) T is_open right own sound ids known = let goes = stays rs (Reopened at) T is_open refl refl ids in (goes.makes, goes.ids)
item_makes rs (Archived until at) T is_open right own sound ids known = absurd own

makes_only : (rs : List Row) (items T : Trace) → AreRight items (shown T) → AreOwn items → IsSound T → AreIds T → AllByRecursion IsKnownMove (moved items)
    → Makes (flat_map changes_of (moved items)) (entries rs T) (entries rs (items ++ T)) × AreIds (items ++ T)
makes_only rs [] T right own sound ids known = (record { each = λ q. refl }, ids)
makes_only rs (item ∷ items) T right own sound ids known =
    let U : Trace = items ++ T in
    let parts = known_split (moved items) (moved_by item) known in
    let so_far = makes_only rs items T right.1 own.1 sound ids parts.0 in
    let past = sound_items items T right.1 sound in
    let here : AreRight (item ∷ []) (shown U) = one_right item U (grown items (shown T)) past.1 right.0 in
    let is_open : unrecorded (item ∷ U) ≡ of_open (open_after item (live U) (open_items U)) = ap (λ (v : Shown). of_open v.open_items) (sound_items (item ∷ []) U here past.0).1 in
    let one = item_makes rs item U is_open here.0 own.0 past.0 so_far.1 parts.1 in (
      subst (λ (cs : List Change). Makes cs (entries rs T) (entries rs (item ∷ U))) (sym (changes_append (moved items) (moved_by item)))
          (makes_then (flat_map changes_of (moved items)) (flat_map changes_of (moved_by item)) (entries rs T) (entries rs U) (entries rs (item ∷ U)) so_far.0 one.0),
      one.1,
    )

-- what is committed of moves makes what is kept
pub moves_kept : MovesAreKept
unfolding kept
moves_kept rs T items sound ids right own known = changes_kept (flat_map changes_of (moved items)) (entries rs T) (entries rs (items ++ T)) (makes_only rs items T right own sound ids known).0

-- ---- the loop

abbrev pub FollowsFrom : List Moved → List Moved → ℕ → List OpenBytes → ℕ → List OpenBytes → Type 0
FollowsFrom rest ms n us bytes os = (after : ℕ) (left : List OpenBytes) → Follows rest n us after left → Follows ms bytes os after left

abbrev pub KnownFrom : List Moved → List Moved → Type 0
KnownFrom rest ms = AllByRecursion IsKnownMove rest → AllByRecursion IsKnownMove ms

next_of : (ms : List Moved) (i : ℕ) (m : Moved) → i < length ms → m ≡ get_or ms i m → drop i ms ≡ m ∷ drop (i + 1) ms
next_of ms i m h is = drop-cons ms i m h ∙ (ap (λ (x : Moved). x ∷ drop (suc i) ms) (sym is) ∙ ap (λ (n : ℕ). m ∷ drop n ms) (sym (add-one i)))

none_left : (xs : List Moved) (n : ℕ) → length xs ≤ n → drop n xs ≡ []
none_left [] zero le = refl
none_left [] (suc n) le = refl
none_left (x ∷ xs) zero le = absurd (omega (arith, le))
none_left (x ∷ xs) (suc n) le = none_left xs n (omega (arith, le))

pub follows_next : (ms : List Moved) (i : ℕ) (m : Moved) (n : ℕ) (us : List OpenBytes) (k : ℕ) (vs : List OpenBytes) (bytes : ℕ) (os : List OpenBytes) → i < length ms → m ≡ get_or ms i m
    → FollowsFrom (drop i ms) ms n us bytes os → FollowsOne m n us k vs → FollowsFrom (drop (i + 1) ms) ms k vs bytes os
follows_next ms i m n us k vs bytes os h is so_far one after left rest =
    so_far after left (subst (λ (xs : List Moved). Follows xs n us after left) (sym (next_of ms i m h is)) (k, vs, (one, rest)))

pub known_next : (ms : List Moved) (i : ℕ) (m : Moved) → i < length ms → m ≡ get_or ms i m → KnownFrom (drop i ms) ms → IsKnownMove m → KnownFrom (drop (i + 1) ms) ms
known_next ms i m h is so_far one rest = so_far (subst (λ (xs : List Moved). AllByRecursion IsKnownMove xs) (sym (next_of ms i m h is)) (one, rest))

pub changes_next : (ms : List Moved) (i : ℕ) (m : Moved) (cs ds all : List Change) → i < length ms → m ≡ get_or ms i m → cs ++ flat_map changes_of (drop i ms) ≡ all → ds ≡ cs ++ changes_of m
    → ds ++ flat_map changes_of (drop (i + 1) ms) ≡ all
changes_next ms i m cs ds all h is so_far now =
    ap (λ (xs : List Change). xs ++ flat_map changes_of (drop (i + 1) ms)) now
    ∙ (append_assoc cs (changes_of m) (flat_map changes_of (drop (i + 1) ms)) ∙ (ap (λ (xs : List Moved). cs ++ flat_map changes_of xs) (sym (next_of ms i m h is)) ∙ so_far))

pub follows_last : (ms : List Moved) (i : ℕ) (n : ℕ) (us : List OpenBytes) (bytes : ℕ) (os : List OpenBytes) → length ms ≤ i → FollowsFrom (drop i ms) ms n us bytes os → Follows ms bytes os n us
follows_last ms i n us bytes os past so_far = so_far n us (subst (λ (xs : List Moved). Follows xs n us n us) (sym (none_left ms i past)) (refl, refl))

pub known_last : (ms : List Moved) (i : ℕ) → length ms ≤ i → KnownFrom (drop i ms) ms → AllByRecursion IsKnownMove ms
known_last ms i past so_far = so_far (subst (λ (xs : List Moved). AllByRecursion IsKnownMove xs) (sym (none_left ms i past)) tt)

pub changes_last : (ms : List Moved) (i : ℕ) (cs all : List Change) → length ms ≤ i → cs ++ flat_map changes_of (drop i ms) ≡ all → cs ≡ all
changes_last ms i cs all past so_far =
    sym (append-nil cs) ∙ (ap (λ (xs : List Moved). cs ++ flat_map changes_of xs) (sym (none_left ms i past)) ∙ so_far)

-- ---- the call

pub record IsFollowing (v : KeepingView) (ms : List Moved) (c : FollowingView) : Type 0 where
  pub changes : c.changes ≡ flat_map changes_of ms
  pub bytes : (o : OthersView) (rs : List Row) (T items : Trace) → StandsForKept v o rs T → IsSound T → AreRight items (shown T) → AreOwn items → ms ≡ moved items → c.bytes ≡ others_bytes o + bytes_of (changed c.changes (kept rs T))
  pub stands : (o : OthersView) (rs : List Row) (T items : Trace) → StandsForKept v o rs T → IsSound T → AreRight items (shown T) → AreOwn items → ms ≡ moved items → StandsFollowing c o rs (items ++ T)

pub following_done : (v : KeepingView) (ms : List Moved) (c : FollowingView) (cs0 cs1 : List Change) (n0 n1 : ℕ) (os left : List OpenBytes) → n0 ≡ v.bytes → cs0 ≡ [] → cs1 ≡ cs0 ++ flat_map changes_of ms → os ≡ v.opens
    → Follows ms n0 os n1 left → AllByRecursion IsKnownMove ms → c ≡ record { changes = cs1; bytes = n1; opens = left } → IsFollowing v ms c
unfolding kept
following_done v ms c cs0 cs1 n0 n1 os left start empty gathered copied follows known is =
    let changes : c.changes ≡ flat_map changes_of ms = ap (λ (x : FollowingView). x.changes) is ∙ (gathered ∙ ap (λ cs. cs ++ flat_map changes_of ms) empty) in
    let goes : (o : OthersView) (rs : List Row) (T items : Trace) → StandsForKept v o rs T → IsSound T → AreRight items (shown T) → AreOwn items → ms ≡ moved items → GoesOn (others_bytes o) rs (flat_map changes_of (moved items)) n1 left T (items ++ T)
    = λ o rs T items stands sound right own same.
    moves_go (others_bytes o) rs items T n0 n1 os left right own sound stands.ids (subst (λ (xs : List Moved). AllByRecursion IsKnownMove xs) same known) (start ∙ stands.bytes, copied ∙ stands.opens)
    (subst (λ (xs : List Moved). Follows xs n0 os n1 left) same follows) in
    record {
      changes = changes;
      bytes = λ o rs T items stands sound right own same.
          let g = goes o rs T items stands sound right own same in
          ap (λ (x : FollowingView). x.bytes) is ∙ (g.stands.0
          ∙ (ap (λ es. others_bytes o + bytes_of es) (sym (changes_kept (flat_map changes_of (moved items)) (entries rs T) (entries rs (items ++ T)) g.makes))
          ∙ (ap (λ (xs : List Moved). others_bytes o + bytes_of (changed (flat_map changes_of xs) (kept rs T))) (sym same) ∙ ap (λ (cs : List Change). others_bytes o + bytes_of (changed cs (kept rs T))) (sym changes))));
      stands = λ o rs T items stands sound right own same.
          let g = goes o rs T items stands sound right own same in
          record { bytes = ap (λ (x : FollowingView). x.bytes) is ∙ g.stands.0; opens = ap (λ (x : FollowingView). x.opens) is ∙ g.stands.1; ids = g.ids };
    }
