-- What is committed of an acceptance makes what is kept after it.
use Rattle.std.proofs.Common.{◌≡◌, ◌+◌, false, List, [], ◌∷◌, ◌++◌, filter, map, refl, sym, ap, ◌∙◌, subst, arith}
use Rattle.std.specs.List.{AllByRecursion}
use Rattle.ow_entity.specs.declared.rows.Row.{Row}
use Rattle.ow_floor.specs.declared.activations.Open.{Open}
use Rattle.ow_floor.specs.declared.activations.State.TheVariants.{Waiting}
use Rattle.ow_floor.specs.Laws.{IsSound, times}
use Rattle.ow_floor.specs.Trace.{Accepted, Trace, shown_records, drawn, last, open_items, shown}
use Rattle.ow_floor.specs.View.{Shown, ids_of, last_of, put_id}
use Rattle.ow_floor.specs.Growth.{grow}
use Rattle.ow_floor.proofs.Drawn.{drawn_last}
use Rattle.ow_floor.proofs.Soundness.{sound_items}
use Rattle.ow_row_text.specs.declared.item.Item.TheVariants as items
use Rattle.ow_row_text.specs.Bytes.{bytes_of, weight, weight_at}
use Rattle.ow_row_text.specs.Item.{count_key, item_key, item_text, open_key}
use Rattle.ow_row_text.specs.Lists.{Lacks}
use Rattle.ow_row_text.specs.Sorted.{Entries, Makes, rows_of}
use Rattle.ow_row_text.proofs.Lists.{absent, makes_then, put_end}
use Rattle.ow_commits.specs.Commits.{accept_changes, put_of}
use Rattle.ow_commits.specs.Keeping.{AreIds, last_bytes, open_bytes, row_bytes}
use Rattle.ow_commits.specs.Kept.{count_item, entries, is_kept, kept, unrecorded}
use Rattle.ow_commits.proofs.Counting.{counted}
use Rattle.ow_commits.proofs.Ids.{all_both, all_put, kept_ids, lacks_open, new_known, nowhere}
use Rattle.ow_commits.proofs.RowLaws.{made_so}
use Rattle.ow_commits.proofs.Sections.{count_put, entries_are, open_of, open_put, sections}
use Rattle.ow_commits.proofs.Weights.{count_text, count_weighs, open_text, put_bytes}
use Rattle.ow_records.specs.declared.activations.Activation.{Activation}
use Rattle.ow_records.specs.declared.ids.Id.{Id}
use Rattle.ow_records.specs.declared.unrecorded.Unrecorded.{Unrecorded}
use Rattle.ow_records.specs.Id.{same_id}
use Rattle.ow_records.specs.Known.{IsId}
use Rattle.ow_records.specs.Unrecorded.{unrecorded_of}

pub open_append : (os : List Open) (o : Open) → map (λ (x : Open). unrecorded_of x.task) (os ++ o ∷ []) ≡ map (λ (x : Open). unrecorded_of x.task) os ++ unrecorded_of o.task ∷ []
open_append [] o = refl
open_append (x ∷ os) o = ap (λ us. unrecorded_of x.task ∷ us) (open_append os o)

pub accepted_open : (a : Activation) (T : Trace) → a.id.count ≡ last T a.id.namespace + 1 → IsSound T → unrecorded (Accepted a ∷ T) ≡ unrecorded T ++ unrecorded_of a ∷ []
accepted_open a T next sound =
    let new : a.id.count ≡ last_of (drawn T) a.id.namespace + 1 = next ∙ ap (λ n. n + 1) (sym (drawn_last T a.id.namespace)) in
    let grown : shown (Accepted a ∷ T) ≡ grow (Accepted a) (shown T) = (sound_items (Accepted a ∷ []) T ((new, tt), tt) sound).1 in
    ap (λ (v : Shown). map (λ (x : Open). unrecorded_of x.task) v.open_items) grown
    ∙ open_append (open_items T) (record { task = a; state = Waiting })

pub opens_append : (us : List Unrecorded) (u : Unrecorded) → map open_bytes (us ++ u ∷ []) ≡ map open_bytes us ++ open_bytes u ∷ []
opens_append [] u = refl
opens_append (x ∷ us) u = ap (λ os. open_bytes x ∷ os) (opens_append us u)

pub lacks_new : (a : Activation) (T : Trace) → a.id.count ≡ last T a.id.namespace + 1 → IsSound T → AllByRecursion (λ u. same_id a.id u.id ≡ false) (unrecorded T)
lacks_new a T next sound =
    let fresh = new_known a.id T next sound in
    let once = sound.once a.id in
    let none : times a.id (ids_of (open_items T)) ≡ 0 = omega (arith, fresh, once) in
    nowhere (λ (u : Unrecorded). u.id) a.id (unrecorded T) (ap (times a.id) (kept_ids (open_items T)) ∙ none)

module _ (rs : List Row) (T : Trace) (a : Activation) (sound : IsSound T) (ids : AreIds T) (is : IsId a.id) (next : a.id.count ≡ last T a.id.namespace + 1) where
  abbrev u : Unrecorded
  u = unrecorded_of a

  abbrev F : List Row
  F = filter is_kept rs

  abbrev counts : List Id
  counts = put_id a.id (drawn T)

  abbrev E0 : Entries
  E0 = sections (drawn T) F (unrecorded T) (shown_records T)

  abbrev E1 : Entries
  E1 = sections counts F (unrecorded T) (shown_records T)

  abbrev E2 : Entries
  E2 = sections counts F (unrecorded T ++ u ∷ []) (shown_records T)

  count_step : Makes (put_of (count_item a.id) ∷ []) E0 E1
  count_step = count_put a.id (drawn T) counts F (unrecorded T) (shown_records T) (counted a.id (drawn T) is ids.drawn)

  lacks : Lacks open_of (open_key a.id) (unrecorded T)
  lacks = lacks_open a.id (unrecorded T) is ids.opened (lacks_new a T next sound)

  open_step : Makes (put_of (items.Open u) ∷ []) E1 E2
  open_step = open_put u counts F (unrecorded T) (unrecorded T ++ u ∷ []) (shown_records T) (put_end open_of u (unrecorded T) lacks)

  abbrev After : List Unrecorded → Entries
  After us = sections counts F us (shown_records T)

  pub accept_made : Makes (accept_changes u) (entries rs T) (entries rs (Accepted a ∷ T))
  accept_made =
      made_so (accept_changes u) rs rs T (Accepted a ∷ T)
      (subst (λ (us : List Unrecorded). Makes (accept_changes u) E0 (After us)) (sym (accepted_open a T next sound))
      (makes_then (put_of (count_item a.id) ∷ []) (put_of (items.Open u) ∷ []) E0 E1 E2 count_step open_step))

  last_weighs : weight_at (count_key a.id.namespace) E0 ≡ last_bytes a.id.namespace (last T a.id.namespace)
  last_weighs =
      ap (weight (count_key a.id.namespace)) (count_text (drawn T) F (unrecorded T) (shown_records T) a.id.namespace)
      ∙ count_weighs a.id.namespace (drawn T) is.namespace ids.drawn
      ∙ ap (last_bytes a.id.namespace) (drawn_last T a.id.namespace)

  open_weighs_none : weight_at (open_key a.id) E1 ≡ 0
  open_weighs_none = ap (weight (open_key a.id)) (open_text counts F (unrecorded T) (shown_records T) a.id ∙ absent open_of (open_key a.id) (unrecorded T) lacks)

  -- how many bytes the kept rows have after the acceptance
  pub accept_weighs : bytes_of (kept rs (Accepted a ∷ T)) + last_bytes a.id.namespace (last T a.id.namespace) ≡ bytes_of (kept rs T) + (row_bytes (count_item a.id) + row_bytes (items.Open u))
  unfolding kept
  accept_weighs =
      let one = put_bytes (item_key (count_item a.id)) (item_text (count_item a.id)) E0 E1 count_step in
      let two = put_bytes (item_key (items.Open u)) (item_text (items.Open u)) E1 E2 open_step in
      let before : bytes_of (rows_of (entries rs T)) ≡ bytes_of (rows_of E0) = ap (λ es. bytes_of (rows_of es)) (entries_are rs T) in
      let after : bytes_of (rows_of (entries rs (Accepted a ∷ T))) ≡ bytes_of (rows_of E2)
      = ap (λ es. bytes_of (rows_of es)) (entries_are rs (Accepted a ∷ T)) ∙ ap (λ us. bytes_of (rows_of (After us))) (accepted_open a T next sound) in
      omega (arith, one, two, before, after, last_weighs, open_weighs_none)

pub accept_ids : (T : Trace) (a : Activation) → IsSound T → AreIds T → IsId a.id → a.id.count ≡ last T a.id.namespace + 1 → AreIds (Accepted a ∷ T)
accept_ids T a sound ids is next = record {
  drawn = all_put _ a.id (drawn T) (record { is = is; drawn = omega (arith, next) }) ids.drawn;
  opened = subst (λ (us : List Unrecorded). AllByRecursion (λ u. IsId u.id) us) (sym (accepted_open a T next sound)) (all_both _ (unrecorded T) (unrecorded_of a ∷ []) ids.opened (is, tt));
  ended = ids.ended;
}
