-- What is kept is known by its parts.
use Rattle.std.proofs.Common.{Bool, true, false, cond, List, [], ◌∷◌, filter, map}
use Rattle.std.specs.List.{AllByRecursion}
use Rattle.ow_entity.specs.declared.rows.Row.{Row}
use Rattle.ow_floor.specs.Trace.{Trace, shown_records, drawn, open_items}
use Rattle.ow_floor.specs.declared.activations.Open.{Open}
use Rattle.ow_row_text.specs.declared.item.Item.TheVariants as items
use Rattle.ow_keep.specs.Known.{IsItem, IsKnownEntity}
use Rattle.ow_records.specs.Known.{IsId, IsKnown, IsKnownUnrecorded}
use Rattle.ow_records.specs.Unrecorded.{unrecorded_of}
use Rattle.ow_commits.specs.Kept.{count_item, is_kept, kept_items, unrecorded}
use Rattle.ow_commits.proofs.Ids.{all_both}

mapped : {X Y : Type 0} (P : X → Type 0) (Q : Y → Type 0) (f : X → Y) → ((x : X) → P x → Q (f x)) → (xs : List X) → AllByRecursion P xs → AllByRecursion Q (map f xs)
mapped P Q f one [] h = tt
mapped P Q f one (x ∷ xs) h = (one x h.0, mapped P Q f one xs h.1)

picked_by : {X : Type 0} (P : X → Type 0) (p : X → Bool) (x : X) (xs : List X) (b : Bool) → P x → AllByRecursion P (filter p xs) → AllByRecursion P (cond b (x ∷ filter p xs) (filter p xs))
picked_by P p x xs true h k = (h, k)
picked_by P p x xs false h k = k

pub picked : {X : Type 0} (P : X → Type 0) (p : X → Bool) (xs : List X) → AllByRecursion P xs → AllByRecursion P (filter p xs)
picked P p [] h = tt
picked P p (x ∷ xs) h = picked_by P p x xs (p x) h.0 (picked P p xs h.1)

-- of rows, last ids, activations that have not ended, and records
pub kept_known : (rs : List Row) (T : Trace) → AllByRecursion IsKnownEntity rs → AllByRecursion IsId (drawn T)
    → AllByRecursion (λ (o : Open). IsKnownUnrecorded (unrecorded_of o.task)) (open_items T) → AllByRecursion IsKnown (shown_records T)
    → AllByRecursion IsItem (kept_items rs T)
kept_known rs T rows ids unended records = (
  tt,
  all_both IsItem (map count_item (drawn T)) _ (mapped IsId IsItem count_item (λ id h. (h.namespace, h.count)) (drawn T) ids)
      (all_both IsItem (map items.Row (filter is_kept rs)) _ (mapped IsKnownEntity IsItem items.Row (λ r h. h) (filter is_kept rs) (picked IsKnownEntity is_kept rs rows))
      (all_both IsItem (map items.Open (unrecorded T)) (map items.Done (shown_records T))
      (mapped IsKnownUnrecorded IsItem items.Open (λ u h. h) (unrecorded T)
      (mapped (λ (o : Open). IsKnownUnrecorded (unrecorded_of o.task)) IsKnownUnrecorded (λ o. unrecorded_of o.task) (λ o h. h) (open_items T) unended))
      (mapped IsKnown IsItem items.Done (λ r h. h) (shown_records T) records))),
)
