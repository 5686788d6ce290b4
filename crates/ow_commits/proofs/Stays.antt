-- Items at which nothing changes of what is kept, and which activations have not ended after one has.
use Rattle.std.proofs.Common.{◌≡◌, ◌+◌, Bool, true, false, cond, List, [], ◌∷◌, filter, map, Option, Some, None, refl, sym, ap, ◌∙◌, subst}
use Rattle.std.specs.List.{AllByRecursion}
use Rattle.ow_entity.specs.declared.rows.Row.{Row}
use Rattle.ow_floor.specs.declared.activations.Open.{Open}
use Rattle.ow_floor.specs.declared.activations.State.{State}
use Rattle.ow_floor.specs.declared.activations.State.TheVariants.{Waiting}
use Rattle.ow_floor.specs.declared.runs.Run.{Run}
use Rattle.ow_floor.specs.Growth.{AreRight, IsRight, freed}
use Rattle.ow_floor.specs.Trace.{Item, Trace, shown_records, drawn, shown}
use Rattle.ow_slots.specs.Slots.{change_first}
use Rattle.ow_floor.specs.View.{Shown, is_of, remove_first, with_state}
use Rattle.ow_row_text.specs.Bytes.{bytes_of}
use Rattle.ow_row_text.specs.Sorted.{Entries, Makes, rows_of}
use Rattle.ow_commits.specs.declared.open_bytes.OpenBytes.{OpenBytes}
use Rattle.ow_commits.specs.Keeping.{AreIds, IsDrawn, is_of as kept_of, open_bytes}
use Rattle.ow_commits.specs.Kept.{entries, is_kept, kept, unrecorded}
use Rattle.ow_commits.proofs.Ending.{Goes, of_open}
use Rattle.ow_commits.proofs.Sections.{entries_are, sections}
use Rattle.ow_records.specs.declared.ids.Id.{Id}
use Rattle.ow_records.specs.declared.record.Record.{Record}
use Rattle.ow_records.specs.declared.unrecorded.Unrecorded.{Unrecorded}
use Rattle.ow_records.specs.Id.{same_id}
use Rattle.ow_records.specs.Known.{IsId}
use Rattle.ow_records.specs.Unrecorded.{unrecorded_of}

-- ---- nothing changes

pub same_open : (p : Open → Bool) (q : State) (os : List Open) → of_open (change_first p (with_state q) os) ≡ of_open os
unfolding change_first
same_open p q [] = refl
same_open p q (o ∷ os) = at (p o) (same_open p q os)
  where
    at : (b : Bool) → of_open (change_first p (with_state q) os) ≡ of_open os → of_open (cond b (with_state q o ∷ os) (o ∷ change_first p (with_state q) os)) ≡ of_open (o ∷ os)
    at true rest = refl
    at false rest = ap (λ us. unrecorded_of o.task ∷ us) rest

pub same_freed : (r : Option Run) (os : List Open) → of_open (freed r os) ≡ of_open os
same_freed None os = refl
same_freed (Some r) os = same_open (is_of r.id) Waiting os

kept_same : (rs : List Row) (item : Item) (T : Trace) → unrecorded (item ∷ T) ≡ unrecorded T → drawn (item ∷ T) ≡ drawn T → shown_records (item ∷ T) ≡ shown_records T → entries rs (item ∷ T) ≡ entries rs T
kept_same rs item T is_open is_drawn is_ended =
    entries_are rs (item ∷ T)
    ∙ (ap (λ us. sections (drawn (item ∷ T)) (filter is_kept rs) us (shown_records (item ∷ T))) is_open
    ∙ (ap (λ xs. sections xs (filter is_kept rs) (unrecorded T) (shown_records (item ∷ T))) is_drawn
    ∙ (ap (λ ds. sections (drawn T) (filter is_kept rs) (unrecorded T) ds) is_ended
    ∙ sym (entries_are rs T))))

pub stays : (rs : List Row) (item : Item) (T : Trace) → unrecorded (item ∷ T) ≡ unrecorded T → drawn (item ∷ T) ≡ drawn T → shown_records (item ∷ T) ≡ shown_records T → AreIds T → Goes rs [] 0 0 T (item ∷ T)
unfolding kept
stays rs item T is_open is_drawn is_ended ids = record {
  makes = subst (λ (es : Entries). Makes [] (entries rs T) es) (sym (kept_same rs item T is_open is_drawn is_ended)) (record { each = λ q. refl });
  bytes = ap (λ es. bytes_of (rows_of es) + 0) (kept_same rs item T is_open is_drawn is_ended);
  ids = record {
    drawn = subst (λ (xs : List Id). AllByRecursion IsDrawn xs) (sym is_drawn) ids.drawn;
    opened = subst (λ (us : List Unrecorded). AllByRecursion (λ u. IsId u.id) us) (sym is_open) ids.opened;
    ended = subst (λ (ds : List Record). AllByRecursion (λ r. IsId r.id) ds) (sym is_ended) ids.ended;
  };
}

-- ---- which have not ended

abbrev pub opens_of : Trace → List OpenBytes
opens_of T = map open_bytes (unrecorded T)

pub opens_removed : (id : Id) (os : List Open) → map open_bytes (of_open (remove_first (is_of id) os)) ≡ remove_first (kept_of id) (map open_bytes (of_open os))
unfolding remove_first
opens_removed id [] = refl
opens_removed id (o ∷ os) = at (same_id o.task.id id) (opens_removed id os)
  where
    at : (b : Bool) → map open_bytes (of_open (remove_first (is_of id) os)) ≡ remove_first (kept_of id) (map open_bytes (of_open os))
        → map open_bytes (of_open (cond b os (o ∷ remove_first (is_of id) os))) ≡ cond b (map open_bytes (of_open os)) (open_bytes (unrecorded_of o.task) ∷ remove_first (kept_of id) (map open_bytes (of_open os)))
    at true rest = refl
    at false rest = ap (λ xs. open_bytes (unrecorded_of o.task) ∷ xs) rest

-- ---- one item

pub one_right : (item : Item) (U : Trace) (v : Shown) → shown U ≡ v → IsRight item v → AreRight (item ∷ []) (shown U)
one_right item U v is right = (subst (λ (w : Shown). IsRight item w) (sym is) right, tt)
