-- What is taken over at an opening, of what the kept rows hold.
use Rattle.std.specs.Prelude.{◌&&◌, ℕ, Bool, true, false, not, nat_le, List, [], ◌∷◌, map, if◌then◌else◌, Option, Some, None, Result, Ok, Err}
use Rattle.ow_floor.specs.Calls.{resume_items}
use Rattle.ow_floor.specs.Trace.{Item as Happened, Opened, Trace}
use Rattle.ow_floor.specs.View.{last_of, same_namespace, same_record}
use Rattle.ow_floor.specs.declared.answers.Happening.{Happening}
use Rattle.ow_floor.specs.declared.answers.Happening.TheVariants.{Recorded}
use Rattle.ow_row_text.specs.declared.item.Item.{Item}
use Rattle.ow_keep.specs.Split.{Parts, split}
use Rattle.ow_commits.specs.Opening.{others_of, resumed_records}
use Rattle.ow_records.specs.Outcome.{outcome}
use Rattle.ow_records.specs.declared.ids.Id.{Id}
use Rattle.ow_records.specs.declared.outcomes.Ending.TheVariants.{Abandoned}
use Rattle.ow_records.specs.declared.record.Record.{Record}
use Rattle.ow_records.specs.declared.unrecorded.Unrecorded.{Unrecorded}
use Rattle.ow_decide.specs.Asking.{put_of}
use Rattle.ow_decide.specs.Decision.{Decision, TakesOver, tells}
use Rattle.ow_decide.specs.declared.events.Told.TheVariants as told
use Rattle.ow_decide.specs.declared.waits.Waits.TheVariants.{Keep}

-- ---- where it may be taken over

abbrev pub is_first : Happened → Trace → Bool
is_first (Opened pool wants) [] = true
is_first item T = false

-- nothing happened but that the floor was opened
abbrev pub is_fresh : Trace → Bool
is_fresh [] = false
is_fresh (item ∷ T) = is_first item T

abbrev pub all_pass : {X : Type 0} → (X → Bool) → List X → Bool
all_pass p [] = true
all_pass p (x ∷ xs) = p x && all_pass p xs

-- no two of these are the same by this test
abbrev pub are_distinct : {X : Type 0} → (X → X → Bool) → List X → Bool
are_distinct same [] = true
are_distinct same (x ∷ xs) = all_pass (λ y. not (same x y)) xs && are_distinct same xs

-- the last ids are of different namespaces, and the records of different activations, whose ids were drawn. This holds for rows that are
-- kept
abbrev pub are_resumable : List Id → List Record → Bool
are_resumable counts rs = are_distinct same_namespace counts && (are_distinct same_record rs && all_pass (λ r. nat_le r.id.count (last_of counts r.id.namespace)) rs)

-- these parts, where nothing happened yet and a floor may take them over
abbrev pub taken_if : Bool → Parts → Option Parts
taken_if b parts = if b then Some parts else None

abbrev pub parts_taken : ℕ → Trace → Result (List Item) (List ℕ) → Option Parts
parts_taken at T (Ok items) = taken_if (is_fresh T && are_resumable (split items).counts (resumed_records at (split items).unrecorded (split items).records)) (split items)
parts_taken at T (Err key) = None

-- ---- what is done

-- what is reported of activations that are recorded as abandoned
abbrev pub abandoned_told : List Unrecorded → List Happening
abandoned_told us = map (λ u. Recorded u.id (outcome Abandoned u.limits).code) us

-- what kept rows hold is taken over: the last counts, the records, the rows of entities, the archive and the notes. What had not ended is recorded as abandoned,
-- by id
abbrev pub taken_over : ℕ → Parts → Decision
taken_over at parts = record {
  told = told.Opened (abandoned_told parts.unrecorded);
  items = resume_items parts.counts (resumed_records at parts.unrecorded parts.records);
  changes = map put_of parts.entities;
  waits = Keep;
  others = TakesOver (others_of parts);
}

-- what is done at an opening, over what is taken over. Where that is nothing, nothing is done
abbrev pub opened_decision : ℕ → Option Parts → Decision
opened_decision at None = tells (told.Opened [])
opened_decision at (Some parts) = taken_over at parts
