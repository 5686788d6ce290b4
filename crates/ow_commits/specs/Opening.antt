-- What is taken over at an opening from kept rows, and what it commits.
use Rattle.std.specs.Prelude.{◌≡◌, ◌+◌, ◌++◌, ℕ, List, [], ◌∷◌, map, false, unwrap_or}
use Rattle.std.specs.List.{AllByRecursion, flat_map}
use Rattle.ow_entity.specs.declared.rows.Row.{Row}
use Rattle.ow_floor.specs.Growth.{AreResumable}
use Rattle.ow_floor.specs.Trace.{Opened, Resumed, Trace}
use Rattle.ow_row_text.specs.declared.item.Item.TheVariants as items
use Rattle.ow_row_text.specs.declared.item.RowsVersion.TheVariants as versions
use Rattle.ow_row_text.specs.Sorted.{Entries}
use Rattle.ow_keep.specs.Split.{HoldsItems, Parts}
use Rattle.ow_commits.specs.Commits.{end_changes, put_of}
use Rattle.ow_commits.specs.Keeping.{AreIds, row_bytes}
use Rattle.ow_commits.specs.Kept.{OthersView, kept_whole, no_archive}
use Rattle.ow_records.specs.declared.record.Record.{Record}
use Rattle.ow_records.specs.declared.unrecorded.Unrecorded.{Unrecorded}
use Rattle.ow_records.specs.Unrecorded.{abandoned_record}
use Rattle.ow_tables.specs.Builtin.{builtin, is_builtin}
use Rattle.ow_tables.specs.Rows.{resumed}
use Rattle.ow_traits.specs.Changes.{changed}
use Rattle.ow_traits.specs.Rows.{AreRows}
use Rattle.ow_traits.specs.declared.change_list.Change.{Change}
use Rattle.ow_traits.specs.declared.prewarms.Prewarm.{Prewarm}

-- the records of activations that are abandoned at this moment
abbrev pub abandoned : ℕ → List Unrecorded → List Record
abandoned at us = map (λ u. abandoned_record u at) us

-- the records that are kept once the opening is committed
abbrev pub resumed_records : ℕ → List Unrecorded → List Record → List Record
resumed_records at us ended = ended ++ abandoned at us

-- the archive and the notes that rows hold. Those of the first version hold none
abbrev pub others_of : Parts → OthersView
others_of p = record { archive = unwrap_or p.archive no_archive; notes = p.notes }

-- what an opening at this moment commits: the rows are of the second version then, with a row of the archive, and the activations that had
-- not ended are abandoned
abbrev pub opening_changes : ℕ → Parts → List Change
opening_changes at p = put_of (items.Version versions.Second) ∷ put_of (items.Archive (others_of p).archive) ∷ flat_map end_changes (abandoned at p.unrecorded)

-- what a floor takes over that is opened at this moment with what rows hold
abbrev pub opened_trace : ℕ → Parts → ℕ → List Prewarm → Trace
opened_trace at p pool wants = Resumed p.counts (resumed_records at p.unrecorded p.records) ∷ Opened pool wants ∷ []

-- how many bytes the rows of these activations have, for private clauses
abbrev pub opens_bytes : List Unrecorded → ℕ
opens_bytes [] = 0
opens_bytes (u ∷ us) = row_bytes (items.Open u) + opens_bytes us

-- none of these rows is there from the start
abbrev pub AreNotBuiltin : List Row → Type 0
AreNotBuiltin rs = AllByRecursion (λ r. is_builtin r ≡ false) rs

-- what an opening commits makes what is kept of what it takes over
abbrev pub OpeningsAreKept : Type 0
OpeningsAreKept = (all : Entries) (p : Parts) (at pool : ℕ) (wants : List Prewarm) → AreRows all → HoldsItems all p → AreNotBuiltin p.entities
    → changed (opening_changes at p) all ≡ kept_whole (others_of p) (resumed p.entities builtin) (opened_trace at p pool wants)

-- what rows hold may be taken over by a floor
abbrev pub MayBeResumed : Type 0
MayBeResumed = (all : Entries) (p : Parts) (at : ℕ) → AreRows all → HoldsItems all p → AreResumable p.counts (resumed_records at p.unrecorded p.records)

-- the ids that are taken over are those of activations
abbrev pub ResumedIdsAreKnown : Type 0
ResumedIdsAreKnown = (all : Entries) (p : Parts) (at pool : ℕ) (wants : List Prewarm) → HoldsItems all p → AreIds (opened_trace at p pool wants)

-- no row of an entity that rows hold is there from the start
abbrev pub HeldRowsAreNotBuiltin : Type 0
HeldRowsAreNotBuiltin = (all : Entries) (p : Parts) → HoldsItems all p → AreNotBuiltin p.entities
