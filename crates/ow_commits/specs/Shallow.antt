-- Rows of activations nest no deeper than they are read back.
use Rattle.std.specs.Prelude.{◌≡◌, ◌≤◌, ℕ, List, true}
use Rattle.ow_value.specs.Nesting.{most_nested}
use Rattle.ow_value.specs.Value.{depth, members_of, object}
use Rattle.ow_floor.specs.Trace.{End, record_of}
use Rattle.ow_row_text.specs.declared.item.Item.TheVariants as items
use Rattle.ow_keep.specs.Allowed.{is_shallow}
use Rattle.ow_records.specs.Fire.{trigger_record}
use Rattle.ow_records.specs.Unrecorded.{abandoned_record}
use Rattle.ow_records.specs.declared.fires.Fire.{Fire}
use Rattle.ow_records.specs.declared.outcomes.Ending.{Ending}
use Rattle.ow_records.specs.declared.outcomes.Ending.TheVariants.{Composed}
use Rattle.ow_records.specs.declared.unrecorded.Unrecorded.{Unrecorded}

-- no row of an activation that has not ended nests deeper than it is read
abbrev pub OpensAreShallow : Type 0
OpensAreShallow = (u : Unrecorded) → is_shallow (items.Open u) ≡ true

-- the response of a sequence or a conductor nests no deeper than it is read; that of another ending never does
abbrev pub IsShallowEnding : Ending → Type 0
IsShallowEnding (Composed response children) = depth (object (members_of response.result)) ≤ most_nested
IsShallowEnding ending = Unit {0}

-- nor does one of a record that such an end makes
abbrev pub EndsAreShallow : Type 0
EndsAreShallow = (e : End) → IsShallowEnding e.ending → is_shallow (items.Done (record_of e)) ≡ true

-- nor one of an activation that is abandoned
abbrev pub AbandonedAreShallow : Type 0
AbandonedAreShallow = (u : Unrecorded) (at : ℕ) → is_shallow (items.Done (abandoned_record u at)) ≡ true

-- nor one of a fire whose merged parameters nest no deeper than they are read
abbrev pub FiresAreShallow : Type 0
FiresAreShallow = (f : Fire) (lines : List (List ℕ)) → depth (object (members_of f.params)) ≤ most_nested → is_shallow (items.Done (trigger_record f lines)) ≡ true
