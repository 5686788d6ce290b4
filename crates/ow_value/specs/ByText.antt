-- Values by texts.
use Rattle.std.specs.Prelude.{◌≡◌, ◌<◌, ℕ, List, Option, length, option_map, slice_get}
use Rattle.std.specs.BTreeMap.{is_at, insert_entry}
use Rattle.std.specs.List.Sorted.{IsStrictlySortedBy}
use Rattle.std.specs.Map.{keys_of, lookup}
use Rattle.ow_value.specs.Value.{text_cmp}

-- texts with their values, in the order of the texts' bytes
abbrev pub ByText : Type 0 → Type 0
ByText W = List (List ℕ × W)

-- the texts rise, so none occurs twice, for private clauses
abbrev pub IsByText : {W : Type 0} → ByText W → Type 0
IsByText es = IsStrictlySortedBy text_cmp (keys_of es)

-- the value of a text
abbrev pub value_at : {W : Type 0} → List ℕ → ByText W → Option W
value_at text es = lookup (is_at (text_cmp text)) es

-- the text is at this place, counted from 0, with its value
abbrev pub StandsAt : {W : Type 0} → List ℕ → ByText W → ℕ → Type 0
StandsAt text es i = (i < length es) × (slice_get es i ≡ option_map (λ w. (text, w)) (value_at text es))

-- the same values, except this one at this text
abbrev pub with_value : {W : Type 0} → ByText W → List ℕ → W → ByText W
with_value = insert_entry text_cmp
