-- Rows of a key and a text.
use Rattle.std.specs.Prelude.{ℕ, List, Option}
use Rattle.std.specs.BTreeMap.{is_at, insert_entry}
use Rattle.std.specs.List.Sorted.{IsStrictlySortedBy}
use Rattle.std.specs.Map.{keys_of, lookup, remove_entry}
use Rattle.ow_value.specs.Value.{text_cmp}

-- the keys rise by their bytes, so none occurs twice
abbrev pub AreRows : List (List ℕ × List ℕ) → Type 0
AreRows rows = IsStrictlySortedBy text_cmp (keys_of rows)

-- the text at a key
abbrev pub text_of : List ℕ → List (List ℕ × List ℕ) → Option (List ℕ)
text_of key rows = lookup (is_at (text_cmp key)) rows

-- the rows, with this text at this key
abbrev pub with_row : List (List ℕ × List ℕ) → List ℕ → List ℕ → List (List ℕ × List ℕ)
with_row = insert_entry text_cmp

-- the rows without the row of the key
abbrev pub without : List ℕ → List (List ℕ × List ℕ) → List (List ℕ × List ℕ)
without key rows = remove_entry (is_at (text_cmp key)) rows
