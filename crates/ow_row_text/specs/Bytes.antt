-- How many bytes the keys and texts of entries have.
use Rattle.std.specs.Prelude.{◌≡◌, ◌+◌, ℕ, List, [], ◌∷◌, length, Option, Some, None}
use Rattle.ow_traits.specs.Rows.{text_of}
use Rattle.ow_row_text.specs.Sorted.{Entries}

abbrev pub bytes_of : Entries → ℕ
bytes_of [] = 0
bytes_of (e ∷ es) = length e.0 + length e.1 + bytes_of es

abbrev pub weight : List ℕ → Option (List ℕ) → ℕ
weight key None = 0
weight key (Some text) = length key + length text

-- how many bytes the row at the key has, or 0 where there is none
abbrev pub weight_at : List ℕ → Entries → ℕ
weight_at key es = weight key (text_of key es)

-- no key appears twice
abbrev pub AreApart : Entries → Type 0
AreApart [] = Unit {0}
AreApart (e ∷ es) = (text_of e.0 es ≡ None) × AreApart es
