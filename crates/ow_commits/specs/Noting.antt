-- Notes: numbers that are kept under keys.
use Rattle.std.specs.Prelude.{ℕ, List, [], ◌∷◌, ◌+◌, if◌then◌else◌, Option, Some, None}
use Rattle.std.specs.Str.{bytes_eq}
use Rattle.ow_commits.specs.Keeping.{row_bytes}
use Rattle.ow_row_text.specs.declared.item.Item.TheVariants as items
use Rattle.ow_commits.specs.Kept.{OthersView}
use Rattle.ow_row_text.specs.declared.item.Note.{Note}

-- the number under a key
abbrev pub note_of : List ℕ → List Note → Option ℕ
note_of key [] = None
note_of key (n ∷ ns) = if bytes_eq key n.key then Some n.value else note_of key ns

-- the note in place of the one with its key, or after all others
abbrev pub with_note : Note → List Note → List Note
with_note n [] = n ∷ []
with_note n (m ∷ ms) = if bytes_eq n.key m.key then n ∷ ms else m ∷ with_note n ms

abbrev pub noting : Note → OthersView → OthersView
noting n o = record o { notes = with_note n o.notes }

-- ---- for private clauses

-- the place of the note with the key of this one, or after all notes where there is none
abbrev pub place_of : Note → List Note → ℕ
place_of n [] = 0
place_of n (m ∷ ms) = if bytes_eq n.key m.key then 0 else place_of n ms + 1

-- the bytes of the row with the number that was kept under a key, where there was one
abbrev pub old_note_bytes : List ℕ → Option ℕ → ℕ
old_note_bytes key None = 0
old_note_bytes key (Some value) = row_bytes (items.Note (record { key = key; value = value }))
