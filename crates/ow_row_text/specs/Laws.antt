-- Laws of kept rows: what changes make of them, and of how many bytes they have.
use Rattle.std.specs.Prelude.{◌≡◌, ◌+◌, ℕ, List, [], ◌∷◌, ◌++◌, length, None}
use Rattle.ow_traits.specs.Changes.{changed}
use Rattle.ow_traits.specs.Rows.{AreRows, text_of, with_row, without}
use Rattle.ow_traits.specs.declared.change_list.Change.{Change}
use Rattle.ow_traits.specs.declared.change_list.Change.TheVariants.{Put, Drop as Dropped, Retire}
use Rattle.ow_row_text.specs.Bytes.{AreApart, weight_at, bytes_of}
use Rattle.ow_row_text.specs.Sorted.{AreOtherKeys, Entries, rows_of, Makes}

-- what changes make of the rows of some entries, where they make the new entries of the old ones key by key
abbrev pub ChangesAreKept : Type 0
ChangesAreKept = (changes : List Change) (old new : Entries) → Makes changes old new → changed changes (rows_of old) ≡ rows_of new

-- what one change makes of a list of entries
pub record EntryChanges : Type 0 where
  pub put_front : (key text : List ℕ) (es : Entries) → Makes (Put key text ∷ []) es ((key, text) ∷ es)
  pub put_end : (key text : List ℕ) (es : Entries) → text_of key es ≡ None → Makes (Put key text ∷ []) es (es ++ (key, text) ∷ [])
  pub put_over : (key old new : List ℕ) (before behind : Entries) → text_of key before ≡ None
      → Makes (Put key new ∷ []) (before ++ (key, old) ∷ behind) (before ++ (key, new) ∷ behind)
  pub drop_at : (key text : List ℕ) (before behind : Entries) → text_of key before ≡ None → text_of key behind ≡ None
      → Makes (Dropped key ∷ []) (before ++ (key, text) ∷ behind) (before ++ behind)
  pub retire : (key text : List ℕ) (old new : Entries) → Makes (Dropped key ∷ []) old new → Makes (Retire key text ∷ []) old new

-- a change in one of two lists, where the other has not its key
pub record SectionChanges : Type 0 where
  pub put_before : (key text : List ℕ) (old new behind : Entries) → Makes (Put key text ∷ []) old new → Makes (Put key text ∷ []) (old ++ behind) (new ++ behind)
  pub put_after : (key text : List ℕ) (before old new : Entries) → text_of key before ≡ None → Makes (Put key text ∷ []) old new → Makes (Put key text ∷ []) (before ++ old) (before ++ new)
  pub drop_before : (key : List ℕ) (old new behind : Entries) → text_of key behind ≡ None → Makes (Dropped key ∷ []) old new → Makes (Dropped key ∷ []) (old ++ behind) (new ++ behind)
  pub drop_after : (key : List ℕ) (before old new : Entries) → text_of key before ≡ None → Makes (Dropped key ∷ []) old new → Makes (Dropped key ∷ []) (before ++ old) (before ++ new)

-- what changes make of entries, and of their rows, they make where others come before, none of which has a key of the changes
pub record OthersStay : Type 0 where
  pub made : (changes : List Change) (others old new : Entries) → AreOtherKeys others changes → Makes changes old new → Makes changes (others ++ old) (others ++ new)
  pub kept : (changes : List Change) (others old new : Entries) → AreOtherKeys others changes → changed changes (rows_of old) ≡ rows_of new
      → changed changes (rows_of (others ++ old)) ≡ rows_of (others ++ new)

-- how many bytes the rows have after a change, and that they are those of the entries
pub record BytesChange : Type 0 where
  pub put : (key text : List ℕ) (rows : Entries) → AreRows rows → bytes_of (with_row rows key text) + weight_at key rows ≡ bytes_of rows + (length key + length text)
  pub drop : (key : List ℕ) (rows : Entries) → AreRows rows → bytes_of (without key rows) + weight_at key rows ≡ bytes_of rows
  pub weight : (key : List ℕ) (es : Entries) → weight_at key (rows_of es) ≡ weight_at key es
  pub order : (es : Entries) → AreApart es → bytes_of (rows_of es) ≡ bytes_of es
