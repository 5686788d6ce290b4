-- The items of rows, or the first row that is not allowed.
use Rattle.std.specs.Prelude.{◌≡◌, ℕ, List, [], ◌∷◌, ◌++◌, codes, is_some, if◌then◌else◌, Option, Some, None, Result, Ok, Err}
use Rattle.ow_traits.specs.Rows.{text_of}
use Rattle.ow_row_text.specs.Sorted.{Entries}
use Rattle.ow_keep.specs.Allowed.{item_at}
use Rattle.ow_row_text.specs.declared.item.Item.{Item}
use Rattle.ow_keep.specs.declared.refusal.KeepRefusal.{KeepRefusal}
use Rattle.ow_keep.specs.declared.refusal.KeepRefusal.TheVariants.{BadKept, NoMemory}

abbrev pub with_item : Item → Result (List Item) (List ℕ) → Result (List Item) (List ℕ)
with_item i (Ok is) = Ok (i ∷ is)
with_item i (Err key) = Err key

abbrev pub or_key : List ℕ → Option Item → Result (List Item) (List ℕ) → Result (List Item) (List ℕ)
or_key key None rest = Err key
or_key key (Some i) rest = with_item i rest

-- the items of these rows, which are some of all rows, or the key of the first that is not allowed
abbrev pub gathered : Entries → Entries → Result (List Item) (List ℕ)
gathered all [] = Ok []
gathered all (r ∷ rs) = or_key r.0 (item_at all r) (gathered all rs)

abbrev pub versioned : Entries → Result (List Item) (List ℕ) → Result (List Item) (List ℕ)
versioned all (Err key) = Err key
versioned all (Ok is) = if is_some (text_of (codes "version") all) then Ok is else Err (codes "version")

abbrev pub judged : Entries → Result (List Item) (List ℕ)
judged [] = Ok []
judged (r ∷ rs) = versioned (r ∷ rs) (gathered (r ∷ rs) (r ∷ rs))

-- the items before these, for lemmas
abbrev pub behind : List Item → Result (List Item) (List ℕ) → Result (List Item) (List ℕ)
behind front (Ok is) = Ok (front ++ is)
behind front (Err key) = Err key

-- what a refusal says of the rows that were judged, for private clauses
abbrev pub IsBad : Result (List Item) (List ℕ) → KeepRefusal → Type 0
IsBad answer (BadKept key) = answer ≡ Err key
IsBad answer NoMemory = Unit {0}
