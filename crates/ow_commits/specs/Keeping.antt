-- What is known of the kept rows beside floor and rows: how many bytes they have, and how many of these are in the row of each activation
-- that has not ended.
use Rattle.std.specs.Prelude.{◌≡◌, ◌==◌, ◌≤◌, ◌+◌, ◌-◌, ◌++◌, ◌∷◌, [], ℕ, Bool, List, length, map, if◌then◌else◌, Option, Some, None}
use Rattle.std.specs.List.{AllByRecursion}
use Rattle.ow_entity.specs.declared.rows.Row.{Row}
use Rattle.ow_floor.specs.Trace.{Item as FloorItem, Archived, Resumed, Trace, shown_records, drawn}
use Rattle.ow_floor.specs.declared.moves.Moved.{Moved}
use Rattle.ow_floor.specs.declared.moves.Moved.TheVariants as moves
use Rattle.ow_floor.specs.View.{remove_first}
use Rattle.ow_row_text.specs.declared.item.Item.{Item}
use Rattle.ow_row_text.specs.declared.item.Item.TheVariants as items
use Rattle.ow_row_text.specs.Bytes.{bytes_of}
use Rattle.ow_row_text.specs.Item.{item_key, item_text}
use Rattle.ow_commits.specs.declared.open_bytes.OpenBytes.{OpenBytes}
use Rattle.ow_commits.specs.Kept.{OthersView, kept, others_bytes, unrecorded}
use Rattle.ow_records.specs.declared.ids.Id.{Id}
use Rattle.ow_records.specs.declared.record.Record.{Record}
use Rattle.ow_records.specs.declared.unrecorded.Unrecorded.{Unrecorded}
use Rattle.ow_records.specs.Id.{same_id}
use Rattle.ow_records.specs.Known.{IsId}
use Rattle.ow_records.specs.Unrecorded.{unrecorded_of}
use Rattle.ow_tables.specs.Builtin.{is_builtin}
use Rattle.ow_tables.specs.Contents.{Change as TableChange}
use Rattle.ow_traits.specs.declared.change_list.Change.{Change}

-- how many bytes all kept rows have; for each activation that has not ended, its id and the bytes of its row, in the order of acceptance
pub record KeepingView : Type 0 where
  pub bytes : ℕ
  pub opens : List OpenBytes

-- changes that are to be committed; how many bytes all kept rows have then; for each activation that has not ended then, its id and the
-- bytes of its row
pub record FollowingView : Type 0 where
  pub changes : List Change
  pub bytes : ℕ
  pub opens : List OpenBytes

-- how many bytes the row of the item has: those of its key and of its text
abbrev pub row_bytes : Item → ℕ
row_bytes i = length (item_key i) + length (item_text i)

abbrev pub open_bytes : Unrecorded → OpenBytes
open_bytes u = record { id = u.id; bytes = row_bytes (items.Open u) }

abbrev pub is_of : Id → OpenBytes → Bool
is_of id o = same_id o.id id

-- the bytes of the row of a namespace's last count, which is there once a count was drawn, for private clauses
abbrev pub last_bytes : ℕ → ℕ → ℕ
last_bytes namespace last = if last == 0 then 0 else row_bytes (items.Count namespace last)

-- the bytes of the row of an entity, where there is one, for private clauses
abbrev pub old_bytes : Option Row → ℕ
old_bytes None = 0
old_bytes (Some r) = row_bytes (items.Row r)

-- how many bytes go with the old row at a change of the rows, for private clauses
abbrev pub bytes_less : TableChange → Option Row → ℕ
bytes_less c old = if is_builtin c.row then 0 else old_bytes old

-- how many bytes come with a change of the rows, for private clauses
abbrev pub bytes_more : TableChange → ℕ
bytes_more c = if is_builtin c.row then 0 else if c.removes then 0 else row_bytes (items.Row c.row)

-- the bytes of the row of an activation that has not ended, for private clauses
abbrev pub bytes_at : Id → List OpenBytes → ℕ
bytes_at id [] = 0
bytes_at id (o ∷ os) = if is_of id o then o.bytes else bytes_at id os

-- the bytes of the rows of records, for private clauses
abbrev pub done_bytes : List Record → ℕ
done_bytes [] = 0
done_bytes (r ∷ rs) = row_bytes (items.Done r) + done_bytes rs

-- a last count was drawn
pub record IsDrawn (id : Id) : Type 0 where
  pub is : IsId id
  pub drawn : 1 ≤ id.count

-- the ids of a trace are those of activations
pub record AreIds (T : Trace) : Type 0 where
  pub drawn : AllByRecursion IsDrawn (drawn T)
  pub opened : AllByRecursion (λ u. IsId u.id) (unrecorded T)
  pub ended : AllByRecursion (λ r. IsId r.id) (shown_records T)

-- what is known of the kept rows is true of what is kept of the archive and the notes, of these rows and this trace
pub record StandsForKept (v : KeepingView) (o : OthersView) (rs : List Row) (T : Trace) : Type 0 where
  pub bytes : v.bytes ≡ others_bytes o + bytes_of (kept rs T)
  pub opens : v.opens ≡ map open_bytes (unrecorded T)
  pub ids : AreIds T

-- once what follows is kept, what it says of the kept rows is true of what is kept of these
abbrev pub StandsFollowing : FollowingView → OthersView → List Row → Trace → Type 0
StandsFollowing c o rs T = StandsForKept (record { bytes = c.bytes; opens = c.opens }) o rs T

-- ---- what follows from moves

-- the bytes that a move takes from the kept rows, over the activations that have not ended
abbrev pub less_of : Moved → List OpenBytes → ℕ
less_of (moves.Accepted a) os = last_bytes a.id.namespace (a.id.count - 1)
less_of (moves.Ended r) os = bytes_at r.id os
less_of (moves.Drawn id) os = last_bytes id.namespace (id.count - 1)
less_of (moves.Fired r) os = 0

-- the bytes that a move adds to the kept rows
abbrev pub more_of : Moved → ℕ
more_of (moves.Accepted a) = row_bytes (items.Count a.id.namespace a.id.count) + row_bytes (items.Open (unrecorded_of a))
more_of (moves.Ended r) = row_bytes (items.Done r)
more_of (moves.Drawn id) = row_bytes (items.Count id.namespace id.count)
more_of (moves.Fired r) = row_bytes (items.Done r)

-- what has not ended after a move
abbrev pub opens_moved : Moved → List OpenBytes → List OpenBytes
opens_moved (moves.Accepted a) os = os ++ open_bytes (unrecorded_of a) ∷ []
opens_moved (moves.Ended r) os = remove_first (is_of r.id) os
opens_moved m os = os

-- a number of bytes and what has not ended, before and after one move
pub record FollowsOne (m : Moved) (n : ℕ) (os : List OpenBytes) (after : ℕ) (left : List OpenBytes) : Type 0 where
  pub bytes : after + less_of m os ≡ n + more_of m
  pub opens : left ≡ opens_moved m os

-- the same before and after all of these moves, the earliest first
abbrev pub Follows : List Moved → ℕ → List OpenBytes → ℕ → List OpenBytes → Type 0
Follows [] bytes os after left = (after ≡ bytes) × (left ≡ os)
Follows (m ∷ ms) bytes os after left = (n : ℕ) × (us : List OpenBytes) × (FollowsOne m bytes os n us × Follows ms n us after left)

-- the ids of the move are those of activations
abbrev pub IsKnownMove : Moved → Type 0
IsKnownMove (moves.Accepted a) = IsId a.id
IsKnownMove (moves.Ended r) = IsId r.id
IsKnownMove (moves.Drawn id) = IsId id
IsKnownMove (moves.Fired r) = IsId r.id

-- the item takes over nothing of an earlier run
abbrev pub IsOwn : FloorItem → Type 0
IsOwn (Resumed counts rs) = ⊥
IsOwn (Archived until at) = ⊥
IsOwn item = Unit {0}

abbrev pub AreOwn : Trace → Type 0
AreOwn items = AllByRecursion IsOwn items
