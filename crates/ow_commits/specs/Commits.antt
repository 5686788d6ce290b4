-- What each change of a floor and of rows commits.
use Rattle.std.specs.Prelude.{◌++◌, List, [], ◌∷◌, if◌then◌else◌}
use Rattle.std.specs.List.{flat_map}
use Rattle.ow_floor.specs.declared.moves.Moved.{Moved}
use Rattle.ow_floor.specs.declared.moves.Moved.TheVariants as moves
use Rattle.ow_floor.specs.Calls.{moved}
use Rattle.ow_floor.specs.Trace.{Trace}
use Rattle.ow_row_text.specs.declared.item.Item.{Item}
use Rattle.ow_row_text.specs.declared.item.Item.TheVariants as items
use Rattle.ow_row_text.specs.Item.{item_key, item_text, open_key}
use Rattle.ow_records.specs.declared.record.Record.{Record}
use Rattle.ow_records.specs.declared.unrecorded.Unrecorded.{Unrecorded}
use Rattle.ow_records.specs.Unrecorded.{unrecorded_of}
use Rattle.ow_tables.specs.Builtin.{is_builtin}
use Rattle.ow_tables.specs.Contents.{Change as TableChange}
use Rattle.ow_traits.specs.declared.change_list.Change.{Change}
use Rattle.ow_traits.specs.declared.change_list.Change.TheVariants.{Put, Drop as Dropped}

-- the row of an item is put
abbrev pub put_of : Item → Change
put_of i = Put (item_key i) (item_text i)

-- an activation was accepted: its id is the last of its namespace now, and it has not ended
abbrev pub accept_changes : Unrecorded → List Change
accept_changes u = put_of (items.Count u.id.namespace u.id.count) ∷ put_of (items.Open u) ∷ []

-- an activation has ended with this record
abbrev pub end_changes : Record → List Change
end_changes r = Dropped (open_key r.id) ∷ put_of (items.Done r) ∷ []

-- a row is put or taken out
abbrev pub row_change : TableChange → Change
row_change c = if c.removes then Dropped (item_key (items.Row c.row)) else put_of (items.Row c.row)

-- nothing, where it is there from the start
abbrev pub row_changes : TableChange → List Change
row_changes c = if is_builtin c.row then [] else row_change c ∷ []

-- what is committed of one move: of a fire first its id is the last of its namespace, and then its record is there
abbrev pub changes_of : Moved → List Change
changes_of (moves.Accepted a) = accept_changes (unrecorded_of a)
changes_of (moves.Ended r) = end_changes r
changes_of (moves.Drawn id) = put_of (items.Count id.namespace id.count) ∷ []
changes_of (moves.Fired r) = put_of (items.Done r) ∷ []

-- what is committed of items, the newest first, and of changes of the rows: first the changes, and then the moves in their order
abbrev pub commits_of : Trace → List TableChange → List Change
commits_of items changes = flat_map row_changes changes ++ flat_map changes_of (moved items)
