-- What is done at an event: the answer, which items are added on the floor, how the rows change, who waits then, and what becomes of the
-- archive and of the notes.
use Rattle.std.specs.Prelude.{ℕ, ◌++◌, List, [], ◌∷◌, drop}
use Rattle.std.specs.List.{flat_map}
use Rattle.ow_entity.specs.declared.rows.Row.{Row}
use Rattle.ow_records.specs.Unrecorded.{unrecorded_of}
use Rattle.ow_records.specs.declared.record.Record.{Record}
use Rattle.ow_traits.specs.declared.change_list.Change.{Change as StoreChange}
use Rattle.ow_floor.specs.Trace.{Accepted, Drawn, Ended, Fired, Item, Trace, record_of}
use Rattle.ow_row_text.specs.declared.item.Archive.{Archive}
use Rattle.ow_row_text.specs.declared.item.Item.TheVariants as items
use Rattle.ow_row_text.specs.declared.item.Note.{Note}
use Rattle.ow_commits.specs.Archiving.{archive_changes, others_with}
use Rattle.ow_commits.specs.Commits.{accept_changes, end_changes, put_of, row_changes}
use Rattle.ow_commits.specs.Kept.{OthersView}
use Rattle.ow_commits.specs.Noting.{noting}
use Rattle.ow_tables.specs.Contents.{Change}
use Rattle.ow_tables.specs.Rows.{changed}
use Rattle.ow_decide.specs.declared.events.Told.{Told}
use Rattle.ow_decide.specs.declared.waits.Waits.{Waits}
use Rattle.ow_decide.specs.declared.waits.Waits.TheVariants.{Keep}

-- what becomes of the archive and of the notes: they stay; these records, whose end is at most a moment, are archived, over what was
-- archived before; a note is kept, in place of one with its key; or those of kept rows are taken over
pub data OtherChange : Type 0 where
  Same : OtherChange
  Archives : (until : ℕ) (before : Archive) (due : List Record) → OtherChange
  KeepsNote : (note : Note) → OtherChange
  TakesOver : (others : OthersView) → OtherChange

-- the newest item comes first; of the changes, the one that is made first
pub record Decision : Type 0 where
  pub told : Told
  pub items : Trace
  pub changes : List Change
  pub waits : Waits
  pub others : OtherChange

-- there is an answer, and nothing changes
abbrev pub tells : Told → Decision
tells t = record { told = t; items = []; changes = []; waits = Keep; others = Same }

-- there is an answer, and these items happen on the floor
abbrev pub adds : Told → Trace → Decision
adds t items = record { told = t; items = items; changes = []; waits = Keep; others = Same }

-- the archive and the notes after it
abbrev pub others_after : OtherChange → OthersView → OthersView
others_after Same o = o
others_after (Archives until before due) o = others_with o due
others_after (KeepsNote note) o = noting note o
others_after (TakesOver taken) o = taken

-- an archive is the newest item. It comes once all else is done and committed, so what is done before it is all but that item
abbrev pub held_by : OtherChange → Trace → Trace
held_by (Archives until before due) items = drop 1 items
held_by change items = items

abbrev pub held : Decision → Trace
held d = held_by d.others d.items

-- the rows after these changes, of which the first is made first
abbrev pub all_changed : List Change → List Row → List Row
all_changed [] rs = rs
all_changed (c ∷ cs) rs = all_changed cs (changed c rs)

-- ---- what is committed to the store

-- what an item changes in what is kept
abbrev pub item_changes : Item → List StoreChange
item_changes (Accepted a) = accept_changes (unrecorded_of a)
item_changes (Ended e) = end_changes (record_of e)
item_changes (Drawn id at) = put_of (items.Count id.namespace id.count) ∷ []
item_changes (Fired r) = put_of (items.Done r) ∷ []
item_changes item = []

-- what items change in it, the earliest first
abbrev pub items_changes : Trace → List StoreChange
items_changes [] = []
items_changes (item ∷ items) = items_changes items ++ item_changes item

-- with what an archive changes, or with a note, after it
abbrev pub with_others : OtherChange → List StoreChange → List StoreChange
with_others (Archives until before due) cs = cs ++ archive_changes before due
with_others (KeepsNote note) cs = cs ++ put_of (items.Note note) ∷ []
with_others change cs = cs

-- what a decision changes in it: first by the rows, then by its items, and last by an archive or by a note
abbrev pub commits : Decision → List StoreChange
commits d = with_others d.others (flat_map row_changes d.changes ++ items_changes d.items)
