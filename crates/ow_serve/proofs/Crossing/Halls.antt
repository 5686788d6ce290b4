-- What may go from one thread to another: a hall, a desk, and receipts.
use denote.RattleType.{RattleType}
use denote.Param.Send.{IsSend, IsSync}
use Rattle.ow_value.proofs.Crossing.{values}
use Rattle.ow_serve.proofs.Crossing.Entries.{answer_send, entry_send}
use Rattle.ow_traits.specs.declared.keepers.Keeper as Keeper
use Rattle.ow_tenant.specs.contracts.tenants.Tenants as Tenants
use Rattle.ow_hall.below.ow_entity.specs.contracts.actions.Action as Action
use Rattle.ow_hall.below.ow_tables.specs.contracts.tables.Tables as Tables
use Rattle.ow_hall.below.ow_records.specs.contracts.record.Record as Record
use Rattle.ow_hall.below.ow_records.specs.contracts.records.Records as Records
use Rattle.ow_hall.below.ow_slots.specs.contracts.slots.Slots as Slots
use Rattle.ow_hall.below.ow_slots.specs.contracts.states.Slot as Slot
use Rattle.ow_hall.below.ow_records.specs.contracts.activations.Activation as Activation
use Rattle.ow_hall.below.ow_records.specs.contracts.frames.Frame as Frame
use Rattle.ow_floor.specs.contracts.undoable.Undoable as Undoable
use Rattle.ow_floor.specs.contracts.kept_frames.KeptFrames as KeptFrames
use Rattle.ow_floor.specs.contracts.kept_slots.KeptSlots as KeptSlots
use Rattle.ow_floor.specs.contracts.kept_slots.SlotStep as SlotStep
use Rattle.ow_floor.specs.contracts.lists.Marks as Marks
use Rattle.ow_floor.specs.contracts.lists.Lists as Lists
use Rattle.ow_floor.specs.contracts.floor.Floor as Floor
use Rattle.ow_hall.below.ow_counts.specs.contracts.counts.Counts as Counts
use Rattle.ow_hall.below.ow_commits.specs.contracts.keeping.Keeping as Keeping
use Rattle.ow_hall.specs.contracts.book.Book as Book
use Rattle.ow_hall.specs.contracts.state.HallState as HallState
use Rattle.ow_hall.specs.contracts.hall.Hall as Hall
use Rattle.ow_desk.specs.contracts.desk.Desk as Desk
use Rattle.ow_desk.specs.contracts.receipts.Receipts as Receipts

module _ (T : RattleType) (s : IsSend T) where
  undoable_send : IsSend (Undoable.the_field T).row
  undoable_send = search values depth 50 fits 20000

tenants_send : IsSend (Tenants.the_field).row
tenants_send = search values depth 50 fits 20000

action_send : IsSend (Action.the_field).row
action_send = search values depth 50 fits 20000

action_sync : IsSync (Action.the_field).row
action_sync = search values depth 50 fits 20000

tables_send : IsSend (Tables.the_field).row
tables_send = search (values, action_send, action_sync) depth 50 fits 20000

record_send : IsSend (Record.the_field).row
record_send = search values depth 50 fits 20000

record_sync : IsSync (Record.the_field).row
record_sync = search values depth 50 fits 20000

records_send : IsSend (Records.the_field).row
records_send = search (values, record_send, record_sync) depth 50 fits 20000

slots_send : IsSend (Slots.the_field).row
slots_send = search values depth 50 fits 20000

activation_send : IsSend (Activation.the_field).row
activation_send = search (values, action_send, action_sync) depth 50 fits 20000

activation_sync : IsSync (Activation.the_field).row
activation_sync = search (values, action_sync) depth 50 fits 20000

frame_send : IsSend (Frame.the_field).row
frame_send = search values depth 50 fits 20000

kept_frames_send : IsSend (KeptFrames.the_field).row
kept_frames_send = search (values, undoable_send, frame_send) depth 50 fits 20000

slot_send : IsSend (Slot.the_field).row
slot_send = search values depth 50 fits 20000

slot_step_send : IsSend (SlotStep.the_field).row
slot_step_send = search (values, slot_send, slots_send) depth 50 fits 20000

kept_slots_send : IsSend (KeptSlots.the_field).row
kept_slots_send = search (values, slot_step_send, slots_send) depth 50 fits 20000

marks_send : IsSend (Marks.the_field).row
marks_send = search values depth 50 fits 20000

lists_send : IsSend (Lists.the_field).row
lists_send = search (values, marks_send, undoable_send, activation_send, activation_sync, records_send, kept_frames_send, kept_slots_send) depth 50 fits 20000

floor_send : IsSend (Floor.the_field).row
floor_send = search (values, lists_send) depth 50 fits 20000

counts_send : IsSend (Counts.the_field).row
counts_send = search values depth 50 fits 20000

keeping_send : IsSend (Keeping.the_field).row
keeping_send = search values depth 50 fits 20000

book_send : IsSend (Book.the_field).row
book_send = search (values, entry_send) depth 50 fits 20000

state_send : IsSend (HallState.the_field).row
state_send = search (values, floor_send, tables_send, counts_send, keeping_send) depth 50 fits 20000

module _ (P : RattleType) (g : Keeper.Ghosts P.Denot) (s : IsSend P) where
  hall_send : IsSend (Hall.the_field P g).row
  hall_send = search (values, tenants_send, state_send, book_send, answer_send) depth 50 fits 20000

  pub desk_send : IsSend (Desk.the_field P g).row
  desk_send = search (values, hall_send) depth 50 fits 20000

  pub receipts_send : IsSend (Receipts.the_field P g).row
  receipts_send = search (values, entry_send) depth 50 fits 20000
