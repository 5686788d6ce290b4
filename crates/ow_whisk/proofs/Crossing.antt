-- A keeper over a file may go from one thread to another: each part of a database, from its smallest on.
use denote.RattleType.{RattleType}
use denote.Param.Send.{IsSend, sendable}
use Rattle.std.proofs.Crossing.{crosses}
use Rattle.sqlite.below.sqlite_items.specs.contracts.items.Items as Items
use Rattle.sqlite.below.sqlite_value.specs.contracts.value.Value as Value
use Rattle.sqlite.below.sqlite_value.specs.contracts.value.Bytes as Bytes
use Rattle.sqlite.below.sqlite_value.specs.contracts.keys.Order as Order
use Rattle.sqlite.below.sqlite_value.specs.contracts.row.Row as Row
use Rattle.sqlite.below.sqlite_schema.specs.contracts.code.Op as Op
use Rattle.sqlite.below.sqlite_schema.specs.contracts.code.Terms as Terms
use Rattle.sqlite.below.sqlite_schema.specs.contracts.plan.Scan as Scan
use Rattle.sqlite.below.sqlite_schema.specs.contracts.plan.Stage as Stage
use Rattle.sqlite.below.sqlite_schema.specs.contracts.plan.Groups as Groups
use Rattle.sqlite.below.sqlite_schema.specs.contracts.plan.Plan as Plan
use Rattle.sqlite.below.sqlite_schema.specs.contracts.program.Table as Let
use Rattle.sqlite.below.sqlite_schema.specs.contracts.program.Program as Program
use Rattle.sqlite.below.sqlite_schema.specs.contracts.command.Source as Source
use Rattle.sqlite.below.sqlite_schema.specs.contracts.command.Upsert as Upsert
use Rattle.sqlite.below.sqlite_schema.specs.contracts.command.Returning as Returning
use Rattle.sqlite.below.sqlite_schema.specs.contracts.command.Command as Command
use Rattle.sqlite.below.sqlite_schema.specs.contracts.schema.Column as Column
use Rattle.sqlite.below.sqlite_schema.specs.contracts.schema.Reference as Reference
use Rattle.sqlite.below.sqlite_schema.specs.contracts.schema.Stamps as Stamps
use Rattle.sqlite.below.sqlite_schema.specs.contracts.schema.Table as Table
use Rattle.sqlite.below.sqlite_schema.specs.contracts.schema.Index as Index
use Rattle.sqlite.below.sqlite_schema.specs.contracts.schema.View as View
use Rattle.sqlite.below.sqlite_schema.specs.contracts.schema.Schema as Schema
use Rattle.sqlite.below.sqlite_resolve.specs.contracts.compiled.Compiled as Compiled
use Rattle.sqlite.specs.contracts.cache.Entry as Entry
use Rattle.sqlite.specs.contracts.history.History as History
use Rattle.sqlite.specs.contracts.clock.WallClock as WallClock
use Rattle.sqlite.specs.contracts.run.reading.Reading as Reading
use Rattle.sqlite.specs.contracts.error.Error as Error
use Rattle.sqlite.below.sqlite_exec.specs.contracts.work.Workspace as Workspace
use Rattle.sqlite.specs.contracts.connection.Connection as Connection
use Rattle.sqlite.below.sqlite_trees.specs.declared.store.Store as Store
use Rattle.ow_sqlite.specs.contracts.sqlite_keeper.SqliteKeeper as SqliteKeeper
use Rattle.ow_sqlite.specs.contracts.file_keeper.FileKeeper as FileKeeper
use Rattle.sqlite.below.sqlite_disk.specs.declared.Disk as Disk
use Rattle.sqlite.below.sqlite_disk.specs.declared.calls.Calls as Calls
use Rattle.sqlite.below.sqlite_disk.specs.declared.start.Start as Start
use Rattle.sqlite.below.sqlite_disk.specs.contracts.modelled.Modelled as Modelled
use Rattle.sqlite.below.sqlite_std_file.specs.contracts.host.Host as Host
use Rattle.sqlite.below.sqlite_std_file.specs.contracts.record.Record as Record
use Rattle.sqlite.below.sqlite_wal.specs.contracts.index.PageIndex as PageIndex
use Rattle.sqlite.below.sqlite_wal.specs.contracts.batch.Batch as Pages
use Rattle.sqlite.below.sqlite_wal.specs.contracts.log.Log as Log
use Rattle.sqlite.below.sqlite_pager.specs.contracts.layers.Layer as Layer
use Rattle.sqlite.below.sqlite_pager.specs.contracts.cache.Cache as Cache
use Rattle.sqlite.below.sqlite_pager.specs.contracts.pager.Pager as Pager
use Rattle.sqlite.below.sqlite_pool.specs.contracts.backing.Backing as Backing
use Rattle.sqlite.below.sqlite_pool.specs.contracts.free_set.FreeSet as FreeSet
use Rattle.sqlite.below.sqlite_pool.specs.contracts.pool.Pool as Pool
use Rattle.sqlite.below.sqlite_btree.specs.contracts.batch.Batch as Cells
use Rattle.sqlite.below.sqlite_store.specs.contracts.catalog.Wanted as Wanted
use Rattle.sqlite.below.sqlite_store.specs.contracts.saved.Listed as Listed
use Rattle.sqlite.below.sqlite_store.specs.contracts.saved.Saved as Saved
use Rattle.sqlite.below.sqlite_store.specs.contracts.cursor.Cursor as Cursor
use Rattle.sqlite.below.sqlite_store.specs.contracts.store.FileStore as FileStore

module _ (T : RattleType) (s : IsSend T) where
  items_send : IsSend (Items.the_row T)
  items_send = search (sendable, crosses) depth 50 fits 20000

bytes_send : IsSend Bytes.the_row
bytes_send = search (sendable, crosses) depth 50 fits 20000

value_send : IsSend (Value.the_field).row
value_send = search (sendable, crosses, bytes_send) depth 50 fits 20000

order_send : IsSend (Order.the_field).row
order_send = search (sendable, crosses, items_send) depth 50 fits 20000

ruleset values = (sendable, crosses, items_send, bytes_send, value_send, order_send)

op_send : IsSend (Op.the_field).row
op_send = search values depth 50 fits 20000

terms_send : IsSend Terms.the_row
terms_send = search (values, op_send) depth 50 fits 20000

scan_send : IsSend (Scan.the_field).row
scan_send = search values depth 50 fits 20000

stage_send : IsSend (Stage.the_field).row
stage_send = search (values, scan_send) depth 50 fits 20000

groups_send : IsSend (Groups.the_field).row
groups_send = search values depth 50 fits 20000

plan_send : IsSend Plan.the_row
plan_send = search (values, op_send, stage_send, groups_send) depth 50 fits 20000

let_send : IsSend (Let.the_field).row
let_send = search (values, plan_send) depth 50 fits 20000

program_send : IsSend (Program.the_field).row
program_send = search (values, plan_send, let_send) depth 50 fits 20000

source_send : IsSend (Source.the_field).row
source_send = search (values, terms_send, program_send) depth 50 fits 20000

upsert_send : IsSend (Upsert.the_field).row
upsert_send = search (values, program_send) depth 50 fits 20000

returning_send : IsSend (Returning.the_field).row
returning_send = search (values, source_send) depth 50 fits 20000

command_send : IsSend (Command.the_field).row
command_send = search (values, program_send, source_send, upsert_send) depth 50 fits 20000

column_send : IsSend (Column.the_field).row
column_send = search values depth 50 fits 20000

reference_send : IsSend (Reference.the_field).row
reference_send = search values depth 50 fits 20000

stamps_send : IsSend (Stamps.the_field).row
stamps_send = search (values, terms_send) depth 50 fits 20000

table_send : IsSend (Table.the_field).row
table_send = search (values, terms_send, column_send, reference_send, stamps_send) depth 50 fits 20000

index_send : IsSend (Index.the_field).row
index_send = search values depth 50 fits 20000

view_send : IsSend (View.the_field).row
view_send = search values depth 50 fits 20000

schema_send : IsSend (Schema.the_field).row
schema_send = search (values, table_send, index_send, view_send) depth 50 fits 20000

compiled_send : IsSend (Compiled.the_field).row
compiled_send = search (values, command_send, returning_send) depth 50 fits 20000

entry_send : IsSend (Entry.the_field).row
entry_send = search (values, compiled_send) depth 50 fits 20000

row_send : IsSend Row.the_row
row_send = search values depth 50 fits 20000

page_index_send : IsSend PageIndex.the_row
page_index_send = search values depth 50 fits 20000

pages_send : IsSend Pages.the_row
pages_send = search (values, page_index_send) depth 50 fits 20000

layer_send : IsSend (Layer.the_field).row
layer_send = search (values, pages_send) depth 50 fits 20000

cache_send : IsSend Cache.the_row
cache_send = search values depth 50 fits 20000

free_set_send : IsSend FreeSet.the_row
free_set_send = search values depth 50 fits 20000

cells_send : IsSend Cells.the_row
cells_send = search values depth 50 fits 20000

wanted_send : IsSend (Wanted.the_field).row
wanted_send = search (values, row_send) depth 50 fits 20000

listed_send : IsSend (Listed.the_field).row
listed_send = search (values, wanted_send) depth 50 fits 20000

saved_send : IsSend (Saved.the_field).row
saved_send = search (values, wanted_send, listed_send) depth 50 fits 20000

cursor_send : IsSend (Cursor.the_field).row
cursor_send = search (values, cells_send) depth 50 fits 20000

record_send : IsSend Record.the_row
record_send = search values depth 50 fits 20000

host_send : IsSend (Host.the_field).row
host_send = search (values, record_send) depth 50 fits 20000

module _ (D : RattleType) (d : Disk.Ghosts D.Denot) (s : IsSend D) where
  log_send : IsSend (Log.the_row D d)
  log_send = search (values, page_index_send) depth 50 fits 20000

  pager_send : IsSend (Pager.the_row D d)
  pager_send = search (values, log_send, pages_send, layer_send, cache_send) depth 50 fits 20000

  backing_send : IsSend (Backing.the_row D d)
  backing_send = search (values, pager_send) depth 50 fits 20000

  pool_send : IsSend (Pool.the_row D d)
  pool_send = search (values, backing_send, free_set_send) depth 50 fits 20000

  store_send : IsSend (FileStore.the_row D d)
  store_send = search (values, pool_send, wanted_send, saved_send, cursor_send) depth 50 fits 20000

clock_send : IsSend (WallClock.the_field).row
clock_send = search values depth 50 fits 20000

error_send : IsSend (Error.the_field).row
error_send = search values depth 50 fits 20000

history_send : IsSend (History.the_field).row
history_send = search (values, schema_send) depth 50 fits 20000

reading_send : IsSend (Reading.the_field).row
reading_send = search (values, row_send) depth 50 fits 20000

workspace_send : IsSend (Workspace.the_field).row
workspace_send = search (values, row_send) depth 50 fits 20000

module _ (S : RattleType) (a : Store.Ghosts S.Denot) (s : IsSend S) where
  connection_send : IsSend (Connection.the_row S a)
  connection_send = search (values, schema_send, history_send, entry_send, row_send, clock_send, reading_send, workspace_send) depth 50 fits 20000

  sqlite_keeper_send : IsSend (SqliteKeeper.the_field S a).row
  sqlite_keeper_send = search (values, connection_send, error_send) depth 50 fits 20000

module _ (C T : RattleType) (c : Calls.Ghosts C.Denot) (t : Start.Ghosts T.Denot) (s : IsSend C) where
  modelled_send : IsSend (Modelled.the_row C T c t)
  modelled_send = search values depth 50 fits 20000

pub file_keeper_send : IsSend (FileKeeper.the_field).row
file_keeper_send = search (values, sqlite_keeper_send, store_send, modelled_send, host_send) depth 50 fits 20000
