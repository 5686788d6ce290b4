-- What may go from one thread to another: the board, and a pass of it.
use denote.RattleType.{RattleType}
use denote.Builtin.{u64, unit}
use denote.Struct.Declared.{Declared, field, shape}
use denote.Param.Send.{IsSend, IsSync, struct_send, struct_sync, sendable}
use Rattle.std.specs.contracts.option.Option as Option
use Rattle.std.proofs.Crossing.{frees, send}
use Rattle.std.specs.contracts.alloc.Global as Global
use Rattle.std.specs.contracts.impls.GlobalAllocator.TheImpl as heap
use Rattle.ow_board.below.atomic_table.proofs.shared.Shared.TheSendSync as shared
use Rattle.ow_board.below.atomic_table.proofs.shared.Seat.TheSendSync as seat
use Rattle.ow_board.below.atomic_table.proofs.send_lease.SendLease.TheSendSync as lease
use Rattle.ow_board.below.atomic_table.specs.contracts.shared.Seat as Seat
use Rattle.ow_board.below.atomic_table.specs.contracts.owned.Table as Table
use Rattle.ow_board.specs.contracts.view.View as View
use Rattle.ow_board.specs.contracts.rule.BoardRule as BoardRule
use Rattle.ow_board.specs.contracts.rule.BoardRuleTableRuleOptionViewUnit.TheImpl as rule
use Rattle.ow_board.specs.contracts.shared.Board as Board

module _ (B : RattleType) (s : IsSend B) where
  abbrev slot : RattleType
  slot = Option.the_row B

  slot_send : IsSend slot
  slot_send = search sendable depth 20

  abbrev table : Declared
  table = Table.the_type slot View.the_row unit BoardRule.the_row Global.the_row (rule.ghosts B) heap.ghosts

  table_send : IsSend (field table).row
  table_send = struct_send (shape table) (
    shared.the_send slot View.the_row unit BoardRule.the_row (rule.ghosts B) slot_send,
    (
      search sendable,
      (
        search sendable,
        (lease.the_send u64 Global.the_row heap.ghosts send frees, (lease.the_send slot Global.the_row heap.ghosts send frees, (search sendable depth 20, tt))),
      ),
    ),
  )

  table_sync : IsSync (field table).row
  table_sync = struct_sync (shape table) (
    shared.the_sync slot View.the_row unit BoardRule.the_row (rule.ghosts B) slot_send,
    (
      search sendable,
      (
        search sendable,
        (lease.the_sync u64 Global.the_row heap.ghosts send frees, (lease.the_sync slot Global.the_row heap.ghosts send frees, (search sendable depth 20, tt))),
      ),
    ),
  )

  pub pass_send : IsSend (Seat.the_field slot View.the_row).row
  pass_send = seat.the_send slot View.the_row slot_send

  pub board_send : IsSend (Board.the_field B).row
  board_send = search (sendable, table_send) depth 20

  pub board_sync : IsSync (Board.the_field B).row
  board_sync = search (sendable, table_sync) depth 20
