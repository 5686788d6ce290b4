-- What may go from one thread to another: what a thread is to do, and what it leaves.
use denote.RattleType.{RattleType}
use denote.Param.Send.{IsSend, IsSync, sendable}
use Rattle.std.proofs.Crossing.{crosses}
use Rattle.ow_links.specs.declared.links.Link as Link
use Rattle.ow_threads.specs.declared.clock.Clock as Clock
use Rattle.ow_traits.specs.declared.keepers.Keeper as Keeper
use Rattle.ow_traits.specs.declared.runners.Runner as Runner
use Rattle.ow_serve.specs.contracts.duty.Done as Done
use Rattle.ow_serve.specs.contracts.duty.Duty as Duty
use Rattle.ow_serve.specs.contracts.duty.Work as Work
use Rattle.ow_serve.specs.contracts.shared_state.SharedState as SharedState
use Rattle.ow_value.proofs.Crossing.{values}
use Rattle.ow_serve.proofs.Crossing.Halls.{desk_send, receipts_send}
use Rattle.ow_serve.proofs.Crossing.Boards.{board_send, board_sync, pass_send}
use Rattle.ow_serve.proofs.Crossing.Routes.{routes_send, routes_sync}
mod Entries
mod Halls
mod Boards
mod Routes

module _ (P B : RattleType) (p : Keeper.Ghosts P.Denot) (sp : IsSend P) (sb : IsSend B) where
  pub shared_state_send : IsSend (SharedState.the_row P B p)
  shared_state_send = search (sendable, crosses, desk_send, board_send, routes_send) depth 50 fits 20000

  pub shared_state_sync : IsSync (SharedState.the_row P B p)
  shared_state_sync = search (sendable, crosses, desk_send, board_sync, routes_sync) depth 50 fits 20000

module _ (R P B : RattleType) (p : Keeper.Ghosts P.Denot) (sr : IsSend R) (sp : IsSend P) where
  pub done_send : IsSend (Done.the_row R P B p)
  done_send = search (values, receipts_send) depth 50 fits 20000

module _ (H K R P C G B : RattleType) (k : Link.Ghosts K.Denot) (r : Runner.Ghosts R.Denot B.Denot) (p : Keeper.Ghosts P.Denot) (c : Clock.Ghosts C.Denot)
    (sh : IsSend H) (sk : IsSend K) (sr : IsSend R) (sp : IsSend P) (sb : IsSend B) (sc : IsSend C) (yc : IsSync C) (sg : IsSend G) (yg : IsSync G) where
  work_send : IsSend (Work.the_field K R).row
  work_send = search sendable depth 50 fits 20000

  pub duty_send : IsSend (Duty.the_row H K R P C G B k r p c)
  duty_send = search (sendable, crosses, work_send, pass_send, shared_state_send, shared_state_sync, receipts_send) depth 50 fits 20000
