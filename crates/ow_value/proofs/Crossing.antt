-- What may go from one thread to another: texts, values, and what is shared by count.
use denote.RattleType.{RattleType}
use denote.Param.Send.{IsSend, IsSync, sendable}
use Rattle.std.proofs.Crossing.{crosses}
use Rattle.ow_value.specs.contracts.text.Str as Str
use Rattle.ow_value.specs.contracts.whole.Whole as Whole
use Rattle.ow_value.specs.contracts.val.Params as Params
use Rattle.ow_value.specs.contracts.val.Vals as Vals
use Rattle.ow_value.specs.contracts.shared.Shared as Shared
use Rattle.ow_value.specs.contracts.shared.Items as Items
use Rattle.ow_value.specs.contracts.listed.Listed as Listed
use Rattle.ow_value.proofs.val.Params.TheLaws.TheKnot.{both_send-Params, both_sync-Params, both_send-Vals, both_sync-Vals}

module _ (T : RattleType) (s : IsSend T) where
  pub listed_send : IsSend (Listed.the_row T)
  listed_send = search (sendable, crosses) depth 50 fits 20000

module _ (T : RattleType) (s : IsSend T) (y : IsSync T) where
  pub shared_send : IsSend (Shared.the_row T)
  shared_send = search (sendable, crosses) depth 50 fits 20000

  pub shared_sync : IsSync (Shared.the_row T)
  shared_sync = search (sendable, crosses) depth 50 fits 20000

  pub items_send : IsSend (Items.the_row T)
  items_send = search (sendable, crosses) depth 50 fits 20000

  pub items_sync : IsSync (Items.the_row T)
  items_sync = search (sendable, crosses) depth 50 fits 20000

pub str_send : IsSend Str.the_row
str_send = search (sendable, crosses) depth 50 fits 20000

pub str_sync : IsSync Str.the_row
str_sync = search (sendable, crosses) depth 50 fits 20000

pub whole_send : IsSend Whole.the_row
whole_send = search (sendable, crosses) depth 50 fits 20000

pub whole_sync : IsSync Whole.the_row
whole_sync = search (sendable, crosses) depth 50 fits 20000

-- A value holds lists and objects of values: the two are shown together.
pub params_send : IsSend Params.the_row
params_send = search (both_send-Params, sendable, crosses, whole_send, str_send, whole_sync, str_sync) depth 50 fits 20000

pub params_sync : IsSync Params.the_row
params_sync = search (both_sync-Params, sendable, crosses, whole_send, str_send, whole_sync, str_sync) depth 50 fits 20000

pub vals_send : IsSend Vals.the_row
vals_send = search (both_send-Vals, sendable, crosses, whole_send, str_send, whole_sync, str_sync) depth 50 fits 20000

pub vals_sync : IsSync Vals.the_row
vals_sync = search (both_sync-Vals, sendable, crosses, whole_send, str_send, whole_sync, str_sync) depth 50 fits 20000

pub ruleset values = (sendable, crosses, str_send, str_sync, params_send, params_sync, vals_send, vals_sync, listed_send, shared_send, shared_sync, items_send, items_sync)
