-- What may go from one thread to another: the entries of the book. A type is shown as a field of another.
use denote.Param.Send.{IsSend, IsSync}
use Rattle.ow_value.proofs.Crossing.{values}
use Rattle.ow_traits.specs.contracts.row_list.Rows as Rows
use Rattle.ow_hall.below.ow_entity.specs.contracts.actions.ActionDraft as ActionDraft
use Rattle.ow_hall.below.ow_entity.specs.contracts.packages.PackageDraft as PackageDraft
use Rattle.ow_hall.below.ow_entity.specs.contracts.rules.RuleDraft as RuleDraft
use Rattle.ow_hall.below.ow_entity.specs.contracts.triggers.TriggerDraft as TriggerDraft
use Rattle.ow_hall.below.ow_entity.specs.contracts.rows.Draft as Draft
use Rattle.ow_hall.below.ow_http.specs.contracts.request.Request as Request
use Rattle.ow_traits.specs.contracts.replies.RunReply as RunReply
use Rattle.ow_hall.below.ow_http.specs.contracts.answer.Answer as Answer
use Rattle.ow_hall.below.ow_http.specs.contracts.reason.Reason as Reason
use Rattle.ow_floor.specs.contracts.answers.Order as Order
use Rattle.ow_floor.specs.contracts.answers.Happened as Happened
use Rattle.ow_hall.below.ow_decide.specs.contracts.events.Event as Event
use Rattle.ow_hall.below.ow_decide.specs.contracts.events.Told as Told
use Rattle.ow_hall.specs.contracts.entry.Entry as Entry

pub rows_send : IsSend (Rows.the_field).row
rows_send = search values depth 50 fits 20000

pub request_send : IsSend (Request.the_field).row
request_send = search values depth 50 fits 20000

pub request_sync : IsSync (Request.the_field).row
request_sync = search values depth 50 fits 20000

pub run_reply_send : IsSend (RunReply.the_field).row
run_reply_send = search values depth 50 fits 20000

pub answer_send : IsSend (Answer.the_field).row
answer_send = search values depth 50 fits 20000

pub reason_send : IsSend (Reason.the_field).row
reason_send = search values depth 50 fits 20000

pub order_send : IsSend (Order.the_field).row
order_send = search values depth 50 fits 20000

pub happened_send : IsSend (Happened.the_field).row
happened_send = search values depth 50 fits 20000

action_draft_send : IsSend (ActionDraft.the_field).row
action_draft_send = search values depth 50 fits 20000

action_draft_sync : IsSync (ActionDraft.the_field).row
action_draft_sync = search values depth 50 fits 20000

package_draft_send : IsSend (PackageDraft.the_field).row
package_draft_send = search values depth 50 fits 20000

package_draft_sync : IsSync (PackageDraft.the_field).row
package_draft_sync = search values depth 50 fits 20000

rule_draft_send : IsSend (RuleDraft.the_field).row
rule_draft_send = search values depth 50 fits 20000

rule_draft_sync : IsSync (RuleDraft.the_field).row
rule_draft_sync = search values depth 50 fits 20000

trigger_draft_send : IsSend (TriggerDraft.the_field).row
trigger_draft_send = search values depth 50 fits 20000

trigger_draft_sync : IsSync (TriggerDraft.the_field).row
trigger_draft_sync = search values depth 50 fits 20000

draft_send : IsSend (Draft.the_field).row
draft_send = search (values, action_draft_send, package_draft_send, rule_draft_send, trigger_draft_send) depth 50 fits 20000

draft_sync : IsSync (Draft.the_field).row
draft_sync = search (values, action_draft_sync, package_draft_sync, rule_draft_sync, trigger_draft_sync) depth 50 fits 20000

pub event_send : IsSend (Event.the_field).row
event_send = search (values, rows_send, request_send, request_sync, run_reply_send, draft_send, draft_sync) depth 50 fits 20000

pub told_send : IsSend (Told.the_field).row
told_send = search (values, answer_send, reason_send, run_reply_send, order_send, happened_send) depth 50 fits 20000

pub entry_send : IsSend (Entry.the_field).row
entry_send = search (values, event_send, told_send) depth 50 fits 20000
