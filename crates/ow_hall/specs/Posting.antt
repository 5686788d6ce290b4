-- How an answer is posted: booked, tallied, or neither.
use Rattle.std.specs.Prelude.{Bool, true, false, if◌then◌else◌}
use Rattle.ow_floor.specs.declared.answers.Order.TheVariants as orders
use Rattle.ow_decide.specs.declared.events.Told.{Told}
use Rattle.ow_decide.specs.declared.events.Told.TheVariants as told
use Rattle.ow_hall.specs.declared.posting.Posting.{Posting}
use Rattle.ow_hall.specs.declared.posting.Posting.TheVariants.{Booked, Quiet, Denied, Unbooked}
use Rattle.ow_decide.specs.declared.replies.Called.{Called}
use Rattle.ow_decide.specs.declared.replies.Called.TheVariants as called
use Rattle.ow_decide.specs.declared.replies.Deployed.{Deployed}
use Rattle.ow_decide.specs.declared.replies.Deployed.TheVariants as deployments
use Rattle.ow_decide.specs.declared.replies.Fired.{Fired}
use Rattle.ow_decide.specs.declared.replies.Fired.TheVariants as fires
use Rattle.ow_decide.specs.declared.replies.HallCollected.{HallCollected}
use Rattle.ow_decide.specs.declared.replies.HallCollected.TheVariants as collected
use Rattle.ow_decide.specs.Reasons.{tells_full}

-- nothing is to run
abbrev pub is_idle_answer : Told → Bool
is_idle_answer (told.Next (orders.Nothing reason)) = true
is_idle_answer t = false

-- a call that the full book refuses is neither booked nor tallied
abbrev pub call_posting : Called → Posting
call_posting (called.Refused reason) = if tells_full reason then Unbooked else Booked
call_posting (called.Happened happened) = Booked

-- nor is a fire of the office
abbrev pub fired_posting : Fired → Posting
fired_posting (fires.Refused reason) = if tells_full reason then Unbooked else Booked
fired_posting other = Booked

-- nor is a deployment
abbrev pub deployed_posting : Deployed → Posting
deployed_posting (deployments.Refused place reason) = if tells_full reason then Unbooked else Booked
deployed_posting (deployments.Done made changed same) = Booked

-- an activation that isn't answered yet, or that nobody may collect, leaves nothing
abbrev pub collected_posting : HallCollected → Posting
collected_posting (collected.Reply answer) = Booked
collected_posting other = Unbooked

-- how an answer is posted after an entry that ordered nothing, or after another. What isn't booked: a `next` that orders nothing after
-- one that did; a runner's reply to a run that isn't live; a beginning, a loss or a going that is refused; an answer that the book is
-- full; the answer to the collection of an activation that isn't answered yet
abbrev pub posting_by : Bool → Told → Posting
posting_by idle (told.Next (orders.Nothing reason)) = if idle then Quiet else Booked
posting_by idle (told.NoRun run reply) = Denied
posting_by idle (told.Refused refusal) = Denied
posting_by idle (told.Full answer) = Unbooked
posting_by idle (told.Called c) = call_posting c
posting_by idle (told.Fired f) = fired_posting f
posting_by idle (told.Deployed d) = deployed_posting d
posting_by idle (told.Collected c) = collected_posting c
posting_by idle t = Booked
