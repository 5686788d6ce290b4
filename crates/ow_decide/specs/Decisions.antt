-- What the service does at an event, by what is seen: one case for each kind of event.
use Rattle.std.specs.Prelude.{ℕ, ◌*◌, ◌-◌, ◌++◌, List, [], ◌∷◌, Bool, true, false, nat_le, if◌then◌else◌, Option, Some, None, Result, Ok, Err}
use Rattle.ow_traits.specs.declared.replies.RunReply.{RunReply}
use Rattle.ow_keep.specs.Judged.{judged}
use Rattle.ow_floor.specs.Trace.{Drained, Trace}
use Rattle.ow_records.specs.declared.record.Record.{Record}
use Rattle.ow_floor.specs.Calls.{abandon_items, abandoned_ends, answer_of, answered_items, archive_items, begun_answer, begun_items, drain_answer, due_in, gone_answer, gone_items, happened, lost_answer, lost_items, next_items, next_order, reply_recorded}
use Rattle.ow_floor.specs.Collecting.{collected}
use Rattle.ow_floor.specs.declared.answers.Answered.{Answered}
use Rattle.ow_floor.specs.declared.answers.FloorRefusal.{FloorRefusal}
use Rattle.ow_floor.specs.declared.answers.Swept.{Swept}
use Rattle.ow_tables.specs.Rows.{standing}
use Rattle.ow_trees.specs.Steps.{late_in, steps_after, sweep_items}
use Rattle.ow_http.specs.Request.{parts_of}
use Rattle.ow_decide.specs.declared.events.Event.{Event}
use Rattle.ow_decide.specs.declared.events.Event.TheVariants as events
use Rattle.ow_decide.specs.declared.events.Told.{Told}
use Rattle.ow_decide.specs.declared.events.Told.TheVariants as told
use Rattle.ow_decide.specs.Sight.{Sight}
use Rattle.ow_decide.specs.Decision.{Archives, Decision, Same, adds, tells}
use Rattle.ow_decide.specs.declared.waits.Waits.TheVariants.{Clear, Keep}
use Rattle.ow_decide.specs.Asking.{ask_decision, request_done}
use Rattle.ow_decide.specs.Opening.{opened_decision, parts_taken}
use Rattle.ow_decide.specs.Calling.{call_decision, call_plan}
use Rattle.ow_decide.specs.Deploying.{deploy_decision, deployed}
use Rattle.ow_decide.specs.OfficeFiring.{office_decision, office_shot}
use Rattle.ow_decide.specs.Waiting.{collected_told, shows_for}

-- the answer to a runner's reply: a reply that no live run makes is handed back
abbrev pub reply_told : ℕ → RunReply → Option Answered → Told
reply_told run reply None = told.NoRun run reply
reply_told run reply (Some answered) = told.Answered answered

-- what a runner's reply adds: what the run carries ends, and then the steps that its end makes
abbrev pub answered_all : Sight → ℕ → RunReply → Trace
answered_all S run reply = steps_after (standing S.rows) S.moment S.trace (answered_items S.moment run reply S.trace)

-- a reply that comes after a sweep ended what the run carries is late; the answer to any other says what happened
abbrev pub answered_told : Sight → ℕ → RunReply → Told
answered_told S run reply = reply_told run reply (answer_of run (reply_recorded run S.trace) (happened (answered_all S run reply)))

-- the answer to a beginning, a loss or a going: it was accepted, or why not
abbrev pub taken_told : Result (Unit {0}) FloorRefusal → Told
taken_told (Ok done) = told.Done
taken_told (Err refusal) = told.Refused refusal

-- what a sweep adds: what each late run carries ends, followed by the steps that its end makes
abbrev pub swept_all : Sight → Trace
swept_all S = sweep_items (standing S.rows) S.moment S.trace

-- the answer to a sweep with these items: what happened, and how many late runs there were
abbrev pub swept_told : Trace → Swept
swept_told items = record { happened = happened items; late = late_in items }

-- up to which moment records are archived at this one: they are retained for these days after their ends, where the office table says so
unfoldable pub archived_until : Option ℕ → ℕ → Option ℕ
archived_until None at = None
archived_until (Some days) at = if nat_le (days * 86400000) at then Some (at - days * 86400000) else None

-- a sweep with these items, and with these records archived after them. Where none is due, nothing is archived
abbrev pub sweep_with : Sight → Told → Trace → ℕ → List Record → Decision
sweep_with S t items until [] = adds t items
sweep_with S t items until (r ∷ rs) = record {
  told = t;
  items = archive_items until (items ++ S.trace) ++ items;
  changes = [];
  waits = Keep;
  others = Archives until S.others.archive (r ∷ rs);
}

-- the same with the records whose end is at most this moment
abbrev pub sweep_by : Sight → Told → Trace → Option ℕ → Decision
sweep_by S t items None = adds t items
sweep_by S t items (Some until) = sweep_with S t items until (due_in until (items ++ S.trace))

-- what is done at a sweep: late runs end, and then the records that are due are archived
abbrev pub sweep_decision : Sight → Decision
sweep_decision S = sweep_by S (told.Swept (swept_told (swept_all S))) (swept_all S) (archived_until S.tenants.retain S.moment)

-- the service is opened
abbrev pub is_opening : Event → Bool
is_opening (events.Opened rows) = true
is_opening event = false

-- what is done at a reopening: all that has not ended is recorded as abandoned, and nobody waits any more
abbrev pub reopened_decision : ℕ → Trace → Decision
reopened_decision at T = record { told = told.Reopened (happened (abandoned_ends at T)); items = abandon_items at T; changes = []; waits = Clear; others = Same }

-- a beginning, a loss and a going take no memory
abbrev pub wants_memory : Event → Bool
wants_memory (events.Begun run) = false
wants_memory (events.Lost run) = false
wants_memory (events.Gone slot generation) = false
wants_memory event = true

abbrev pub decide : Sight → Event → Decision
decide S (events.Opened rows) = opened_decision S.moment (parts_taken S.moment S.trace (judged rows))
decide S (events.Asked r) = ask_decision (request_done S (parts_of r))
decide S (events.Called name params) = call_decision S (call_plan S name params)
decide S (events.Fired trigger params note) = office_decision S.others note (office_shot S trigger params note)
decide S (events.Deployed drafts) = deploy_decision (deployed S drafts)
decide S events.Next = adds (told.Next (next_order S.trace)) (next_items S.moment S.trace)
decide S (events.Answered run reply) = adds (answered_told S run reply) (answered_all S run reply)
decide S (events.Begun run) = adds (taken_told (begun_answer run S.trace)) (begun_items S.moment run S.trace)
decide S (events.Lost run) = adds (taken_told (lost_answer run S.trace)) (lost_items S.moment run S.trace)
decide S (events.Gone slot generation) = adds (taken_told (gone_answer slot generation S.trace)) (gone_items S.moment slot generation S.trace)
decide S events.Sweep = sweep_decision S
decide S (events.Collected id) = tells (told.Collected (collected_told id (shows_for S.waits id) (collected S.moment id S.trace)))
decide S events.Drain = adds (told.Drain (drain_answer S.trace)) (Drained S.moment ∷ [])
decide S events.Reopened = reopened_decision S.moment S.trace
