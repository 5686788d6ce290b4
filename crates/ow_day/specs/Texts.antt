-- The lines that answer statements.
use Rattle.std.specs.Prelude.{◌++◌, ℕ, List, [], ◌∷◌, codes, length}
use Rattle.std.specs.Fmt.{decimal}
use Rattle.ow_traits.specs.declared.replies.Kind.{Kind}
use Rattle.ow_traits.specs.declared.replies.Kind.TheVariants.{Plain, Program}
use Rattle.ow_slots.specs.declared.keys.Start.{Start}
use Rattle.ow_slots.specs.declared.keys.Start.TheVariants.{Warm, Prewarmed, Cold}
use Rattle.ow_records.specs.Id.{id_text}
use Rattle.ow_floor.specs.declared.answers.Container.{Container}
use Rattle.ow_floor.specs.declared.answers.PrewarmOrder.{PrewarmOrder}
use Rattle.ow_floor.specs.declared.answers.RunOrder.{RunOrder}
use Rattle.ow_floor.specs.declared.answers.Order.{Order}
use Rattle.ow_floor.specs.declared.answers.Order.TheVariants.{Run, Prewarm, Remove, Nothing}
use Rattle.ow_floor.specs.declared.answers.Idle.{Idle}
use Rattle.ow_floor.specs.declared.answers.Idle.TheVariants.{Empty, NoRoom}
use Rattle.ow_floor.specs.declared.answers.FloorRefusal.{FloorRefusal}
use Rattle.ow_floor.specs.declared.answers.FloorRefusal.TheVariants as refusals
use Rattle.ow_floor.specs.declared.answers.Swept.{Swept}
use Rattle.ow_floor.specs.declared.answers.Happening.{Happening}
use Rattle.ow_floor.specs.declared.answers.Happening.TheVariants.{Accepted, Recorded}
use Rattle.ow_floor.specs.declared.answers.Answered.{Answered}
use Rattle.ow_floor.specs.declared.answers.Answered.TheVariants as answers
use Rattle.ow_floor.specs.declared.answers.Drain.{Drain}
use Rattle.ow_floor.specs.declared.answers.Drain.TheVariants.{Drained, StillOpen}
use Rattle.ow_http.specs.Number.{number_of}
use Rattle.ow_http.specs.Reason.{text_of}
use Rattle.ow_http.specs.Reply.{reply_bytes}
use Rattle.ow_http.specs.declared.answer.Answer.{Answer}
use Rattle.ow_http.specs.declared.reason.Reason.{Reason}
use Rattle.ow_decide.specs.declared.replies.Reply.{Reply}
use Rattle.ow_decide.specs.declared.replies.Reply.TheVariants.{Now, Waiting}
use Rattle.ow_decide.specs.declared.replies.Called.{Called}
use Rattle.ow_decide.specs.declared.replies.Called.TheVariants.{Happened, Refused}
use Rattle.ow_decide.specs.declared.replies.HallCollected.{HallCollected}
use Rattle.ow_decide.specs.declared.replies.HallCollected.TheVariants as collected
use Rattle.ow_invoker.specs.declared.turn.TurnStep.{TurnStep}
use Rattle.ow_invoker.specs.declared.turn.TurnStep.TheVariants as steps
use Rattle.ow_invoker.specs.declared.turn.Turned.{Turned}
use Rattle.ow_day.specs.declared.statement_outcome.StatementOutcome.{StatementOutcome}
use Rattle.ow_day.specs.declared.statement_outcome.StatementOutcome.TheVariants as outcomes

-- one line for each thing that happened
abbrev pub happening_text : Happening → List ℕ
happening_text (Accepted id) = codes "accepted " ++ (id_text id ++ codes "\n")
happening_text (Recorded id code) = codes "recorded " ++ (id_text id ++ (codes " " ++ (decimal code ++ codes "\n")))

abbrev pub happenings_text : List Happening → List ℕ
happenings_text [] = []
happenings_text (h ∷ hs) = happening_text h ++ happenings_text hs

-- where a container is
abbrev pub place_text : ℕ → ℕ → List ℕ
place_text slot generation = codes " slot " ++ (decimal slot ++ (codes " gen " ++ decimal generation))

-- from which container a run starts
abbrev pub start_text : Start → List ℕ
start_text Warm = codes " warm\n"
start_text Prewarmed = codes " prewarmed\n"
start_text Cold = codes " cold\n"

abbrev pub run_text : RunOrder → List ℕ
run_text order = codes "run " ++ (decimal order.run ++ (codes " " ++ (id_text order.id ++ (place_text order.slot order.generation ++ start_text order.start))))

-- the runner that a container is for
abbrev pub kind_text : Kind → List ℕ
kind_text Plain = codes " plain:1"
kind_text Program = codes " program:1"

abbrev pub prewarm_text : PrewarmOrder → List ℕ
prewarm_text order = codes "prewarm " ++ (decimal order.run ++ (place_text order.slot order.generation ++ (kind_text order.kind ++ (codes " " ++ (decimal order.memory ++ codes "\n")))))

abbrev pub container_text : Container → List ℕ
container_text c = codes " " ++ (decimal c.slot ++ (codes ":" ++ decimal c.generation))

abbrev pub containers_text : List Container → List ℕ
containers_text [] = []
containers_text (c ∷ cs) = container_text c ++ containers_text cs

-- why nothing is to be done
abbrev pub idle_text : Idle → List ℕ
idle_text Empty = codes "nothing empty\n"
idle_text NoRoom = codes "nothing no room\n"

-- what is to be done
abbrev pub order_text : Order → List ℕ
order_text (Run order) = run_text order
order_text (Prewarm order) = prewarm_text order
order_text (Remove containers) = codes "remove" ++ (containers_text containers ++ codes "\n")
order_text (Nothing idle) = idle_text idle

-- a refusal
abbrev pub refused_text : Reason → List ℕ
refused_text reason = codes "refused " ++ (decimal (number_of reason) ++ (codes " " ++ (text_of reason ++ codes "\n")))

-- a runner's reply to a number that no live run has
abbrev pub no_run_text : ℕ → List ℕ
no_run_text run = codes "refused 29 No run " ++ (decimal run ++ codes ".\n")

abbrev pub not_found_text : List ℕ
not_found_text = codes "refused 14 The resource does not exist.\n"

-- why the report on a container isn't accepted
abbrev pub denied_text : FloorRefusal → List ℕ
denied_text (refusals.NoRun run) = no_run_text run
denied_text (refusals.NoSlot slot kept) = codes "refused 28 No slot " ++ (decimal slot ++ (codes " of that generation: " ++ (decimal kept ++ codes " kept.\n")))
denied_text refusals.NotFound = not_found_text

-- what a sweep did
abbrev pub swept_text : Swept → List ℕ
swept_text swept = happenings_text swept.happened ++ (codes "swept " ++ (decimal swept.late ++ codes "\n"))

-- what a run carried had ended before, at this moment
abbrev pub late_text : ℕ → ℕ → List ℕ
late_text run at = codes "late " ++ (decimal run ++ (codes " " ++ (decimal at ++ codes "\n")))

-- what became of a runner's reply
abbrev pub answered_text : Answered → List ℕ
answered_text (answers.Recorded happened) = happenings_text happened
answered_text (answers.Late run at) = late_text run at

-- whether all have ended
abbrev pub drain_text : Drain → List ℕ
drain_text (Drained n) = codes "drained " ++ (decimal n ++ codes "\n")
drain_text (StillOpen n) = codes "open " ++ (decimal n ++ codes "\n")

-- what a reopening did
abbrev pub reopened_text : List Happening → List ℕ
reopened_text happened = happenings_text happened ++ codes "reopened\n"

-- what became of a call
abbrev pub called_text : Called → List ℕ
called_text (Happened happened) = happenings_text happened
called_text (Refused reason) = refused_text reason

-- the bytes of a reply, with how many they are
abbrev pub reply_text : Answer → List ℕ
reply_text answer = codes "reply " ++ (decimal (length (reply_bytes answer)) ++ (codes "\n" ++ (reply_bytes answer ++ codes "\n")))

-- the answer to a request, or the id for which it waits
abbrev pub asked_text : Reply → List ℕ
asked_text (Now answer) = reply_text answer
asked_text (Waiting id until) = codes "waiting " ++ (id_text id ++ codes "\n")

-- what is answered of an activation that is collected
abbrev pub collected_text : HallCollected → List ℕ
collected_text (collected.Reply answer) = reply_text answer
collected_text collected.NotYet = codes "not yet\n"
collected_text collected.Unknown = not_found_text

-- one line for each thing that a turn reports after its order
abbrev pub step_text : TurnStep → List ℕ
step_text (steps.Lost run) = codes "lost " ++ (decimal run ++ codes "\n")
step_text (steps.Gone slot generation) = codes "gone " ++ (decimal slot ++ (codes " " ++ (decimal generation ++ codes "\n")))
step_text (steps.Happened happened) = happenings_text happened
step_text steps.StoreFault = codes "store fault\n"

abbrev pub steps_text : List TurnStep → List ℕ
steps_text [] = []
steps_text (step ∷ rest) = step_text step ++ steps_text rest

-- what was to run in a turn, and the outcome
abbrev pub turned_text : Turned → List ℕ
turned_text turned = order_text turned.order ++ steps_text turned.steps

-- the lines of the outcome of a statement
abbrev pub lines_of : StatementOutcome → List ℕ
lines_of outcomes.Silent = []
lines_of (outcomes.Refused reason) = refused_text reason
lines_of (outcomes.Asked reply) = asked_text reply
lines_of (outcomes.Called called) = called_text called
lines_of (outcomes.Ordered order) = order_text order
lines_of (outcomes.Answered answered) = answered_text answered
lines_of (outcomes.NoRun run) = no_run_text run
lines_of outcomes.Taken = codes "ok\n"
lines_of (outcomes.Denied refusal) = denied_text refusal
lines_of (outcomes.Swept swept) = swept_text swept
lines_of (outcomes.Collected collected) = collected_text collected
lines_of (outcomes.Turned turned) = turned_text turned
lines_of (outcomes.Drained drain) = drain_text drain
lines_of (outcomes.Reopened happened) = reopened_text happened
lines_of outcomes.StoreFault = codes "store fault\n"
