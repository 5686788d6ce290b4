-- The outcome of an event, by its answer.
use Rattle.std.specs.Prelude.{Bool, true, false, Result, Ok, Err}
use Rattle.ow_traits.specs.declared.replies.RunReply.{RunReply}
use Rattle.ow_floor.specs.declared.answers.AnswerRefusal.{AnswerRefusal}
use Rattle.ow_floor.specs.declared.answers.AnswerRefusal.TheVariants.{NoMemory, StoreFault}
use Rattle.ow_decide.specs.declared.events.Told.{Told}
use Rattle.ow_hall.specs.Comes.{Answers, Fails, Outcome, Wants}
use Rattle.ow_hall.specs.declared.hall.Undone.{Undone}

abbrev pub undone : Bool → Outcome
undone true = Fails
undone false = Wants

-- the event is answered, or it is undone, for private clauses
abbrev pub outcome : Result Told Undone → Outcome
outcome (Ok t) = Answers t
outcome (Err u) = undone u.failed

-- the same where the answer is returned twice
abbrev pub outcome_twice : Result (Told × Told) Undone → Outcome
outcome_twice (Ok both) = Answers both.0
outcome_twice (Err u) = undone u.failed

-- why a runner's reply isn't taken
abbrev pub unanswered : RunReply → Bool → AnswerRefusal
unanswered reply true = StoreFault reply
unanswered reply false = NoMemory reply
