-- How the hall answers a request, by what the receipts hold of it.
use Rattle.std.specs.Prelude.{◌≡◌, ◌⊎◌, ℕ, Option, Result, Ok, Err}
use Rattle.ow_value.specs.declared.memory.NoMemory.{NoMemory as Want}
use Rattle.ow_http.specs.declared.answer.Answer.{Answer}
use Rattle.ow_http.specs.declared.request.Request.{Request}
use Rattle.ow_records.specs.declared.ids.Id.{Id}
use Rattle.ow_decide.specs.declared.events.Event.TheVariants as events
use Rattle.ow_decide.specs.declared.events.Told.TheVariants as told
use Rattle.ow_decide.specs.declared.replies.HallCollected.TheVariants as collected
use Rattle.ow_decide.specs.declared.replies.Reply.{Reply}
use Rattle.ow_decide.specs.declared.replies.Reply.TheVariants as replies
use Rattle.ow_hall.specs.Comes.{Answers, Outcome, Replies}
use Rattle.ow_desk.specs.Notes.{CalledBy, Notes}

-- all calls are at the clock's moment, where it reports one
module _ (tells : Option ℕ) where
  -- a request: its entry, or the mark that the book is full or that the store failed
  abbrev pub AsksFor : Request → Result Reply Want → Notes → Notes → Type 0
  AsksFor request result n m = (o : Outcome) × Replies result o × CalledBy tells (events.Asked request) o n m

  -- an activation that is collected up to its answer: one entry. What isn't answered yet leaves nothing
  abbrev pub Collects : Id → Notes → Notes → Result Answer Want → Type 0
  Collects id n m (Ok answer) = CalledBy tells (events.Collected id) (Answers (told.Collected (collected.Reply answer))) n m
  Collects id n m (Err e) = m ≡ n

  -- a request waits for an activation's end
  abbrev pub Waits : Request → Id → Notes → Notes → Type 0
  Waits request id n m = (until : ℕ) × AsksFor request (Ok (replies.Waiting id until)) n m

  -- the answer comes at once, or once what the request waits for is collected
  abbrev pub AnsweredBy : Request → Answer → Notes → Notes → Type 0
  AnsweredBy request answer n m = AsksFor request (Ok (replies.Now answer)) n m
      ⊎ ((id : Id) × (middle : Notes) × Waits request id n middle × Collects id middle m (Ok answer))

  -- memory ran out: nothing is noted, or that the request waits
  abbrev pub Unanswered : Request → Notes → Notes → Type 0
  Unanswered request n m = (m ≡ n) ⊎ ((id : Id) × Waits request id n m)

  -- for private clauses
  abbrev pub AnswersTo : Request → Notes → Notes → Result Answer Want → Type 0
  AnswersTo request n m (Ok answer) = AnsweredBy request answer n m
  AnswersTo request n m (Err e) = Unanswered request n m
