-- Calls of a locked hall, and their results.
use Rattle.std.proofs.Common.{◌≡◌, ◌++◌, ℕ, [], Option, Result, Ok, Err, ap, append-nil, inr, subst, sym, ◌∙◌}
use Rattle.ow_value.specs.declared.memory.NoMemory.{NoMemory as Want}
use Rattle.ow_http.specs.declared.answer.Answer.{Answer}
use Rattle.ow_http.specs.declared.request.Request.{Request}
use Rattle.ow_records.specs.declared.ids.Id.{Id}
use Rattle.ow_decide.specs.declared.events.Event.TheVariants as events
use Rattle.ow_decide.specs.declared.events.Told.TheVariants as told
use Rattle.ow_decide.specs.declared.replies.HallCollected.TheVariants as collected
use Rattle.ow_hall.specs.Comes.{Answers}
use Rattle.ow_desk.specs.Notes.{CalledBy, Notes}
use Rattle.ow_peer.specs.Answered.{AnswersTo, Collects, Waits}

-- no mark more
unmarked : (n : Notes) → record n { marks = n.marks ++ [] } ≡ n
unmarked n = ap (λ marks. record n { marks = marks }) (append-nil n.marks)

module _ (tells : Option ℕ) where
  -- what isn't answered yet leaves nothing
  pub not_yet : (id : Id) (n m : Notes) → CalledBy tells (events.Collected id) (Answers (told.Collected collected.NotYet)) n m → m ≡ n
  not_yet id n m c = c.2.notes ∙ unmarked n

  pub unknown : (id : Id) (n m : Notes) → CalledBy tells (events.Collected id) (Answers (told.Collected collected.Unknown)) n m → m ≡ n
  unknown id n m c = c.2.notes ∙ unmarked n

  -- a request that waits, and what is collected for it
  pub waited : (request : Request) (id : Id) (n middle m : Notes) (result : Result Answer Want) → Waits tells request id n middle → Collects tells id middle m result → AnswersTo tells request n m result
  waited request id n middle m (Ok answer) w c = inr (id, middle, w, c)
  waited request id n middle m (Err e) w c = inr (id, subst (λ k. Waits tells request id n k) (sym c) w)
