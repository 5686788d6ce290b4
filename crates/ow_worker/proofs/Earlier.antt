-- What is shown of the board after one number of steps is shown after a smaller one.
use Rattle.std.proofs.Common.{arith, ℕ, ◌≤◌, Bool, true, false, inl, inr, ⊎_elim}
use Rattle.std.specs.Prelude.{Option, Some, None}
use Rattle.ow_traits.specs.declared.replies.RunReply.{RunReply}
use Rattle.ow_floor.specs.declared.answers.RunOrder.{RunOrder}
use Rattle.ow_invoker.specs.Turns.{is_late}
use Rattle.ow_board.specs.declared.view.View.{View}
use Rattle.ow_board.specs.declared.view.LastStep.{LastStep}
use Rattle.ow_desk.specs.Notes.{Notes}
use Rattle.ow_worker.specs.declared.outcome.Laid.{Laid}
use Rattle.ow_worker.specs.declared.outcome.Laid.TheVariants.{Put, Taken, Stopped}
use Rattle.ow_worker.specs.declared.outcome.Turn.{Turn}
use Rattle.ow_worker.specs.declared.outcome.Turn.TheVariants as turns
use Rattle.ow_worker.specs.Shown.{StepOfCall, WasNotHad, WasTaken}
use Rattle.ow_worker.specs.Parts.{Booked, Ended, TakenBack}

of_earlier : {slot a b : ℕ} {w : View} {step : LastStep} → a ≤ b → StepOfCall slot b w step → StepOfCall slot a w step
of_earlier le t = let n = t.of_call in record { is_last = t.is_last; of_call = omega arith }

taken_earlier : {slot generation a b : ℕ} {w : View} → a ≤ b → WasTaken slot generation b w → WasTaken slot generation a w
taken_earlier le t = record { step = t.step; of_call = of_earlier le t.of_call; kind = t.kind; saw = t.saw; left = t.left }

not_had_earlier : {slot generation seen a b : ℕ} {w : View} → a ≤ b → WasNotHad slot generation seen b w → WasNotHad slot generation seen a w
not_had_earlier le t = record {
  step = t.step;
  of_call = of_earlier le t.of_call;
  saw = t.saw;
  shows = ⊎_elim (λ x. inl x) (λ x. let l = x.1.3 in inr (x.0, (x.1.0, x.1.1, x.1.2, omega arith, x.1.4, x.1.5))) t.shows;
}

module _ (tells : Option ℕ) where
  back_earlier : {slot generation : ℕ} {n m : Notes} {a b : ℕ} {w : View} → a ≤ b → TakenBack tells slot generation n m b w → TakenBack tells slot generation n m a w
  back_earlier le t = ⊎_elim (λ x. inl (x.0, taken_earlier le x.1)) (λ x. inr (x.0, (x.1.0, not_had_earlier le x.1.1))) t

  ended_earlier : (order : RunOrder) (n m : Notes) (a b : ℕ) (v w : View) (laid : Laid) (late : Bool) → a ≤ b
      → Ended tells order n m b v w laid late → Ended tells order n m a v w laid late
  ended_earlier order n m a b v w Stopped late le t = t
  ended_earlier order n m a b v w Taken late le t = t
  ended_earlier order n m a b v w Put false le t = t
  ended_earlier order n m a b v w Put true le t = back_earlier le t

  pub booked_earlier : (order : RunOrder) (reply : RunReply) (laid : Laid) (n m : Notes) (a b : ℕ) (v w : View) (turn : Turn) → a ≤ b
      → Booked tells order reply laid n m b v w turn → Booked tells order reply laid n m a v w turn
  booked_earlier order reply laid n m a b v w turns.Ran le t =
      record { told = t.told; after = t.after; noted = t.noted; ended = ended_earlier order t.after m a b v w laid (is_late t.told) le t.ended }
  booked_earlier order reply laid n m a b v w turns.Removed le t = t
  booked_earlier order reply laid n m a b v w turns.Warmed le t = t
  booked_earlier order reply laid n m a b v w (turns.Lost seen) le t = t
  booked_earlier order reply laid n m a b v w turns.Idle le t = t
  booked_earlier order reply laid n m a b v w (turns.StoreFault job) le t = t
  booked_earlier order reply laid n m a b v w (turns.NoMemory None) le t = t
  booked_earlier order reply laid n m a b v w (turns.NoMemory (Some job)) le t = t
