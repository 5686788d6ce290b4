-- What a turn's parts make of it.
use Rattle.std.proofs.Common.{◌∙◌, ℕ, inl, inr, ⊎_elim, refl, subst, sym}
use Rattle.std.specs.Prelude.{Option, Some, None}
use Rattle.ow_traits.specs.Runner.{Giving, Idles, Steady, Tally}
use Rattle.ow_floor.specs.declared.answers.RunOrder.{RunOrder}
use Rattle.ow_invoker.proofs.Running.{none_behind, once_behind, refused_from, replied_from, started_from}
use Rattle.ow_board.specs.declared.view.View.{View}
use Rattle.ow_desk.specs.Notes.{Notes}
use Rattle.ow_worker.specs.declared.outcome.Turn.{Turn}
use Rattle.ow_worker.specs.declared.outcome.Turn.TheVariants as turns
use Rattle.ow_board.specs.View.{KeepsOthers}
use Rattle.ow_worker.specs.Shown.{WasHad}
use Rattle.ow_worker.specs.Turned.{IsGivenUp, Carried, Performs, RunTurn}

-- a run that reached a booking is neither lost nor given up
pub carried_turns : {gives : Giving} {before now : Tally} {tells : Option ℕ} {opening : ℕ} {order : RunOrder} {n m : Notes} {v w : View} (turn : Turn)
    → Carried gives before now tells opening order n m v w turn → Performs gives before now tells opening order n m v w turn
carried_turns turns.Ran t = t
carried_turns turns.Removed t = t
carried_turns turns.Warmed t = t
carried_turns (turns.Lost seen) t = absurd t.settles.books
carried_turns turns.Idle t = t
carried_turns (turns.StoreFault job) t = t
carried_turns (turns.NoMemory None) t = absurd t.settles.books
carried_turns (turns.NoMemory (Some job)) t = t

carried_within : {f g h : Giving} {a b c : Tally} {tells : Option ℕ} {opening : ℕ} {order : RunOrder} {n m : Notes} {v w : View} (turn : Turn) → Idles f g a b → Steady g h b c
    → Carried g b c tells opening order n m v w turn → Carried f a c tells opening order n m v w turn
carried_within {a = a} {b = b} {c = c} {order = order} turn s t x = record {
  reply = x.reply;
  replies = replied_from order.kind order.code order.params x.reply s.steady t x.replies;
  opened = x.opened;
  opens = ⊎_elim (λ y. inl (started_from _ _ _ _ _ _ order s.steady t y.0, y.1, once_behind a b c s.ran y.2)) (λ y. inr (y.0, refused_from order.kind order.code x.reply s.steady t y.1, none_behind a b c s.ran y.2)) x.opens;
  settles = x.settles;
}

given_up_within : (f g : Giving) (a b c : Tally) (tells : Option ℕ) (order : RunOrder) (n m : Notes) → Idles f g a b → IsGivenUp tells b c order n m → IsGivenUp tells a c order n m
given_up_within f g a b c tells order n m s x = record {
  opened = x.opened;
  opens = ⊎_elim (λ y. inl (y.0, once_behind a b c s.ran y.1)) (λ y. inr (y.0, y.1, none_behind a b c s.ran y.2)) x.opens;
  gives_up = x.gives_up;
}

-- a run that got its container first, and went on from there
pub run_turned : (gives : Giving) (before now : Tally) (tells : Option ℕ) (opening : ℕ) (order : RunOrder) (n m : Notes) (v w ready : View) (turn : Turn) → WasHad order v ready
    → Performs gives before now tells opening order n m ready w turn → RunTurn gives before now tells opening order n m v w turn
run_turned gives before now tells opening order n m v w ready turns.Ran had x = (ready, had, x)
run_turned gives before now tells opening order n m v w ready turns.Removed had x = (ready, had, x)
run_turned gives before now tells opening order n m v w ready turns.Warmed had x = (ready, had, x)
run_turned gives before now tells opening order n m v w ready (turns.Lost seen) had x = absurd x
run_turned gives before now tells opening order n m v w ready turns.Idle had x = (ready, had, x)
run_turned gives before now tells opening order n m v w ready (turns.StoreFault job) had x = (ready, had, x)
run_turned gives before now tells opening order n m v w ready (turns.NoMemory None) had x = (subst (λ (y : View). WasHad order v y) (sym x.1) had, x.0)
run_turned gives before now tells opening order n m v w ready (turns.NoMemory (Some job)) had x = (ready, had, x)

-- the calls of the runner before count too
pub performs_within : {f g h : Giving} {a b c : Tally} (tells : Option ℕ) (opening : ℕ) (order : RunOrder) (n m : Notes) (v w : View) (turn : Turn) → Idles f g a b → Steady g h b c
    → Performs g b c tells opening order n m v w turn → Performs f a c tells opening order n m v w turn
performs_within tells opening order n m v w turns.Ran s t x = carried_within turns.Ran s t x
performs_within tells opening order n m v w turns.Removed s t x = carried_within turns.Removed s t x
performs_within tells opening order n m v w turns.Warmed s t x = carried_within turns.Warmed s t x
performs_within tells opening order n m v w (turns.Lost seen) s t x = x
performs_within tells opening order n m v w turns.Idle s t x = carried_within turns.Idle s t x
performs_within tells opening order n m v w (turns.StoreFault job) s t x = carried_within (turns.StoreFault job) s t x
performs_within {f = f} {g = g} {a = a} {b = b} {c = c} tells opening order n m v w (turns.NoMemory None) s t x = (given_up_within f g a b c tells order n m s x.0, x.1)
performs_within tells opening order n m v w (turns.NoMemory (Some job)) s t x = carried_within (turns.NoMemory (Some job)) s t x

-- ---- other slots

pub others_same : (slot : ℕ) (v : View) → KeepsOthers slot v v
others_same slot v = λ j other. refl

pub others_both : (slot : ℕ) (u v w : View) → KeepsOthers slot u v → KeepsOthers slot v w → KeepsOthers slot u w
others_both slot u v w h k = λ j other. k j other ∙ h j other
