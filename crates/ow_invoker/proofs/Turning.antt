-- Chains of calls, put together.
use Rattle.std.proofs.Common.{◌≡◌, ℕ, Bool, true, false, List, [], ◌∷◌, ◌++◌, Option, refl, sym, ap, inl, append-nil, append_assoc, subst, ◌∙◌}
use Rattle.ow_traits.specs.Telling.{Telling}
use Rattle.ow_slots.specs.State.{is_warm}
use Rattle.ow_traits.specs.Runner.{Giving, RanOnce, Tally}
use Rattle.ow_traits.specs.declared.replies.RunReply.{RunReply}
use Rattle.ow_floor.specs.declared.answers.RunOrder.{RunOrder}
use Rattle.ow_decide.specs.declared.events.Event.{Event}
use Rattle.ow_decide.specs.declared.events.Event.TheVariants as events
use Rattle.ow_decide.specs.declared.events.Told.{Told}
use Rattle.ow_decide.specs.Decision.{commits}
use Rattle.ow_hall.specs.Comes.{Answers, Comes, HallView, Stays, Wants, at_hall, decided}
use Rattle.ow_hall.specs.History.{counted, seen, sight}
use Rattle.ow_hall.proofs.KeepLaws.{next_commits as orders_keep}
use Rattle.ow_invoker.specs.Parts.{Tells, TellsAll, both, listed}
use Rattle.ow_invoker.specs.Turns.{AreBoth, Chain, Exchange, IsAlone, IsStarted, Opens, OpensBy, exchange, steps_in, steps_of}
use Rattle.ow_invoker.specs.declared.turn.TurnStep.{TurnStep}

pub steps_more : (xs ys : List Exchange) → steps_in (xs ++ ys) ≡ steps_in xs ++ steps_in ys
steps_more [] ys = refl
steps_more (x ∷ xs) ys = ap (λ s. steps_of x.event x.answer ++ s) (steps_more xs ys) ∙ sym (append_assoc (steps_of x.event x.answer) (steps_in xs) (steps_in ys))

module _ {P : Type 0} (telling : P → Telling) where
  -- where the memory runs out for an event that commits nothing, the hall is what it was
  pub wants_same : (old new : HallView P) (at : ℕ) (event : Event) → commits (decided old at event) ≡ [] → Comes telling old new at event Wants → new ≡ old
  wants_same old new at event none h =
      let stays : Stays telling [] old.store new.store = subst (λ cs. Stays telling cs old.store new.store) none h.2 in
      λ i. record { tenants = h.1 i; ledger = h.0 i; store = stays i }

  -- what is to be done changes nothing of what is kept
  pub next_commits : (h : HallView P) (at : ℕ) → commits (decided h at events.Next) ≡ []
  next_commits h at = orders_keep (sight h.tenants (seen h.tenants h.ledger.entries) (counted h.ledger.entries) (at_hall h at))

  pub chain_more : (old middle new : HallView P) (at : ℕ) (xs ys : List Exchange) → Chain telling old middle at xs → Chain telling middle new at ys → Chain telling old new at (xs ++ ys)
  chain_more old middle new at [] ys first then = subst (λ v. Chain telling v new at ys) first then
  chain_more old middle new at (x ∷ xs) ys first then = (first.0, (first.1.0, chain_more first.0 middle new at xs ys first.1.1 then))

  -- one event
  pub alone_told : (old new : HallView P) (at : ℕ) (event : Event) (step : Option TurnStep) → Tells telling old new at event step
      → (xs : List Exchange) × (IsAlone event xs × TellsAll telling old new at xs (listed step))
  alone_told old new at event step h = (
    exchange event h.0 ∷ [],
    ((h.0, refl), ((new, (h.1.0, refl)), h.1.1 ∙ sym (append-nil (steps_of event h.0)))),
  )

  -- two events
  pub both_told : (old middle new : HallView P) (at : ℕ) (e f : Event) (s t : Option TurnStep) → Tells telling old middle at e s → Tells telling middle new at f t
      → (xs : List Exchange) × (AreBoth e f xs × Chain telling old new at xs × (both (s, t) ≡ steps_in xs))
  both_told old middle new at e f s t h k = (
    exchange e h.0 ∷ exchange f k.0 ∷ [],
    (
      (h.0, k.0, refl),
      (middle, (h.1.0, (new, (k.1.0, refl)))),
      ap (λ a. a ++ listed t) h.1.1 ∙ ap (λ b. steps_of e h.0 ++ b) (k.1.1 ∙ sym (append-nil (steps_of f k.0))),
    ),
  )

  -- the hall is notified that a run began, or needn't be
  pub opened_cold : (old new : HallView P) (at : ℕ) (order : RunOrder) (a : Told) → is_warm order.start ≡ false → Comes telling old new at (events.Begun order.run) (Answers a)
      → (xs : List Exchange) × (OpensBy (is_warm order.start) order xs × Chain telling old new at xs)
  opened_cold old new at order a cold comes = (
    exchange (events.Begun order.run) a ∷ [],
    (subst (λ b. OpensBy b order (exchange (events.Begun order.run) a ∷ [])) (sym cold) (a, refl), (new, (comes, refl))),
  )

  pub opened_warm : (old : HallView P) (at : ℕ) (order : RunOrder) → is_warm order.start ≡ true
      → (xs : List Exchange) × (OpensBy (is_warm order.start) order xs × Chain telling old old at xs)
  opened_warm old at order warm = ([], (subst (λ b. OpensBy b order []) (sym warm) refl, refl))

opens_silently : (b : Bool) (order : RunOrder) (xs : List Exchange) → OpensBy b order xs → steps_in xs ≡ []
opens_silently true order xs h = ap steps_in h
opens_silently false order xs h = ap steps_in h.1

-- the beginning of a run adds no step
pub told_behind : (b : Bool) (order : RunOrder) (xs ys : List Exchange) (steps : List TurnStep) → OpensBy b order xs → steps ≡ steps_in ys → steps ≡ steps_in (xs ++ ys)
told_behind b order xs ys steps h e = e ∙ ap (λ s. s ++ steps_in ys) (sym (opens_silently b order xs h)) ∙ sym (steps_more xs ys)

pub opens_so : (gives : Giving) (before now : Tally) (order : RunOrder) (reply : RunReply) (b : Bool) (xs : List Exchange) → is_warm order.start ≡ b → IsStarted gives order → RanOnce before now → OpensBy b order xs
    → Opens gives before now order reply xs
opens_so gives before now order reply true xs warm started once h = subst (λ ys. Opens gives before now order reply ys) (sym h) (inl (warm, once))
opens_so gives before now order reply false xs cold started once h = subst (λ ys. Opens gives before now order reply ys) (sym h.1) (cold, started, refl, refl, once)
