-- Orders, carried out.
use Rattle.std.proofs.Common.{◌≡◌, ℕ, List, [], ◌∷◌, ◌++◌, Option, Ok, Err, IfOk, Result, refl, sym, ap, inl, inr, ⊎_elim, append-nil, subst, ◌∙◌}
use Rattle.ow_traits.specs.Telling.{Telling}
use Rattle.ow_traits.specs.Runner.{Giving, RanNone, RefusesStart, Tally}
use Rattle.ow_traits.specs.declared.replies.RunReply.{RunReply}
use Rattle.ow_value.specs.declared.memory.NoMemory.{NoMemory as Want}
use Rattle.ow_floor.specs.declared.answers.Container.{Container}
use Rattle.ow_floor.specs.declared.answers.Order.{Order}
use Rattle.ow_floor.specs.declared.answers.Order.TheVariants as orders
use Rattle.ow_floor.specs.declared.answers.PrewarmOrder.{PrewarmOrder}
use Rattle.ow_decide.specs.declared.events.Event.TheVariants as events
use Rattle.ow_decide.specs.declared.events.Told.{Told}
use Rattle.ow_decide.specs.declared.events.Told.TheVariants as told
use Rattle.ow_decide.specs.Decision.{commits}
use Rattle.ow_decide.specs.declared.events.Event.{Event}
use Rattle.ow_hall.specs.Comes.{Answers, Comes, Fails, HallView, Outcome, Wants, decided}
use Rattle.ow_invoker.specs.Parts.{Carries, Lists, Tells, TellsAll, TellsOf, TwoSteps, both, in_order, listed}
use Rattle.ow_invoker.specs.Shelf.{IsLaid, without}
use Rattle.ow_invoker.specs.Turns.{AreBoth, Chain, ChainTo, Exchange, Follows, Offers, Removes, Turns, exchange, gone_of, steps_in, steps_of}
use Rattle.ow_invoker.specs.declared.shelf.Laid.{Laid}
use Rattle.ow_invoker.specs.declared.turn.TurnStep.{TurnStep}
use Rattle.ow_invoker.specs.declared.turn.Turned.{Turned}
use Rattle.ow_invoker.proofs.Turning.{chain_more, steps_more, wants_same}

pub removes_more : {B : Type 0} (cs : List Container) (c : Container) (shelf : List (Laid B)) (xs : List Exchange) (x : Exchange) (left : List (Laid B)) → x.event ≡ gone_of c
    → Removes cs shelf xs left → Removes (cs ++ c ∷ []) shelf (xs ++ x ∷ []) (without c.slot c.generation left)
removes_more [] c shelf xs x left is h =
    subst (λ ys. Removes (c ∷ []) shelf (ys ++ x ∷ []) (without c.slot c.generation left)) (sym h.0) (is, (refl, ap (λ s. without c.slot c.generation s) h.1))
removes_more (d ∷ cs) c shelf [] x left is h = absurd h
removes_more (d ∷ cs) c shelf (y ∷ xs) x left is h = (h.0, removes_more cs c (without d.slot d.generation shelf) xs x left is h.1)

-- an order came before
behind_order : {P : Type 0} (telling : P → Telling) (old : HallView P) (at : ℕ) (middle new : HallView P) (order : Order) (xs : List Exchange) (event : Event) (o : Outcome)
    → Comes telling old middle at events.Next (Answers (told.Next order)) → ChainTo telling middle new at xs event o
    → ChainTo telling old new at (exchange events.Next (told.Next order) ∷ xs) event o
behind_order telling old at middle new order xs event o first (last, (chain, comes)) = (last, ((middle, (first, chain)), comes))

module _ {P B : Type 0} (telling : P → Telling) (old : HallView P) (at : ℕ) where
  -- the containers so far are removed, and these steps are reported
  abbrev pub Removed : HallView P → List (Laid B) → List (Laid B) → List Container → List TurnStep → Type 0
  Removed new shelf left cs steps = (xs : List Exchange) × (Removes cs shelf xs left × TellsAll telling old new at xs steps)

  -- and one more
  pub removed_more : (middle new : HallView P) (shelf left last : List (Laid B)) (cs : List Container) (c : Container) (steps more : List TurnStep) (step : Option TurnStep)
      → Removed middle shelf left cs steps → Tells telling middle new at (gone_of c) step → last ≡ without c.slot c.generation left → more ≡ steps ++ listed step
      → Removed new shelf last (cs ++ c ∷ []) more
  removed_more middle new shelf left last cs c steps more step h k is told =
      let x = exchange (gone_of c) k.0 in (
        h.0 ++ x ∷ [],
        (
          subst (λ s. Removes (cs ++ c ∷ []) shelf (h.0 ++ x ∷ []) s) (sym is) (removes_more cs c shelf h.0 x left refl h.1.0),
          (
            chain_more telling old middle new at h.0 (x ∷ []) h.1.1.0 (new, (k.1.0, refl)),
            told ∙ ap (λ s. s ++ listed step) h.1.1.1 ∙ ap (λ s. steps_in h.0 ++ s) (k.1.1 ∙ sym (append-nil (steps_of (gone_of c) k.0))) ∙ sym (steps_more h.0 (x ∷ [])),
          ),
        ),
      )

  module _ (gives : Giving) (before now : Tally) where
    -- all of them are removed, and the steps are put together, or there is no memory for that
    pub removed : (new : HallView P) (shelf left : List (Laid B)) (cs : List Container) (steps : List TurnStep) (result : Result (List TurnStep) Want) → RanNone before now
        → Removed new shelf left cs steps → IfOk result (λ list. list ≡ steps)
        → Carries telling gives before now old new at shelf left (orders.Remove cs) result
    removed new shelf left cs steps (Ok list) none h made = inl (h.0, ((h.1.0, none), (h.1.1.0, made ∙ h.1.1.1)))
    removed new shelf left cs steps (Err e) none h made = inl (h.0, (inr (h.1.0, none), h.1.1.0))

    -- a container was laid down, and its prewarming has begun
    pub warmed : (new : HallView P) (shelf left : List (Laid B)) (order : PrewarmOrder) (answer : Told) → gives.starts order.kind × IsLaid order.slot order.generation shelf left → RanNone before now
        → Comes telling old new at (events.Begun order.run) (Answers answer)
        → Carries telling gives before now old new at shelf left (orders.Prewarm order) (Ok [])
    warmed new shelf left order answer laid none comes = inl (
      exchange (events.Begun order.run) answer ∷ [],
      ((inl (laid.0, ((answer, refl), laid.1)), none), ((new, (comes, refl)), refl)),
    )

    pub unwarmed : (new : HallView P) (shelf left : List (Laid B)) (order : PrewarmOrder) (steps : TwoSteps) → (reply : RunReply) × RefusesStart gives before now order.kind reply → left ≡ shelf → RanNone before now
        → (xs : List Exchange) × (AreBoth (events.Lost order.run) (events.Gone order.slot order.generation) xs × Chain telling old new at xs × (both steps ≡ steps_in xs))
        → Carries telling gives before now old new at shelf left (orders.Prewarm order) (Ok (both steps))
    unwarmed new shelf left order steps down same none k = inl (k.0, ((inr (down, (k.1.0, same)), none), (k.1.1, k.1.2)))

    pub unheld : (new : HallView P) (shelf left : List (Laid B)) (order : PrewarmOrder) (e : Want) (steps : TwoSteps) → left ≡ shelf → RanNone before now
        → (xs : List Exchange) × (AreBoth (events.Lost order.run) (events.Gone order.slot order.generation) xs × Chain telling old new at xs × (both steps ≡ steps_in xs))
        → Carries telling gives before now old new at shelf left (orders.Prewarm order) (Err e)
    unheld new shelf left order e steps same none k = inl (k.0, (inl ((k.1.0, same), none), k.1.1))

    -- the steps are put into a list
    pub in_list : (new : HallView P) (shelf left : List (Laid B)) (order : Order) (steps : Result TwoSteps Want) (result : Result (List TurnStep) Want)
        → Carries telling gives before now old new at shelf left order (in_order steps) → Lists steps result → Carries telling gives before now old new at shelf left order result
    in_list new shelf left order (Ok steps) (Ok list) (inl h) k = inl (h.0, (h.1.0, (h.1.1.0, k ∙ h.1.1.1)))
    in_list new shelf left order (Ok steps) (Ok list) (inr h) k = inr (h.0, (h.1.0, (h.1.1.0, h.1.1.1, k ∙ h.1.1.2)))
    in_list new shelf left order (Ok steps) (Err e) (inl h) k = inl (h.0, (inr h.1.0, h.1.1.0))
    in_list new shelf left order (Ok steps) (Err e) (inr h) k = inr (h.0, (h.1.0, (h.1.1.0, inr h.1.1.1)))
    in_list new shelf left order (Err f) (Ok list) h k = absurd k
    in_list new shelf left order (Err f) (Err e) h k = h

    -- after the order
    pub turned : (middle new : HallView P) (shelf left : List (Laid B)) (order : Order) → Comes telling old middle at events.Next (Answers (told.Next order))
        → (result : Result Turned Want) → TellsOf telling gives before now middle new at shelf left order result → Turns telling gives before now old new at shelf left result
    turned middle new shelf left order first (Ok t) (same, inl h) = inl (
      exchange events.Next (told.Next t.order) ∷ h.0,
      (
        (refl, subst (λ o. Follows gives before now shelf o h.0 left) (sym same) h.1.0),
        (middle, (subst (λ o. Comes telling old middle at events.Next (Answers (told.Next o))) (sym same) first, h.1.1.0)),
        h.1.1.1,
      ),
    )
    turned middle new shelf left order first (Ok t) (same, inr h) = inr (
      exchange events.Next (told.Next t.order) ∷ h.0,
      (
        h.1.0,
        (
          (refl, subst (λ o. Offers gives before now shelf o h.0 h.1.0 left) (sym same) h.1.1.0),
          behind_order telling old at middle new t.order h.0 h.1.0 Fails (subst (λ o. Comes telling old middle at events.Next (Answers (told.Next o))) (sym same) first) h.1.1.1,
          h.1.1.2,
        ),
      ),
    )
    turned middle new shelf left order first (Err e) (inl h) =
        inl (exchange events.Next (told.Next order) ∷ h.0, ((order, (refl, h.1.0)), (middle, (first, h.1.1))))
    turned middle new shelf left order first (Err e) (inr h) = inr (
      order,
      (
        exchange events.Next (told.Next order) ∷ h.0,
        (h.1.0, ((refl, h.1.1.0), ⊎_elim (λ w. inl (behind_order telling old at middle new order h.0 h.1.0 Wants first w)) (λ f. inr (behind_order telling old at middle new order h.0 h.1.0 Fails first f)) h.1.1.1)),
      ),
    )

    -- there was no order, since there was no memory
    pub unordered : (new : HallView P) (shelf left : List (Laid B)) (e : Want) → left ≡ shelf → RanNone before now → commits (decided old at events.Next) ≡ [] → Comes telling old new at events.Next Wants
        → Turns telling gives before now old new at shelf left (Err e)
    unordered new shelf left e same ran none w = inl ([], ((same, ran), wants_same telling old new at events.Next none w))
