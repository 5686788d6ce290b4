-- A run, from the parts that it has.
use Rattle.std.proofs.Common.{◌≡◌, ◌⊎◌, ℕ, Bool, true, false, List, [], ◌∷◌, ◌++◌, Option, None, Ok, Err, Result, refl, sym, ap, inl, inr, ⊎_elim, append-nil, subst, ◌∙◌}
use Rattle.ow_traits.specs.Telling.{Telling}
use Rattle.ow_slots.specs.State.{is_warm}
use Rattle.ow_traits.specs.Runner.{Giving, Idles, RanNone, RanOnce, RefusesCode, Replies, Steady, Tally, is_answer}
use Rattle.ow_traits.specs.declared.replies.RunReply.{RunReply}
use Rattle.ow_value.specs.declared.memory.NoMemory.{NoMemory as Want}
use Rattle.ow_floor.specs.declared.answers.Order.TheVariants as orders
use Rattle.ow_floor.specs.declared.answers.RunOrder.{RunOrder}
use Rattle.ow_decide.specs.declared.events.Event.TheVariants as events
use Rattle.ow_decide.specs.declared.events.Told.{Told}
use Rattle.ow_hall.specs.Comes.{Answers, Comes, HallView}
use Rattle.ow_invoker.specs.Parts.{Books, Carries, EndsBy, Performs, Settles, Tells, TellsAll, TwoSteps, both, in_order, listed, reply_of}
use Rattle.ow_invoker.specs.Readiness.{Initialised, UpStarts}
use Rattle.ow_invoker.specs.Shelf.{IsLaid, without}
use Rattle.ow_invoker.specs.Turns.{AreBoth, Chain, Exchange, IsCarriedOut, IsGivenUp, IsOffered, IsStarted, IsUnlaid, LiesBy, Opens, OpensBy, Rests, RunFollows, RunOffers, RunStops, exchange, gone, is_late, is_missing, lost, shelf_at, steps_in, steps_of}
use Rattle.ow_invoker.specs.declared.readying.Readiness.{Readiness}
use Rattle.ow_invoker.specs.declared.readying.Readiness.TheVariants.{Early, NoMemory, NotHad, Up}
use Rattle.ow_invoker.specs.declared.shelf.Laid.{Laid}
use Rattle.ow_invoker.specs.declared.turn.TurnStep.{TurnStep}
use Rattle.ow_invoker.proofs.Running.{none_behind, once_behind, refused_from, replied_from, started_from}
use Rattle.ow_invoker.proofs.Turning.{alone_told, chain_more, opens_so, told_behind}

-- of a kind that the runner starts, whatever the outcome of the initialisation
pub up_started : {B S : Type 0} (gives : Giving) (order : RunOrder) (ready : Readiness B S) → gives.starts order.kind → UpStarts gives order ready
up_started gives order (Up living) k = k
up_started gives order (Early held reply) k = tt
up_started gives order (NotHad seen) k = tt
up_started gives order NoMemory k = tt

opens_from : (f g h : Giving) (a b c : Tally) (order : RunOrder) (reply : RunReply) (xs : List Exchange) → Idles f g a b → Steady g h b c
    → Opens g b c order reply xs → Opens f a c order reply xs
opens_from f g h a b c order reply [] s t x =
    ⊎_elim (λ w. inl (w.0, once_behind a b c s.ran w.1)) (λ r. inr (refused_from order.kind order.code reply s.steady t r.0, none_behind a b c s.ran r.1)) x
opens_from f g h a b c order reply (x ∷ xs) s t k = (k.0, started_from f g h a b c order s.steady t k.1, k.2, k.3, once_behind a b c s.ran k.4)

module _ {B : Type 0} where
  rested : (answers late : Bool) (order : RunOrder) (shelf laid : List (Laid B)) (xs : List Exchange) (left : List (Laid B))
      → LiesBy answers order shelf laid → EndsBy answers late order laid xs left → Rests answers late order shelf xs left
  rested true false order shelf laid xs left h k = (k.0, subst (λ s. IsLaid order.slot order.generation shelf s) (sym k.1) h)
  rested true true order shelf laid xs left h k = (k.0, (laid, (h, k.1)))
  rested false late order shelf laid xs left h k = (k.0, k.1 ∙ h)

  -- ---- windows of calls

  carried_from : (f g h : Giving) (a b c : Tally) (order : RunOrder) (shelf : List (Laid B)) (xs : List Exchange) (left : List (Laid B)) → Idles f g a b → Steady g h b c
      → IsCarriedOut g b c order shelf xs left → IsCarriedOut f a c order shelf xs left
  carried_from f g h a b c order shelf xs left s t k = record {
    reply = k.reply;
    replies = replied_from order.kind order.code order.params k.reply s.steady t k.replies;
    opening = k.opening;
    opens = opens_from f g h a b c order k.reply k.opening s t k.opens;
    booking = k.booking;
    settled = k.settled;
    is = k.is;
  }

  given_up_from : (f g h : Giving) (a b c : Tally) (order : RunOrder) (shelf : List (Laid B)) (xs : List Exchange) (left : List (Laid B)) → Idles f g a b
      → IsGivenUp b c order shelf xs left → IsGivenUp a c order shelf xs left
  given_up_from f g h a b c order shelf xs left s k = record {
    opening = k.opening;
    opens = ⊎_elim (λ o. inl (o.0, once_behind a b c s.ran o.1)) (λ o. inr (o.0, o.1, none_behind a b c s.ran o.2)) k.opens;
    ending = k.ending;
    ends = k.ends;
    is = k.is;
    left_is = k.left_is;
  }

  unlaid_from : (f g h : Giving) (a b c : Tally) (order : RunOrder) (shelf : List (Laid B)) (xs : List Exchange) (left : List (Laid B)) → Idles f g a b → Steady g h b c
      → IsUnlaid g b c order shelf xs left → IsUnlaid f a c order shelf xs left
  unlaid_from f g h a b c order shelf xs left s t k = record {
    reply = k.reply;
    replies = replied_from order.kind order.code order.params k.reply s.steady t k.replies;
    opens = opens_from f g h a b c order k.reply xs s t k.opens;
    left_is = k.left_is;
  }

  offered_from : (f g h : Giving) (a b c : Tally) (order : RunOrder) (reply : RunReply) (shelf : List (Laid B)) (xs : List Exchange) (left : List (Laid B)) → Idles f g a b → Steady g h b c
      → IsOffered g b c order reply shelf xs left → IsOffered f a c order reply shelf xs left
  offered_from f g h a b c order reply shelf xs left s t k = record {
    replies = replied_from order.kind order.code order.params reply s.steady t k.replies;
    opens = opens_from f g h a b c order reply xs s t k.opens;
    lies = k.lies;
  }

module _ {P B : Type 0} (telling : P → Telling) where
  -- after a reply that is no answer
  pub ended : (old new : HallView P) (at : ℕ) (order : RunOrder) (laid : List (Laid B)) (answers late : Bool) (step : Option TurnStep) → answers ≡ false → Tells telling old new at (gone order) step
      → (xs : List Exchange) × (EndsBy answers late order laid xs laid × TellsAll telling old new at xs (listed step))
  ended old new at order laid answers late step isnt h =
      let t = alone_told telling old new at (gone order) step h in
      (t.0, (subst (λ b. EndsBy b late order laid t.0 laid) (sym isnt) (t.1.0, refl), t.1.1))

  -- after an answer that came late
  pub taken_back : (old new : HallView P) (at : ℕ) (order : RunOrder) (laid left : List (Laid B)) (answers late : Bool) (step : Option TurnStep) → answers ≡ true → late ≡ true
      → left ≡ without order.slot order.generation laid → Tells telling old new at (gone order) step
      → (xs : List Exchange) × (EndsBy answers late order laid xs left × TellsAll telling old new at xs (listed step))
  taken_back old new at order laid left answers late step does comes_late is h =
      let t = alone_told telling old new at (gone order) step h in
      (t.0, (subst (λ b. EndsBy b late order laid t.0 left) (sym does) (subst (λ l. EndsBy true l order laid t.0 left) (sym comes_late) (t.1.0, is)), t.1.1))

  -- after an answer in time
  pub stayed : (old : HallView P) (at : ℕ) (order : RunOrder) (laid : List (Laid B)) (answers late : Bool) → answers ≡ true → late ≡ false
      → (xs : List Exchange) × (EndsBy answers late order laid xs laid × TellsAll telling old old at xs [])
  stayed old at order laid answers late does in_time =
      ([], (subst (λ b. EndsBy b late order laid [] laid) (sym does) (subst (λ l. EndsBy true l order laid [] laid) (sym in_time) (refl, refl)), (refl, refl)))

  -- a reply was booked, and the report on its end follows
  pub booked : (old middle new : HallView P) (at : ℕ) (order : RunOrder) (reply : RunReply) (answers : Bool) (laid left : List (Laid B)) (first : Option TurnStep) (answer : Told) (second : Option TurnStep)
      → answers ≡ is_answer reply
      → Comes telling old middle at (events.Answered order.run reply) (Answers answer) → listed first ≡ steps_of (events.Answered order.run reply) answer
      → (xs : List Exchange) × (EndsBy answers (is_late answer) order laid xs left × TellsAll telling middle new at xs (listed second))
      → Books telling old new at order reply laid left (Ok (first, second))
  booked old middle new at order reply answers laid left first answer second same comes told h = inl (
    exchange (events.Answered order.run reply) answer ∷ h.0,
    (
      record { answer = answer; ending = h.0; is = refl; ends = subst (λ b. EndsBy b (is_late answer) order laid h.0 left) same h.1.0 },
      ((middle, (comes, h.1.1.0)), ap (λ s. s ++ listed second) told ∙ ap (λ s. steps_of (events.Answered order.run reply) answer ++ s) h.1.1.1),
    ),
  )

  pub settled : (old new : HallView P) (at : ℕ) (order : RunOrder) (reply : RunReply) (shelf laid left : List (Laid B)) (result : Result TwoSteps Want)
      → LiesBy (is_answer reply) order shelf laid → Books telling old new at order reply laid left result → Settles telling old new at order reply shelf left result
  settled old new at order reply shelf laid left (Ok steps) h (inl k) = inl (
    k.0,
    (
      record {
        answer = k.1.0.answer;
        ending = k.1.0.ending;
        is = k.1.0.is;
        rests = rested (is_answer reply) (is_late k.1.0.answer) order shelf laid k.1.0.ending left h k.1.0.ends;
      },
      k.1.1,
    ),
  )
  settled old new at order reply shelf laid left (Ok steps) h (inr k) = inr (subst (λ s. LiesBy (is_answer reply) order shelf s) (sym k.0) h, k.1)
  settled old new at order reply shelf laid left (Err e) h k = inr (subst (λ s. LiesBy (is_answer reply) order shelf s) (sym k.0) h, k.1)

  module _ (gives : Giving) (before now : Tally) where
    -- the run began, and its reply is settled
    pub performed : (old middle new : HallView P) (at : ℕ) (order : RunOrder) (reply : RunReply) (shelf left : List (Laid B)) (result : Result TwoSteps Want)
        → IsStarted gives order → Replies gives before now order.kind order.code order.params reply → RanOnce before now
        → (xs : List Exchange) × (OpensBy (is_warm order.start) order xs × Chain telling old middle at xs)
        → Settles telling middle new at order reply shelf left result → Performs telling gives before now old new at order shelf left result
    performed old middle new at order reply shelf left (Ok steps) started replies once b (inl k) = inl (
      b.0 ++ k.0,
      (
        record {
          reply = reply;
          replies = replies;
          opening = b.0;
          opens = opens_so gives before now order reply (is_warm order.start) b.0 refl started once b.1.0;
          booking = k.0;
          settled = k.1.0;
          is = refl;
        },
        (chain_more telling old middle new at b.0 k.0 b.1.1 k.1.1.0, told_behind (is_warm order.start) order b.0 k.0 (both steps) b.1.0 k.1.1.1),
      ),
    )
    performed old middle new at order reply shelf left (Ok steps) started replies once b (inr k) = inr (
      (
        b.0,
        (
          reply,
          (
            record { replies = replies; opens = opens_so gives before now order reply (is_warm order.start) b.0 refl started once b.1.0; lies = k.0 },
            (middle, (b.1.1, k.1.0)),
          ),
        ),
      ),
      k.1.1,
    )
    performed old middle new at order reply shelf left (Err e) started replies once b (inl k) = inl (
      b.0,
      (
        inr (record {
          reply = reply;
          replies = replies;
          opens = opens_so gives before now order reply (is_warm order.start) b.0 refl started once b.1.0;
          left_is = k.1;
        }),
        subst (λ v. Chain telling old v at b.0) (sym k.0) b.1.1,
      ),
    )
    performed old middle new at order reply shelf left (Err e) started replies once b (inr k) = inr (
      b.0,
      (
        reply,
        (
          record { replies = replies; opens = opens_so gives before now order reply (is_warm order.start) b.0 refl started once b.1.0; lies = k.0 },
          (middle, (b.1.1, k.1)),
        ),
      ),
    )

    -- there was no reply, since there was no memory
    pub given_up : (old middle new : HallView P) (at : ℕ) (order : RunOrder) (shelf : List (Laid B)) (e : Want) (steps : TwoSteps) → RanOnce before now
        → (xs : List Exchange) × (OpensBy (is_warm order.start) order xs × Chain telling old middle at xs)
        → (xs : List Exchange) × (AreBoth (lost order) (gone order) xs × Chain telling middle new at xs × (both steps ≡ steps_in xs))
        → Performs telling gives before now old new at order shelf shelf (Err e)
    given_up old middle new at order shelf e steps once b k = inl (
      b.0 ++ k.0,
      (
        inl (record { opening = b.0; opens = inl (b.1.0, once); ending = k.0; ends = k.1.0; is = refl; left_is = refl }),
        chain_more telling old middle new at b.0 k.0 b.1.1 k.1.1,
      ),
    )

    -- ---- by how the container came up

    module _ (old new : HallView P) (at : ℕ) (order : RunOrder) (shelf there left : List (Laid B)) (had : is_missing order shelf ≡ false) (took : there ≡ shelf_at order shelf) where
      had_carried : (xs : List Exchange) → IsCarriedOut gives before now order there xs left → RunFollows (is_missing order shelf) gives before now order shelf xs left
      had_carried xs h = subst (λ b. RunFollows b gives before now order shelf xs left) (sym had) (subst (λ s. IsCarriedOut gives before now order s xs left) took h)

      had_stopped : (xs : List Exchange) → IsGivenUp before now order there xs left ⊎ IsUnlaid gives before now order there xs left → RunStops (is_missing order shelf) gives before now order shelf xs left
      had_stopped xs h = subst (λ b. RunStops b gives before now order shelf xs left) (sym had)
          (subst (λ s. IsGivenUp before now order s xs left ⊎ IsUnlaid gives before now order s xs left) took h)

      had_offered : (xs : List Exchange) (reply : RunReply) → IsOffered gives before now order reply there xs left
          → RunOffers (is_missing order shelf) gives before now order shelf xs (reply_of order reply) left
      had_offered xs reply h = subst (λ b. RunOffers b gives before now order shelf xs (reply_of order reply) left) (sym had)
          (reply, (refl, subst (λ s. IsOffered gives before now order reply s xs left) took h))

      pub carried : (result : Result TwoSteps Want) → Performs telling gives before now old new at order there left result
          → Carries telling gives before now old new at shelf left (orders.Run order) (in_order result)
      carried (Ok steps) (inl h) = inl (h.0, (had_carried h.0 h.1.0, h.1.1))
      carried (Ok steps) (inr h) = inr (h.0.0, (reply_of order h.0.1.0, (had_offered h.0.0 h.0.1.0 h.0.1.1.0, h.0.1.1.1, h.1)))
      carried (Err e) (inl h) = inl (h.0, (inl (had_stopped h.0 h.1.0), h.1.1))
      carried (Err e) (inr h) = inr (h.0, (reply_of order h.1.0, (had_offered h.0 h.1.0 h.1.1.0, inl h.1.1.1)))

      -- it replied before any parameters
      pub early : (reply : RunReply) (result : Result TwoSteps Want) → RefusesCode gives before now order.kind order.code reply → RanNone before now → Settles telling old new at order reply there left result
          → Carries telling gives before now old new at shelf left (orders.Run order) (in_order result)
      early reply (Ok steps) refused none (inl k) = inl (
        k.0,
        (
          had_carried k.0 (record { reply = reply; replies = refused.1 order.params; opening = []; opens = inr (refused, none); booking = k.0; settled = k.1.0; is = refl }),
          k.1.1,
        ),
      )
      early reply (Ok steps) refused none (inr k) = inr (
        [],
        (
          reply_of order reply,
          (had_offered [] reply (record { replies = refused.1 order.params; opens = inr (refused, none); lies = k.0 }), (old, (refl, k.1.0)), k.1.1),
        ),
      )
      early reply (Err e) refused none (inl k) = inl (
        [],
        (inl (had_stopped [] (inr (record { reply = reply; replies = refused.1 order.params; opens = inr (refused, none); left_is = k.1 }))), k.0),
      )
      early reply (Err e) refused none (inr k) = inr (
        [],
        (
          reply_of order reply,
          (had_offered [] reply (record { replies = refused.1 order.params; opens = inr (refused, none); lies = k.0 }), inl (old, (refl, k.1))),
        ),
      )

      -- there was no memory for it
      pub unready : (e : Want) (steps : TwoSteps) → left ≡ there → is_warm order.start ≡ false → RanNone before now
          → (xs : List Exchange) × (AreBoth (lost order) (gone order) xs × Chain telling old new at xs × (both steps ≡ steps_in xs))
          → Carries telling gives before now old new at shelf left (orders.Run order) (Err e)
      unready e steps same cold none k = inl (
        k.0,
        (inl (had_stopped k.0 (inl (record { opening = []; opens = inr (refl, cold, none); ending = k.0; ends = k.1.0; is = refl; left_is = same }))), k.1.1),
      )

    -- it doesn't lie there
    pub missed : (old new : HallView P) (at : ℕ) (order : RunOrder) (shelf left : List (Laid B)) (step : Option TurnStep) → is_missing order shelf ≡ true → left ≡ shelf → RanNone before now
        → Tells telling old new at (lost order) step → Carries telling gives before now old new at shelf left (orders.Run order) (Ok (both (step, None)))
    missed old new at order shelf left step missing same none h =
        let t = alone_told telling old new at (lost order) step h in inl (
          t.0,
          (subst (λ b. RunFollows b gives before now order shelf t.0 left) (sym missing) (t.1.0, same, none), (t.1.1.0, append-nil (listed step) ∙ t.1.1.1)),
        )

  -- the calls before count too
  pub performs_from : (f g h : Giving) (a b c : Tally) (old new : HallView P) (at : ℕ) (order : RunOrder) (shelf left : List (Laid B)) (result : Result TwoSteps Want) → Idles f g a b → Steady g h b c
      → Performs telling g b c old new at order shelf left result → Performs telling f a c old new at order shelf left result
  performs_from f g h a b c old new at order shelf left (Ok steps) s t (inl k) = inl (k.0, (carried_from f g h a b c order shelf k.0 left s t k.1.0, k.1.1))
  performs_from f g h a b c old new at order shelf left (Ok steps) s t (inr k) =
      inr ((k.0.0, (k.0.1.0, (offered_from f g h a b c order k.0.1.0 shelf k.0.0 left s t k.0.1.1.0, k.0.1.1.1))), k.1)
  performs_from f g h a b c old new at order shelf left (Err e) s t (inl k) =
      inl (k.0, (⊎_elim (λ x. inl (given_up_from f g h a b c order shelf k.0 left s x)) (λ x. inr (unlaid_from f g h a b c order shelf k.0 left s t x)) k.1.0, k.1.1))
  performs_from f g h a b c old new at order shelf left (Err e) s t (inr k) = inr (k.0, (k.1.0, (offered_from f g h a b c order k.1.0 shelf k.0 left s t k.1.1.0, k.1.1.1)))

-- a container that was started, and initialised by the next call
pub initialised_from : {B S : Type 0} (f g h : Giving) (a b c : Tally) (order : RunOrder) (ready : Readiness B S) → Steady f g a b → Steady g h b c → Initialised g b c order ready → Initialised f a c order ready
initialised_from f g h a b c order (Up living) s t k = tt
initialised_from f g h a b c order (Early held reply) s t k = refused_from order.kind order.code reply s t k
initialised_from f g h a b c order (NotHad seen) s t k = k
initialised_from f g h a b c order NoMemory s t k = tt
