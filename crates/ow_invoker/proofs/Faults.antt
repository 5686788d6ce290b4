-- The store's count of faults doesn't fall, whatever the outcome of an event.
use Rattle.std.proofs.Common.{◌≡◌, ◌≤◌, ℕ, List, [], ◌∷◌, ap, arith, inl, inr}
use Rattle.ow_traits.specs.Telling.{Telling}
use Rattle.ow_decide.specs.Decision.{commits}
use Rattle.ow_decide.specs.declared.events.Event.{Event}
use Rattle.ow_hall.specs.Comes.{Answers, Comes, Fails, HallView, Outcome, Wants, decided}
use Rattle.ow_hall.proofs.Faults.{holds_later, stays_later}
use Rattle.ow_invoker.specs.Turns.{Chain, ChainTo, ChainUndone, Exchange}

module _ {P : Type 0} (telling : P → Telling) where
  pub comes_later : (old new : HallView P) (at : ℕ) (event : Event) (o : Outcome) → Comes telling old new at event o → (telling old.store).faults ≤ (telling new.store).faults
  comes_later old new at event (Answers t) comes = holds_later telling (commits (decided old at event)) old.store new.store comes.3
  comes_later old new at event Wants comes = stays_later telling (commits (decided old at event)) old.store new.store comes.2
  comes_later old new at event Fails comes = comes.3.later

  pub chain_later : (old new : HallView P) (at : ℕ) (xs : List Exchange) → Chain telling old new at xs → (telling old.store).faults ≤ (telling new.store).faults
  chain_later old new at [] same = let e : (telling new.store).faults ≡ (telling old.store).faults = ap (λ (h : HallView P). (telling h.store).faults) same in omega arith
  chain_later old new at (x ∷ xs) chain =
      let first = comes_later old chain.0 at x.event (Answers x.answer) chain.1.0 in
      let rest = chain_later chain.0 new at xs chain.1.1 in
      omega (arith, first, rest)

  pub chain_to_later : (old new : HallView P) (at : ℕ) (xs : List Exchange) (event : Event) (o : Outcome) → ChainTo telling old new at xs event o → (telling old.store).faults ≤ (telling new.store).faults
  chain_to_later old new at xs event o chain =
      let first = chain_later old chain.0 at xs chain.1.0 in
      let last = comes_later chain.0 new at event o chain.1.1 in
      omega (arith, first, last)

  pub undone_later : (old new : HallView P) (at : ℕ) (xs : List Exchange) (event : Event) → ChainUndone telling old new at xs event → (telling old.store).faults ≤ (telling new.store).faults
  undone_later old new at xs event (inl wanted) = chain_to_later old new at xs event Wants wanted
  undone_later old new at xs event (inr failed) = chain_to_later old new at xs event Fails failed
