-- The book tallies no more faults of the store than calls of it have failed.
use Rattle.std.proofs.Common.{arith, ◌≡◌, ◌+◌, ◌==◌, ◌<◌, ◌≤◌, ℕ, Bool, true, false, cond, ap, refl}
use Rattle.ow_traits.specs.Telling.{Telling}
use Rattle.ow_decide.specs.Decision.{commits}
use Rattle.ow_decide.specs.declared.events.Event.{Event}
use Rattle.ow_hall.specs.declared.entry.Entry.{Entry}
use Rattle.ow_hall.specs.declared.posting.Posting.{Posting}
use Rattle.ow_hall.specs.declared.posting.Posting.TheVariants.{Booked, Quiet, Denied, Unbooked}
use Rattle.ow_hall.specs.Comes.{Answers, Comes, Fails, HallView, Outcome, Wants, at_hall, decided}
use Rattle.ow_hall.specs.History.{posting}
use Rattle.ow_hall.specs.Ledger.{Ledger, one_more, posted_as}
use Rattle.ow_hall.proofs.Faults.{holds_later, stays_later}
use Rattle.ow_desk.specs.Desks.{IsWithinFaults}

one_by : (b : Bool) (n : ℕ) → cond b n (n + 1) ≤ n + 1
one_by true n = omega arith
one_by false n = omega arith

one_at_most : (n : ℕ) → one_more n ≤ n + 1
unfolding one_more
one_at_most n = one_by (n == 18446744073709551615) n

stored_stays : (p : Posting) (e : Entry) (L : Ledger) → (posted_as p e L).stored ≡ L.stored
stored_stays Booked e L = refl
stored_stays Quiet e L = refl
stored_stays Denied e L = refl
stored_stays Unbooked e L = refl

module _ {P : Type 0} (telling : P → Telling) where
  -- whatever comes of an event
  pub still_within : (old new : HallView P) (at since before : ℕ) (event : Event) (o : Outcome) → Comes telling old new at event o
      → IsWithinFaults (telling old.store).faults since old.ledger.stored before → IsWithinFaults (telling new.store).faults since new.ledger.stored before
  still_within old new at since before event (Answers t) comes within less =
      let later = holds_later telling (commits (decided old at event)) old.store new.store comes.3 in
      let same = ap (λ (l : Ledger). l.stored) comes.1 in
      let stays = stored_stays (posting old.ledger.entries t) (record { at = at_hall old at; event = event; answer = t }) old.ledger in
      let so = within (omega (arith, later, less)) in
      omega (arith, later, same, stays, so)
  still_within old new at since before event Wants comes within less =
      let later = stays_later telling (commits (decided old at event)) old.store new.store comes.2 in
      let same = ap (λ (l : Ledger). l.stored) comes.0 in
      let so = within (omega (arith, later, less)) in
      omega (arith, later, same, so)
  still_within old new at since before event Fails comes within less =
      let later = comes.3.later in
      let same = ap (λ (l : Ledger). l.stored) comes.1 in
      let most = one_at_most old.ledger.stored in
      let before_less : (telling old.store).faults < 18446744073709551615 = omega (arith, later, less) in
      let rose = comes.4 before_less in
      let so = within before_less in
      omega (arith, rose, same, most, so)

  -- the office table stays
  pub same_tenants : (old new : HallView P) (at : ℕ) (event : Event) (o : Outcome) → Comes telling old new at event o → new.tenants ≡ old.tenants
  same_tenants old new at event (Answers t) comes = comes.2
  same_tenants old new at event Wants comes = comes.1
  same_tenants old new at event Fails comes = comes.2
