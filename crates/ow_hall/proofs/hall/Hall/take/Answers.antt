use Rattle.std.proofs.Common.{◌≡◌, ◌∙◌, ◌++◌, ◌≤◌, ◌+◌, ℕ, refl, sym, ap, subst, arith}
use Rattle.ow_floor.specs.Owed.{owed}
use Rattle.ow_decide.specs.Decisions.{taken_told}
use Rattle.ow_decide.specs.declared.events.Told.{Told}
use Rattle.ow_decide.specs.declared.step.Now.{Now}
use Rattle.ow_decide.specs.Decision.{commits}
use Rattle.ow_hall.specs.Comes.{HallView, Holds, HoldsBook, at_hall, decided}
use Rattle.ow_hall.specs.History.{answer, decision, moment, posting, seen}
use Rattle.ow_hall.specs.Ledger.{HasRoom, IsReady, Ledger, cost, posted}
use Rattle.ow_hall.specs.declared.posting.Posting.TheVariants.{Booked}
use Rattle.ow_hall.specs.State.{Keeps}
use Rattle.ow_hall.proofs.HallLaws.{held_posted, later_free, takes}
use Rattle.ow_hall.proofs.KeepLaws.{free_commits, holds_none, kept_none}
use Rattle.ow_hall.proofs.RoomLaws.{ready_alone, room_left, taken_ready}
use Rattle.ow_hall.proofs.hall.Hall.take.Goals as goal

pub post-requires : goal.post-requires
post-requires g c =
    let t = c.self.inside.tenants in
    let L = c.self.inside.book.ledger in
    let event = c.args.event in
    let at = c.moment.result in
    let taken = c.take-taken.result in
    let room = c.self.inside.book.room in
    let now : Now = record { counted = c.counted.result; at = at } in
    let both = takes t L c.self.inside.state c.take-taken.new.self now event taken c.args.at c.self.invariant.0 c.counted.ensures c.moment.ensures c.requires
    c.take-taken.ensures.free (c.take-taken.ensures.ok t) c.take-taken.ensures.rest c.take-taken.ensures.counts c.take-taken.ensures.keeping c.take-taken.ensures.others in
    let n = owed ((decision t L.entries at event).items ++ (seen t L.entries).trace) in
    subst (λ (x : Told). posting L.entries x ≡ Booked → IsReady L.entries room 0 event x 0) (sym c.taken_told.ensures)
    (λ booked. ready_alone L.entries room n 0 event (taken_told taken) (taken_ready t L at room event taken c.self.invariant.1 c.requires both.0 booked))

pub invariant_of-self : goal.invariant_of-self
invariant_of-self g c =
    let t = c.self.inside.tenants in
    let L = c.self.inside.book.ledger in
    let event = c.args.event in
    let at = c.moment.result in
    let taken = c.take-taken.result in
    let told = taken_told taken in
    let room = c.self.inside.book.room in
    let now : Now = record { counted = c.counted.result; at = at } in
    let both = takes t L c.self.inside.state c.take-taken.new.self now event taken c.args.at c.self.invariant.0 c.counted.ensures c.moment.ensures c.requires
    c.take-taken.ensures.free (c.take-taken.ensures.ok t) c.take-taken.ensures.rest c.take-taken.ensures.counts c.take-taken.ensures.keeping c.take-taken.ensures.others in
    let made = c.post.ensures.ledger ∙ ap (posted L at event) c.taken_told.ensures in
    let used = subst (λ (x : Told). room ≤ c.post.new.self.room + cost (posting L.entries x)) c.taken_told.ensures c.post.ensures.room in
    let n = owed ((decision t L.entries at event).items ++ (seen t L.entries).trace) in
    let has = room_left t L at room room c.post.new.self.room n 0 event told c.self.invariant.1 (omega arith) used
    (taken_ready t L at room event taken c.self.invariant.1 c.requires both.0) refl in (
      subst (λ (l : Ledger). Keeps c.take-taken.new.self t l) (sym made) both.1,
      subst (λ (l : Ledger). HasRoom (seen t l.entries).trace l c.post.new.self.room) (sym made) has,
      subst (λ (l : Ledger). HoldsBook (g.P.Keeper.telling c.self.inside.store).rows t l) (sym made)
          (held_posted (g.P.Keeper.telling c.self.inside.store).rows (g.P.Keeper.telling c.self.inside.store).rows t L c.self.inside.state at event told (later_free event c.requires) c.self.invariant.0 both.2 both.0
          (kept_none (g.P.Keeper.telling c.self.inside.store).rows (commits (decision t L.entries at event)) (free_commits t L at event c.requires)) c.self.invariant.2),
    )

pub returns : goal.returns
returns g c =
    let t = c.self.inside.tenants in
    let L = c.self.inside.book.ledger in
    let event = c.args.event in
    let at = c.moment.result in
    let taken = c.take-taken.result in
    let told = taken_told taken in
    let now : Now = record { counted = c.counted.result; at = at } in
    let both = takes t L c.self.inside.state c.take-taken.new.self now event taken c.args.at c.self.invariant.0 c.counted.ensures c.moment.ensures c.requires
    c.take-taken.ensures.free (c.take-taken.ensures.ok t) c.take-taken.ensures.rest c.take-taken.ensures.counts c.take-taken.ensures.keeping c.take-taken.ensures.others in
    subst (λ (h : HallView _). (told ≡ answer h.tenants h.ledger.entries (at_hall h c.args.at) event) × (c.post.new.self.ledger ≡ posted h.ledger (at_hall h c.args.at) event told) × (t ≡ h.tenants) × Holds g.P.Keeper.telling (commits (decided h c.args.at event)) h.store c.self.inside.store)
    c.self.view_is (
      subst (λ (m : ℕ). told ≡ answer t L.entries m event) c.moment.ensures both.0,
      c.post.ensures.ledger ∙ (ap (posted L at event) c.taken_told.ensures ∙ ap (λ (m : ℕ). posted L m event told) c.moment.ensures),
      refl,
      holds_none g.P.Keeper.telling (commits (decision t L.entries (moment L.entries c.args.at) event)) c.self.inside.store (free_commits t L (moment L.entries c.args.at) event c.requires),
    )
