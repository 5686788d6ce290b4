use Rattle.std.proofs.Common.{◌≡◌, ◌∙◌, ◌++◌, ◌≤◌, ℕ, Bool, refl, sym, ap, subst}
use Rattle.ow_counts.specs.View.{CountsView, HasRoomForMoves, StandsFor, notes_of}
use Rattle.ow_decide.specs.Decision.{all_changed, commits, held as held_items}
use Rattle.ow_commits.specs.Keeping.{KeepingView}
use Rattle.ow_floor.specs.Owed.{owed}
use Rattle.ow_floor.specs.View.{FloorView}
use Rattle.ow_decide.specs.declared.step.Now.{Now}
use Rattle.ow_hall.specs.Commits.{changes_in, is_fault, uncommitted}
use Rattle.ow_hall.specs.Performing.{undone}
use Rattle.ow_hall.proofs.UndoneLaws.{undone_comes}
use Rattle.ow_hall.specs.Comes.{Comes, HallView, Holds, HoldsBook, Stays, at_hall, decided}
use Rattle.ow_keep.specs.declared.allowed.TheConstants.{GREATEST_MOMENT}
use Rattle.ow_hall.specs.History.{answer, counted, decision, last_moment, moment, seen, sight, waits_after}
use Rattle.ow_hall.specs.Ledger.{HasRoom, Ledger, posted}
use Rattle.ow_decide.specs.Making.{changes_of}
use Rattle.ow_hall.specs.State.{Keeps, floor_kept, kept_with, others_kept}
use Rattle.ow_hall.proofs.Archiving.{archived_owed}
use Rattle.ow_hall.proofs.HallLaws.{answers, held_posted, not_after, not_before, noted, step_at}
use Rattle.ow_hall.proofs.KeepLaws.{committed, held, stays_same, step_commits}
use Rattle.ow_hall.proofs.RoomLaws.{ready_for, room_left, used_for}
use Rattle.ow_hall.proofs.hall.Hall.perform.Goals as goal

pub note_moves-requires : goal.note_moves-requires
note_moves-requires g c =
    subst (λ (v : CountsView). HasRoomForMoves c.in-Ok.step.moves v) (sym (c.apply.ensures.counts ∙ c.settle-2.ensures.counts)) c.in-Ok.ensures.counter

pub change_others-requires-clause-free : goal.change_others-requires-clause-free
change_others-requires-clause-free g c =
    ap (λ (f : FloorView). f.before) (c.follow.ensures.floor ∙ (c.note_moves.ensures.floor ∙ c.apply.ensures.floor)) ∙ c.settle-2.ensures.free

pub change_others-requires-clause-room : goal.change_others-requires-clause-room
change_others-requires-clause-room g c =
    subst (λ (n : ℕ). 1 ≤ n) (sym (c.follow.ensures.room ∙ (c.note_moves.ensures.room ∙ (c.apply.ensures.room ∙ c.settle-2.ensures.room.2)))) c.in-Ok.ensures.room.1

pub post-requires : goal.post-requires
post-requires g c =
    let t = c.self.inside.tenants in
    let L = c.self.inside.book.ledger in
    let now : Now = record { counted = c.counted.result; at = c.moment.result } in
    let late : last_moment L.entries ≤ now.at = rw c.moment.ensures (not_before L.entries c.args.at) in
    let done = step_at t L.entries c.self.inside.state c.attempt.new.self.floor.now now c.args.event c.in-Ok.step c.self.invariant.0.legal.answered late
    c.self.invariant.0.stands c.counted.ensures c.in-Ok.ensures.ok in
    let T = held_items (decision t L.entries c.moment.result c.args.event) ++ (seen t L.entries).trace in
    ready_for L c.prepare.new.book.ledger c.prepare.new.book.room (owed T) c.in-Ok-prepare.bytes c.args.event c.in-Ok.step.told c.in-Ok-prepare.copied
    c.in-Ok-prepare.ensures.ledger c.in-Ok-prepare.ensures.told (c.in-Ok-prepare.ensures.ready T done.1)

pub invariant_of-self-2 : goal.invariant_of-self-2
invariant_of-self-2 g c =
    let t = c.self.inside.tenants in
    let L = c.self.inside.book.ledger in
    let old = c.self.inside.state in
    let mid = c.attempt.new.self in
    let put = c.apply.new.self in
    let new = c.change_others.new.self in
    let step = c.in-Ok.step in
    let event = c.args.event in
    let at = c.moment.result in
    let now : Now = record { counted = c.counted.result; at = c.moment.result } in
    let late : last_moment L.entries ≤ at = rw c.moment.ensures (not_before L.entries c.args.at) in
    let most : at ≤ GREATEST_MOMENT = rw c.moment.ensures (not_after t L.entries c.args.at c.self.invariant.0.legal) in
    let done = step_at t L.entries old mid.floor.now now event step c.self.invariant.0.legal.answered late c.self.invariant.0.stands c.counted.ensures c.in-Ok.ensures.ok in
    let S = sight t (seen t L.entries) (counted L.entries) at in
    let T = held_items (decision t L.entries at event) ++ (seen t L.entries).trace in
    let U = (decision t L.entries at event).items ++ (seen t L.entries).trace in
    let made = ap (λ (f : FloorView). f.now) c.apply.ensures.floor ∙ c.settle-2.ensures.kept refl in
    let floor = c.change_others.ensures.floor ∙ ap (floor_kept step.others) (ap (λ (f : FloorView). f.now) (c.follow.ensures.floor ∙ c.note_moves.ensures.floor) ∙ made) in
    let rows = c.change_others.ensures.rest.0 ∙ (c.follow.ensures.rest.0 ∙ (c.note_moves.ensures.rest.0 ∙ (c.apply.ensures.rows ∙ ap (all_changed (changes_of step.change)) (c.settle-2.ensures.rest.0 ∙ c.in-Ok.ensures.rest.0)))) in
    let waits = c.change_others.ensures.rest.1 ∙ (c.follow.ensures.rest.1 ∙ (c.note_moves.ensures.rest.1 ∙ (c.apply.ensures.waits ∙ ap (waits_after step.waits) (c.settle-2.ensures.rest.1 ∙ c.in-Ok.ensures.rest.1)))) in
    let noted_so = noted t L old mid put c.note_moves.new.self now event step c.self.invariant.0 c.requires.unopened late done c.in-Ok.ensures.counts
    (c.apply.ensures.counts ∙ c.settle-2.ensures.counts) c.note_moves.ensures.counts in
    let counts = subst (λ (v : CountsView). StandsFor v (notes_of U)) (sym (c.change_others.ensures.counts ∙ c.follow.ensures.counts)) noted_so in
    let kept : new.keeping ≡ kept_with step.commit old.keeping = c.change_others.ensures.keeping ∙ (c.follow.ensures.keeping
    ∙ ap (λ (v : KeepingView). kept_with step.commit v) (c.note_moves.ensures.keeping ∙ (c.apply.ensures.keeping ∙ (c.settle-2.ensures.keeping ∙ c.in-Ok.ensures.keeping)))) in
    let others : new.others ≡ others_kept step.others old.others = c.change_others.ensures.others
    ∙ ap (others_kept step.others) (c.follow.ensures.others ∙ (c.note_moves.ensures.others ∙ (c.apply.ensures.others ∙ (c.settle-2.ensures.others ∙ c.in-Ok.ensures.others)))) in
    let both = answers t L old new mid.floor.now at event step c.self.invariant.0 late most c.requires.unopened c.requires.given c.change_others.ensures.free done floor rows waits counts kept others in
    let post = c.post.ensures.ledger ∙ (ap (λ (l : Ledger). posted l at event c.in-Ok-prepare.copied) c.in-Ok-prepare.ensures.ledger
    ∙ ap (posted L at event) c.in-Ok-prepare.ensures.told) in
    let used = used_for L c.prepare.new.book.ledger c.prepare.new.book.room c.post.new.self.room step.told c.in-Ok-prepare.copied
    c.in-Ok-prepare.ensures.ledger c.in-Ok-prepare.ensures.told c.post.ensures.room in
    let room = room_left t L at c.self.inside.book.room c.prepare.new.book.room c.post.new.self.room (owed T) c.in-Ok-prepare.bytes event step.told
    c.self.invariant.1 c.in-Ok-prepare.ensures.keeps used (c.in-Ok-prepare.ensures.ready T done.1) (archived_owed S event c.requires.unopened) in
    let store = committed g.P.Keeper.telling (changes_in step.commit) (commits (decision t L.entries at event)) c.self.inside.store c.commit.new.store
    (step_commits step.commit step.others (decision t L.entries at event) S done.0.commit done.0.others) c.in_default-commit.ensures in
    let holds = held_posted (g.P.Keeper.telling c.self.inside.store).rows (g.P.Keeper.telling c.commit.new.store).rows t L old at event step.told c.requires.unopened c.self.invariant.0
    both.2 both.0 (held g.P.Keeper.telling (commits (decision t L.entries at event)) c.self.inside.store c.commit.new.store store) c.self.invariant.2 in (
      subst (λ (l : Ledger). Keeps new t l) (sym post) both.1,
      subst (λ (l : Ledger). HasRoom (seen t l.entries).trace l c.post.new.self.room) (sym post) room,
      subst (λ (l : Ledger). HoldsBook (g.P.Keeper.telling c.commit.new.store).rows t l) (sym post) holds,
    )

pub returns-clause-comes : goal.returns-clause-comes
returns-clause-comes g c =
    let t = c.self.inside.tenants in
    let L = c.self.inside.book.ledger in
    let told = c.in-Ok.step.told in
    let event = c.args.event in
    let at = c.moment.result in
    let now : Now = record { counted = c.counted.result; at = c.moment.result } in
    let late : last_moment L.entries ≤ at = rw c.moment.ensures (not_before L.entries c.args.at) in
    let done = step_at t L.entries c.self.inside.state c.attempt.new.self.floor.now now event c.in-Ok.step c.self.invariant.0.legal.answered late
    c.self.invariant.0.stands c.counted.ensures c.in-Ok.ensures.ok in
    let post = c.post.ensures.ledger ∙ (ap (λ (l : Ledger). posted l at event c.in-Ok-prepare.copied) c.in-Ok-prepare.ensures.ledger
    ∙ ap (posted L at event) c.in-Ok-prepare.ensures.told) in
    let S = sight t (seen t L.entries) (counted L.entries) at in
    let store = committed g.P.Keeper.telling (changes_in c.in-Ok.step.commit) (commits (decision t L.entries at event)) c.self.inside.store c.commit.new.store
    (step_commits c.in-Ok.step.commit c.in-Ok.step.others (decision t L.entries at event) S done.0.commit done.0.others) c.in_default-commit.ensures in
    subst (λ (h : HallView _). (told ≡ answer h.tenants h.ledger.entries (at_hall h c.args.at) event) × (c.post.new.self.ledger ≡ posted h.ledger (at_hall h c.args.at) event told) × (t ≡ h.tenants)
    × Holds g.P.Keeper.telling (commits (decided h c.args.at event)) h.store c.commit.new.store)
    c.self.view_is (
      subst (λ (m : ℕ). told ≡ answer t L.entries m event) c.moment.ensures done.0.told,
      post ∙ ap (λ (m : ℕ). posted L m event told) c.moment.ensures,
      refl,
      subst (λ (m : ℕ). Holds g.P.Keeper.telling (commits (decision t L.entries m event)) c.self.inside.store c.commit.new.store) c.moment.ensures store,
    )

pub returns-in_default-clause-comes : goal.returns-in_default-clause-comes
returns-in_default-clause-comes g c =
    let t = c.self.inside.tenants in
    let L = c.self.inside.book.ledger in
    subst (λ (h : HallView _). (L ≡ h.ledger) × (t ≡ h.tenants) × Stays g.P.Keeper.telling (commits (decided h c.args.at c.args.event)) h.store c.self.inside.store)
    c.self.view_is (refl, refl, stays_same g.P.Keeper.telling (commits (decision t L.entries (moment L.entries c.args.at) c.args.event)) c.self.inside.store)

pub returns-in_default-prepare-clause-comes : goal.returns-in_default-prepare-clause-comes
returns-in_default-prepare-clause-comes g c =
    let t = c.self.inside.tenants in
    let L = c.self.inside.book.ledger in
    subst (λ (h : HallView _). (c.prepare.new.book.ledger ≡ h.ledger) × (t ≡ h.tenants) × Stays g.P.Keeper.telling (commits (decided h c.args.at c.args.event)) h.store c.self.inside.store)
    c.self.view_is (c.prepare.ensures.ledger, refl, stays_same g.P.Keeper.telling (commits (decision t L.entries (moment L.entries c.args.at) c.args.event)) c.self.inside.store)

pub returns-in-Err-clause-comes : goal.returns-in-Err-clause-comes
returns-in-Err-clause-comes g c =
    let t = c.self.inside.tenants in
    let L = c.self.inside.book.ledger in
    let event = c.args.event in
    let error = c.in-Err.error in
    let now : Now = record { counted = c.counted.result; at = c.moment.result } in
    let late : last_moment L.entries ≤ now.at = rw c.moment.ensures (not_before L.entries c.args.at) in
    let done = step_at t L.entries c.self.inside.state c.attempt.new.self.floor.now now event c.in-Ok.step c.self.invariant.0.legal.answered late
    c.self.invariant.0.stands c.counted.ensures c.in-Ok.ensures.ok in
    let S = sight t (seen t L.entries) (counted L.entries) now.at in
    let made = step_commits c.in-Ok.step.commit c.in-Ok.step.others (decision t L.entries now.at event) S done.0.commit done.0.others ∙ ap (λ (m : ℕ). commits (decision t L.entries m event)) c.moment.ensures in
    let ledger = c.note_uncommitted-failed.ensures.ledger ∙ ap (uncommitted error) c.prepare.ensures.ledger in
    subst (λ (b : Bool). Comes g.P.Keeper.telling c.args.self.now (record { tenants = t; ledger = c.note_uncommitted-failed.new.self.ledger; store = c.commit.new.store }) c.args.at event (undone b))
    (sym c.note_uncommitted-failed.ensures.failed)
    (subst (λ (h : HallView _). Comes g.P.Keeper.telling h (record { tenants = t; ledger = c.note_uncommitted-failed.new.self.ledger; store = c.commit.new.store }) c.args.at event (undone (is_fault error)))
    c.self.view_is
    (undone_comes g.P.Keeper.telling (record { tenants = t; ledger = L; store = c.self.inside.store })
    (record { tenants = t; ledger = c.note_uncommitted-failed.new.self.ledger; store = c.commit.new.store }) c.args.at event (changes_in c.in-Ok.step.commit) error made c.in-Err.ensures ledger refl))
