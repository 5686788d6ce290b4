use Rattle.std.proofs.Common.{◌≡◌, ◌+◌, ◌-◌, ℕ, length, refl, subst, arith}
use Rattle.ow_counts.specs.View.{HasRoomOver}
use Rattle.ow_counts.proofs.Moving.{last_noted, next_noted, next_room, next_roomy, rooms_moved}
use Rattle.ow_counts.proofs.moves.note_all.Goals as goal

pub note-requires : goal.note-requires
note-requires c =
    let now = next_roomy c.args.moves.now c.loop-moved.moved-index c.moved-item.result c.loop-moved.counts c.loop-moved-test.true c.moved-item.is c.loop-moved.invariant.room in
    record { room = now.0; counter = now.1 }

pub loop-moved-init : goal.loop-moved-init
loop-moved-init c =
    let all : length c.args.moves.now ≡ length c.args.moves.now - 0 = omega arith in
    record { room = subst (λ (n : ℕ). HasRoomOver n c.args.moves.now c.args.counts.now) all c.requires; noted = λ ns may h. (ns, (h, may, refl)) }

pub loop-moved-preserved : goal.loop-moved-preserved
loop-moved-preserved c =
    let old = c.loop-moved.counts in
    let new = c.note.new.counts in
    record {
      room = next_room c.args.moves.now c.loop-moved.moved-index c.moved-item.result old new c.loop-moved-test.true c.moved-item.is
          (λ k x h. rooms_moved old new (k + 1) k (λ name r. c.note.ensures.room name k r) x h) c.note.ensures.busy c.loop-moved.invariant.room;
      noted = next_noted c.args.moves.now c.loop-moved.moved-index c.moved-item.result c.args.counts.now old new c.loop-moved-test.true c.moved-item.is c.loop-moved.invariant.noted c.note.ensures.notes;
    }

pub returns : goal.returns
returns c ns may h = last_noted c.args.moves.now c.loop-moved.moved-index c.args.counts.now c.loop-moved.counts (omega arith) c.loop-moved.invariant.noted ns may h
