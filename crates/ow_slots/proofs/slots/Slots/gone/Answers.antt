use Rattle.std.proofs.Common.{length, arith, sym, ap}
use Rattle.ow_slots.specs.State.{after_gone}
use Rattle.ow_slots.proofs.Changes.{change_past, changed_at, found_at}
use Rattle.ow_slots.proofs.slots.Slots.gone.Goals as goal

pub returns-then-place-len-clause-slots : goal.returns-then-place-len-clause-slots
returns-then-place-len-clause-slots c =
    let len = ap length c.self.view_is in
    sym (change_past c.args.slot (after_gone c.args.generation) c.args.self.now (omega (arith, len, c.len.ensures, c.if-place-len.true)))

pub returns-clause-slots : goal.returns-clause-slots
returns-clause-slots c =
    let len = ap length c.self.view_is in
    changed_at c.args.slot (after_gone c.args.generation) c.self.inside.slots.items c.args.self.now c.index_mut.result.now c.go.new.self
    (omega (arith, len, c.len.ensures, c.if-place-len.false)) c.self.view_is c.index_mut.ensures.value c.go.ensures.slot

pub returns-clause-answer : goal.returns-clause-answer
returns-clause-answer c =
    let len = ap length c.self.view_is in
    let found = found_at c.args.slot c.self.inside.slots.items c.args.self.now c.index_mut.result.now (omega (arith, len, c.len.ensures, c.if-place-len.false)) c.self.view_is c.index_mut.ensures.value in
    rw found c.go.ensures.answer
