use denote.Param.Send.{sendable}
use Rattle.std.proofs.Common.{◌≡◌, ◌++◌, ◌∷◌, [], length, inl, ap, ap₂, refl, sym, ◌∙◌, arith}
use Rattle.std.proofs.lemmas.List.{length-append}
use Rattle.ow_board.specs.Board.{view_of}
use Rattle.ow_desk.specs.Notes.{no_notes}
use Rattle.ow_serve.specs.declared.duty.Work.TheVariants.{Serves}
use Rattle.ow_serve.specs.Duties.{Ends}
use Rattle.ow_serve.specs.Working.{fresh_outset, outset}
use Rattle.ow_serve.proofs.Seating.{failed, no_more, one_came, seated_more, seated_none, seated_still, served_by}
use Rattle.ow_serve.proofs.Crossing.{done_send, duty_send}
use Rattle.ow_serve.proofs.accepting.accept_all.Goals as goal

pub loop-init : goal.loop-init
loop-init g c = record { seated = seated_none _ _ _ _ _ c.new-seats.ensures.items; notes = refl; clock = refl; opened = refl; count = ap length c.new-seats.ensures.items; later = omega arith }

pub returns-in-Ok-Closed-clause-accepted : goal.returns-in-Ok-Closed-clause-accepted
returns-in-Ok-Closed-clause-accepted g c =
    let over = no_more _ _ (rw c.in-Ok-Closed.field-0-is at c.in-Ok-Closed.ensures.told) in
    let count = c.loop.invariant.count in
    let below = c.loop-test.true in
    let same = ap length c.reserve.ensures.items in
    (seated_still _ _ _ _ _ _ _ _ _ over.0 c.reserve.ensures.items c.loop.invariant.seated, omega (arith, count, below, same), inl over.1)

pub returns-in-Err-clause-accepted : goal.returns-in-Err-clause-accepted
returns-in-Err-clause-accepted g c =
    let count = c.loop.invariant.count in
    let below = c.loop-test.true in
    let same = ap length c.reserve.ensures.items in
    (seated_still _ _ _ _ _ _ _ _ _ (failed _ _ _ c.in-Err.ensures.told) c.reserve.ensures.items c.loop.invariant.seated, omega (arith, count, below, same))

pub loop-preserved : goal.loop-preserved
loop-preserved g c =
    let put = c.push_reserved.ensures.items ∙ ap (λ z. z ++ c.in-Some.seat ∷ []) c.reserve.ensures.items in
    let before = c.loop.invariant in
    let H = c.args.service.now in
    let T = g.C.Clock.tells H.clock.value in
    let duty = c.in-Ok.ensures.duty in
    let begun = c.in-Ok.duty in
    let mine : (begun.work ≡ Serves c.in-Ok-Peer.link) × (begun.notes.notes ≡ no_notes) × (outset (g.C.Clock.tells begun.clock.value) begun.opened (view_of begun.pass) ≡ fresh_outset T H.opened) = (duty.0, duty.1, duty.2 ∙ ap₂ (λ a o. fresh_outset (g.C.Clock.tells a.value) o) before.clock before.opened) in
    record {
      seated = seated_more _ _ (λ t d. Ends g.K.Link.left g.K.Link.taken g.R.Runner.gives g.R.Runner.tally (outset (g.C.Clock.tells t.clock.value) t.opened (view_of t.pass)) t.work t.notes.notes d.notes.notes d.ending d.runner)
          (λ t k d mine e. served_by g.K.Link.left g.K.Link.taken g.R.Runner.gives g.R.Runner.tally (outset (g.C.Clock.tells t.clock.value) t.opened (view_of t.pass)) T H.opened t.work k t.notes.notes d.notes.notes d.ending d.runner mine.0 mine.1 mine.2 e)
          _ _ _ _ _ _ _ _ _ _ c.in-Ok.duty c.in-Ok-Peer.link c.begin.result c.in-Some.seat
          (one_came _ _ c.in-Ok-Peer.link (rw c.in-Ok-Peer.field-0-is at c.in-Ok-Peer.ensures.told)) mine c.begin.ensures (sym c.seat_of.ensures ∙ c.in-Some.is) put before.seated;
      notes = c.duty.ensures.notes ∙ before.notes;
      clock = c.duty.ensures.clock.0 ∙ before.clock;
      opened = c.duty.ensures.clock.1 ∙ before.opened;
      count = (let longer = ap length put in let one = length-append c.loop.seats.items (c.in-Some.seat ∷ []) in let count = before.count in omega (arith, longer, one, count));
      later = (let old = before.later in let now = c.in-Ok-Peer.ensures.cause.later in omega (arith, old, now));
    }

pub begin-requires-send-T : goal.begin-requires-send-T
begin-requires-send-T g c κs within = search (sendable, duty_send, c.type_bounds)

pub begin-requires-send-T-Done : goal.begin-requires-send-T-Done
begin-requires-send-T-Done g c κs within = search (sendable, done_send, c.type_bounds)
