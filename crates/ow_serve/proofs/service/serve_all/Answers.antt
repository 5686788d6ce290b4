use denote.Param.Send.{sendable}
use Rattle.std.proofs.Common.{◌≡◌, ◌∙◌, ap, ap₂, inl, inr, subst, ⊎_elim}
use Rattle.ow_board.specs.Board.{view_of}
use Rattle.ow_desk.specs.Notes.{no_notes}
use Rattle.ow_serve.specs.Duties.{Ends}
use Rattle.ow_serve.specs.declared.duty.Work.TheVariants.{Serves}
use Rattle.ow_serve.specs.Ended.{BookBegins, Drains}
use Rattle.ow_serve.specs.Working.{AllWork, Outset, fresh_outset, outset}
use Rattle.ow_serve.proofs.Begun.{all_work}
use Rattle.ow_serve.proofs.Seating.{served_by}
use Rattle.ow_serve.proofs.Whole.{accepts_as, begins_not, closes_as, serves_by}
use Rattle.ow_serve.proofs.Crossing.{done_send, duty_send}
use Rattle.ow_serve.proofs.service.serve_all.Goals as goal

pub returns-in-Ok-clause-serves : goal.returns-in-Ok-clause-serves
returns-in-Ok-clause-serves g c =
    let H = c.args.service in
    let T = g.C.Clock.tells H.clock.value in
    let begun = c.begin_all.ensures.clock in
    let behind = c.accept_all-seats.ensures.clock in
    let accepted = accepts_as (λ (o : Outset) t k. (t.work ≡ Serves k) × (t.notes.notes ≡ no_notes) × (outset (g.C.Clock.tells t.clock.value) t.opened (view_of t.pass) ≡ o))
    g.K.Link.left g.K.Link.taken (λ d. d.notes.notes) (λ d. d.ending) _ (fresh_outset T H.opened) _ _ _ _ _ _ _ (ap₂ (λ a o. fresh_outset (g.C.Clock.tells a.value) o) begun.0 begun.1) c.accept_all-seats.ensures.accepted in
    let closes = closes_as _ T _ H.notes.notes
    (λ t d. Ends g.K.Link.left g.K.Link.taken g.R.Runner.gives g.R.Runner.tally (outset (g.C.Clock.tells t.clock.value) t.opened (view_of t.pass)) t.work t.notes.notes d.notes.notes d.ending d.runner)
    (λ d. d.notes.notes) (λ d. d.ending) c.started-first.result c.accept_all-seats.new.crew.tasks _ _ _ _ _ _ (ap (λ a. g.C.Clock.tells a.value) (behind.0 ∙ begun.0)) (c.accept_all-seats.ensures.notes ∙ c.begin_all.ensures.notes) c.close.ensures.closes in
    rw (← c.unwrap_or-most.ensures)
    (serves_by (Drains T H.notes.notes) g.K.Link.left g.K.Link.taken T (λ d. d.notes.notes) (λ d. d.ending)
    (λ t k. (t.work ≡ Serves k) × (t.notes.notes ≡ no_notes) × (outset (g.C.Clock.tells t.clock.value) t.opened (view_of t.pass) ≡ fresh_outset T H.opened))
    (λ t d. Ends g.K.Link.left g.K.Link.taken g.R.Runner.gives g.R.Runner.tally (outset (g.C.Clock.tells t.clock.value) t.opened (view_of t.pass)) t.work t.notes.notes d.notes.notes d.ending d.runner)
    (λ t k d mine e. served_by g.K.Link.left g.K.Link.taken g.R.Runner.gives g.R.Runner.tally (outset (g.C.Clock.tells t.clock.value) t.opened (view_of t.pass)) T H.opened t.work k t.notes.notes d.notes.notes d.ending d.runner mine.0 mine.1 mine.2 e)
    (AllWork g.R.Runner.gives g.R.Runner.tally (fresh_outset T H.opened) c.args.runners.items)
    _ _ _ _ _ _ _ _ _ _ _ _
    (λ os all. all_work g.K.Link.left g.K.Link.taken g.R.Runner.gives g.R.Runner.tally (λ d. d.notes.notes) (λ d. d.ending) (λ d. d.runner) (fresh_outset T H.opened) (λ t. t.work) (λ t. t.notes.notes) (λ t. outset (g.C.Clock.tells t.clock.value) t.opened (view_of t.pass)) _ _ _ os c.in-Ok.ensures.begins c.requires.fresh all)
    c.started-first.ensures accepted closes)

pub returns-in-Ok-clause-begins : goal.returns-in-Ok-clause-begins
returns-in-Ok-clause-begins g c =
    subst (λ n. BookBegins n c.close.result.end c.close.result.book) (c.accept_all-seats.ensures.notes ∙ c.begin_all.ensures.notes) c.close.ensures.begins

pub returns-in-Err-clause-begins : goal.returns-in-Err-clause-begins
returns-in-Err-clause-begins g c =
    begins_not c.args.service.notes.notes _ _ (⊎_elim (λ w. inl (c.nothing.ensures.end ∙ w)) (λ w. inr (c.nothing.ensures.end ∙ w.0)) c.in-Err.ensures.worker)

pub started-first-requires-send-T : goal.started-first-requires-send-T
started-first-requires-send-T g c κs within = search (sendable, duty_send, c.type_bounds)

pub started-first-requires-send-T-Done : goal.started-first-requires-send-T-Done
started-first-requires-send-T-Done g c κs within = search (sendable, done_send, c.type_bounds)
