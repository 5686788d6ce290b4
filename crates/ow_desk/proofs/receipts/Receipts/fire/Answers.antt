use Rattle.std.proofs.Common.{◌≡◌, Result, Ok, Err, refl, rules, sym, subst}
use Rattle.ow_http.specs.declared.reason.Reason.{Reason}
use Rattle.ow_row_text.specs.declared.item.Note.{Note}
use Rattle.ow_commits.specs.Kept.{OthersView}
use Rattle.ow_decide.specs.declared.events.Event.TheVariants as events
use Rattle.ow_decide.specs.declared.events.Told.{Told}
use Rattle.ow_decide.specs.declared.events.Told.TheVariants as told
use Rattle.ow_decide.specs.declared.replies.Fired.{Fired}
use Rattle.ow_decide.specs.declared.replies.Fired.TheVariants as fires
use Rattle.ow_decide.specs.OfficeFiring.{Shot, fired_told, office_decision, office_shot}
use Rattle.ow_hall.specs.Comes.{IsFired, Outcome, Wants, at_hall}
use Rattle.ow_hall.specs.History.{counted, seen, sight}
use Rattle.ow_desk.specs.Desks.{IsReceived}
use Rattle.ow_desk.proofs.Received.{fired_was_called, nothing_received, was_called}
use Rattle.ow_desk.proofs.receipts.Receipts.fire.Goals as goal

-- the answer to a fire of the office is a `Fired`
fire_told : (o : OthersView) (note : Note) (r : Result Shot Reason) → (x : Fired) × ((office_decision o note r).told ≡ told.Fired x)
fire_told o note (Ok shot) = (fired_told shot.id, refl)
fire_told o note (Err reason) = (fires.Refused reason, refl)

pub fired_in-requires : goal.fired_in-requires
fired_in-requires g c =
    let h = c.args.desk.now.hall in
    let S = sight h.tenants (seen h.tenants h.ledger.entries) (counted h.ledger.entries) (at_hall h c.args.at) in
    subst (λ (t : Told). (x : Fired) × (t ≡ told.Fired x)) (sym c.in-Ok-perform.ensures.received.comes.0)
    (fire_told S.others c.in-Ok.note (office_shot S c.in-Ok.trigger c.args.params c.in-Ok.note))

pub returns-in_default-clause-called : goal.returns-in_default-clause-called
returns-in_default-clause-called g c =
    let event = events.Fired c.args.trigger.now c.args.params c.args.note.now in (
      Wants,
      refl,
      was_called g.P.Keeper.telling c.args.desk.now c.args.desk.now c.args.at event Wants c.args.self.now.notes c.args.self.now.notes
          (nothing_received g.P.Keeper.telling c.args.desk.now c.args.at event c.args.self.now.notes c.args.self.now.notes refl),
    )

pub returns-then-failed-clause-called : goal.returns-then-failed-clause-called
returns-then-failed-clause-called g c =
    let event = events.Fired c.args.trigger.now c.args.params c.args.note.now in
    let received : (o : Outcome) × IsFired (Ok c.store_fired.result) o × IsReceived g.P.Keeper.telling c.args.desk.now c.perform.new.desk c.args.at event o c.args.self.now.notes c.perform.new.self.notes = search rules in
    fired_was_called g.P.Keeper.telling c.args.desk.now c.perform.new.desk c.args.at event (Ok c.store_fired.result) c.args.self.now.notes c.perform.new.self.notes received

pub returns-else-failed-clause-called : goal.returns-else-failed-clause-called
returns-else-failed-clause-called g c =
    let event = events.Fired c.args.trigger.now c.args.params c.args.note.now in
    let received : IsReceived g.P.Keeper.telling c.args.desk.now c.perform.new.desk c.args.at event Wants c.args.self.now.notes c.perform.new.self.notes = search rules in
    (Wants, refl, was_called g.P.Keeper.telling c.args.desk.now c.perform.new.desk c.args.at event Wants c.args.self.now.notes c.perform.new.self.notes received)
