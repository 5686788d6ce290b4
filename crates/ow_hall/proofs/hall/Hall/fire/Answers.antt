use Rattle.std.proofs.Common.{◌≡◌, Result, Ok, Err, refl, sym, subst}
use Rattle.ow_http.specs.declared.reason.Reason.{Reason}
use Rattle.ow_row_text.specs.declared.item.Note.{Note}
use Rattle.ow_commits.specs.Kept.{OthersView}
use Rattle.ow_decide.specs.declared.events.Told.{Told}
use Rattle.ow_decide.specs.declared.events.Told.TheVariants as told
use Rattle.ow_decide.specs.declared.replies.Fired.{Fired}
use Rattle.ow_decide.specs.declared.replies.Fired.TheVariants as fires
use Rattle.ow_decide.specs.OfficeFiring.{Shot, fired_told, office_decision, office_shot}
use Rattle.ow_decide.specs.Decision.{commits}
use Rattle.ow_decide.specs.declared.events.Event.TheVariants as events
use Rattle.ow_hall.specs.Comes.{Wants, at_hall, decided}
use Rattle.ow_hall.specs.History.{counted, seen, sight}
use Rattle.ow_hall.proofs.KeepLaws.{stays_same}
use Rattle.ow_hall.proofs.hall.Hall.fire.Goals as goal

-- the answer to a fire of the office is a `Fired`
fire_told : (o : OthersView) (note : Note) (r : Result Shot Reason) → (x : Fired) × ((office_decision o note r).told ≡ told.Fired x)
fire_told o note (Ok shot) = (fired_told shot.id, refl)
fire_told o note (Err reason) = (fires.Refused reason, refl)

pub fired_in-requires : goal.fired_in-requires
fired_in-requires g c =
    let h = c.args.self.now in
    let S = sight h.tenants (seen h.tenants h.ledger.entries) (counted h.ledger.entries) (at_hall h c.args.at) in
    subst (λ (t : Told). (x : Fired) × (t ≡ told.Fired x)) (sym c.in-Ok-tell.ensures.comes.0) (fire_told S.others c.in-Ok.note (office_shot S c.in-Ok.trigger c.args.params c.in-Ok.note))

pub returns-in_default : goal.returns-in_default
returns-in_default g c =
    let h = c.args.self.now in
    (Wants, refl, (refl, refl, stays_same g.P.Keeper.telling (commits (decided h c.args.at (events.Fired c.args.trigger.now c.args.params c.args.note.now))) h.store))
