use Rattle.std.proofs.Common.{◌≡◌, Result, Ok, Err, refl, sym, subst}
use Rattle.ow_floor.specs.Calls.{happened}
use Rattle.ow_floor.specs.declared.activations.Plan.{Plan}
use Rattle.ow_http.specs.Steps.{◌>>=◌}
use Rattle.ow_http.specs.declared.reason.Reason.{Reason}
use Rattle.ow_decide.specs.declared.events.Told.{Told}
use Rattle.ow_decide.specs.declared.events.Told.TheVariants as told
use Rattle.ow_decide.specs.declared.replies.Called.{Called}
use Rattle.ow_decide.specs.declared.replies.Called.TheVariants as called
use Rattle.ow_decide.specs.Calling.{admitted_plan, call_plan, called_decision, plan_items}
use Rattle.ow_decide.specs.Sight.{Sight}
use Rattle.ow_decide.specs.Decision.{commits}
use Rattle.ow_decide.specs.declared.events.Event.TheVariants as events
use Rattle.ow_hall.specs.Comes.{Wants, at_hall, decided}
use Rattle.ow_hall.specs.History.{counted, seen, sight}
use Rattle.ow_hall.proofs.KeepLaws.{stays_same}
use Rattle.ow_hall.proofs.hall.Hall.call.Goals as goal

-- the answer to a call of the office is a `Called`
call_told : (S : Sight) (p : Result Plan Reason) → (x : Called) × ((called_decision S p).told ≡ told.Called x)
call_told S (Ok plan) = (called.Happened (happened (plan_items S plan)), refl)
call_told S (Err reason) = (called.Refused reason, refl)

pub called_in-requires : goal.called_in-requires
called_in-requires g c =
    let h = c.args.self.now in
    let S = sight h.tenants (seen h.tenants h.ledger.entries) (counted h.ledger.entries) (at_hall h c.args.at) in
    subst (λ (t : Told). (x : Called) × (t ≡ told.Called x)) (sym c.in-Ok-tell.ensures.comes.0) (call_told S (call_plan S c.in-Ok.name c.args.params >>= admitted_plan S))

pub returns-in_default : goal.returns-in_default
returns-in_default g c =
    let h = c.args.self.now in
    (Wants, refl, (refl, refl, stays_same g.P.Keeper.telling (commits (decided h c.args.at (events.Called c.args.name.now c.args.params))) h.store))
