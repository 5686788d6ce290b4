use Rattle.std.proofs.Common.{◌≡◌, ap, subst, sym, ◌∙◌}
use Rattle.std.specs.Prelude.{OnOk}
use Rattle.ow_floor.specs.declared.moves.Moved.{Moved}
use Rattle.ow_floor.specs.declared.moves.Moved.TheVariants as moves
use Rattle.ow_floor.proofs.Results.{on_more}
use Rattle.ow_counts.specs.View.{IsRoomy}
use Rattle.ow_counts.proofs.moves.reserve_for.Goals as goal

pub returns-in-Accepted-clause-room : goal.returns-in-Accepted-clause-room
returns-in-Accepted-clause-room c =
    let is : c.args.moved.now ≡ moves.Accepted c.get.result.now = c.in-Accepted.is ∙ ap moves.Accepted (sym c.get.ensures) in
    subst (λ (m : Moved). OnOk c.reserve_many.result (IsRoomy c.args.count c.reserve_many.new.self m)) (sym is) (on_more c.reserve_many.result _ _ (λ room none. room) c.reserve_many.ensures.room)

pub returns-in-Fired-clause-room : goal.returns-in-Fired-clause-room
returns-in-Fired-clause-room c =
    let is : c.args.moved.now ≡ moves.Fired c.get-in-Fired.result.now = c.in-Fired.is ∙ ap moves.Fired (sym c.get-in-Fired.ensures) in
    subst (λ (m : Moved). OnOk c.reserve_many-in-Fired.result (IsRoomy c.args.count c.reserve_many-in-Fired.new.self m)) (sym is) c.reserve_many-in-Fired.ensures.room

pub returns-in-Ended-clause-room : goal.returns-in-Ended-clause-room
returns-in-Ended-clause-room c = subst (λ (m : Moved). IsRoomy c.args.count c.args.counts.now m) (sym c.in-Ended.is) tt

pub returns-in-Drawn-clause-room : goal.returns-in-Drawn-clause-room
returns-in-Drawn-clause-room c = subst (λ (m : Moved). IsRoomy c.args.count c.args.counts.now m) (sym c.in-Drawn.is) tt
