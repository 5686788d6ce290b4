use Rattle.std.proofs.Common.{◌≡◌, refl, sym, ap, ◌∙◌, subst, arith}
use Rattle.std.specs.Prelude.{OnOk}
use Rattle.ow_floor.specs.declared.moves.Moved.{Moved}
use Rattle.ow_floor.specs.declared.moves.Moved.TheVariants as moves
use Rattle.ow_floor.proofs.Results.{on_more}
use Rattle.ow_commits.specs.Keeping.{FollowsOne}
use Rattle.ow_commits.proofs.following.follow.Goals as goal

pub returns-in-Drawn-clause-follows : goal.returns-in-Drawn-clause-follows
returns-in-Drawn-clause-follows c =
    subst (λ (m : Moved). OnOk c.follow_draw.result (FollowsOne m c.args.gathered.now.bytes c.args.opens.now.items c.follow_draw.new.gathered.bytes c.args.opens.now.items)) (sym c.in-Drawn.is)
    (on_more c.follow_draw.result _ _ (λ bytes. record { bytes = bytes; opens = refl }) c.follow_draw.ensures.bytes)

pub returns-in-Fired-clause-follows : goal.returns-in-Fired-clause-follows
returns-in-Fired-clause-follows c =
    let is : c.args.moved.now ≡ moves.Fired c.get-in-Fired.result.now = c.in-Fired.is ∙ ap moves.Fired (sym c.get-in-Fired.ensures) in
    subst (λ (m : Moved). OnOk c.follow_fire.result (FollowsOne m c.args.gathered.now.bytes c.args.opens.now.items c.follow_fire.new.gathered.bytes c.args.opens.now.items)) (sym is)
    (on_more c.follow_fire.result _ _ (λ bytes. record { bytes = omega (arith, bytes); opens = refl }) c.follow_fire.ensures.bytes)
