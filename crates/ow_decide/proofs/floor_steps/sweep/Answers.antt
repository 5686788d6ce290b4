use Rattle.std.proofs.Common.{◌∙◌, ℕ, Option, ap, sym}
use Rattle.ow_decide.specs.Decisions.{archived_until}
use Rattle.ow_decide.proofs.Results.{if_ok_map}
use Rattle.ow_decide.proofs.SweepLaws.{sweep_alone, sweep_archives, swept_first}
use Rattle.ow_decide.proofs.floor_steps.sweep.Goals as goal

pub returns-in-None-clause-ok : goal.returns-in-None-clause-ok
returns-in-None-clause-ok c = λ S k seen same.
    sweep_alone c.args.tenants.now c.args.tables.now.rows c.args.keeping.now c.args.now c.args.floor.now.now c.sweep.new.floor.now c.in_ok-step.step
    (swept_first c.args.tenants.now c.args.tables.now.rows c.args.keeping.now c.args.now c.args.floor.now.now c.sweep.new.floor.now c.in-Ok.late c.new-moves.result c.sweep.new.moves c.in_ok-step.step
    c.in_ok-step.ensures c.in-Ok.ensures.late c.new-moves.ensures c.in-Ok.ensures.moved c.in-Ok.ensures.ok)
    (sym c.in-None.is ∙ (c.archived_until.ensures ∙ ap (λ (o : Option ℕ). archived_until o c.args.now.at) c.retain.ensures.value)) S k seen

pub returns-in-Some-clause-ok : goal.returns-in-Some-clause-ok
returns-in-Some-clause-ok c = if_ok_map c.with_due.result _ _ (λ s carries.
    sweep_archives c.args.tenants.now c.args.tables.now.rows c.args.keeping.now c.args.now c.args.floor.now.now c.sweep.new.floor.now c.in_ok-step.step c.args.archive c.in-Some.until s
    (swept_first c.args.tenants.now c.args.tables.now.rows c.args.keeping.now c.args.now c.args.floor.now.now c.sweep.new.floor.now c.in-Ok.late c.new-moves.result c.sweep.new.moves c.in_ok-step.step
    c.in_ok-step.ensures c.in-Ok.ensures.late c.new-moves.ensures c.in-Ok.ensures.moved c.in-Ok.ensures.ok)
    (sym c.in-Some.is ∙ (c.archived_until.ensures ∙ ap (λ (o : Option ℕ). archived_until o c.args.now.at) c.retain.ensures.value)) carries) c.with_due.ensures.ok
