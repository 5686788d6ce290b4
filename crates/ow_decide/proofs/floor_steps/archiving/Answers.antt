use Rattle.std.proofs.Common.{◌∙◌, List, subst, sym}
use Rattle.ow_records.specs.declared.record.Record.{Record}
use Rattle.ow_decide.specs.Decisions.{sweep_with}
use Rattle.ow_decide.specs.Making.{Carries}
use Rattle.ow_decide.proofs.Results.{if_ok_map}
use Rattle.ow_decide.proofs.SweepLaws.{none_there, nothing_due, some_there}
use Rattle.ow_decide.proofs.floor_steps.archiving.Goals as goal

pub returns-then-is_empty-clause-ok : goal.returns-then-is_empty-clause-ok
returns-then-is_empty-clause-ok c = λ S t items carries keeps sound right own is same.
    nothing_due c.args.step c.args.due.now c.args.until S t items (none_there c.args.due.now (sym c.if-is_empty.true ∙ c.is_empty.ensures)) is carries

pub returns-clause-ok : goal.returns-clause-ok
returns-clause-ok c = if_ok_map c.archiving_step.result _ _ (λ s h S t items carries keeps sound right own is same.
    subst (λ (rs : List Record). Carries s (sweep_with S t items c.args.until rs) S) is
    (h S t items carries keeps sound right own is same (some_there c.args.due.now (sym c.if-is_empty.false ∙ c.is_empty.ensures)))) c.archiving_step.ensures.ok
