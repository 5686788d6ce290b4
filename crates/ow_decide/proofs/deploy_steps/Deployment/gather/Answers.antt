use Rattle.std.proofs.Common.{◌∙◌, ap}
use Rattle.ow_names.specs.declared.full.FullName.{FullName}
use Rattle.ow_entity.specs.Row.{kind_of, name_of}
use Rattle.ow_entity.specs.declared.kinds.EntityKind.{EntityKind}
use Rattle.ow_tables.specs.Rows.{found}
use Rattle.ow_decide.proofs.GatherLaws.{added_by}
use Rattle.ow_decide.proofs.deploy_steps.Deployment.gather.Goals as goal

pub returns-clause-commit : goal.returns-clause-commit
returns-clause-commit c =
    let rs = c.self.inside.tables.rows in
    added_by c.args.ready.now _ _ _ c.self.view_is (record {
      changes = c.in_ok-add.ensures.changes;
      stands = λ o T keeps. c.in_ok-add.ensures.stands o rs T keeps (c.row-old.ensures.value
          ∙ (ap (λ (k : EntityKind). found k c.name.result.now rs) (c.kind.ensures ∙ ap kind_of c.row-row.ensures)
          ∙ ap (λ (n : FullName). found (kind_of c.args.ready.now.row) n rs) (c.name.ensures ∙ ap name_of c.row-row.ensures)));
    })
