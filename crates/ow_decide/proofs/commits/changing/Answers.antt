use Rattle.std.proofs.Common.{◌∙◌, ap}
use Rattle.ow_names.specs.declared.full.FullName.{FullName}
use Rattle.ow_entity.specs.Row.{kind_of, name_of}
use Rattle.ow_entity.specs.declared.kinds.EntityKind.{EntityKind}
use Rattle.ow_tables.specs.Rows.{found}
use Rattle.ow_decide.proofs.Results.{if_ok_both}
use Rattle.ow_decide.proofs.commits.changing.Goals as goal

pub returns-clause-commit : goal.returns-clause-commit
returns-clause-commit c =
    let rs = c.args.tables.now.rows in
    if_ok_both c.following_change.result _ _ _ (λ d changes stands o T keeps. record {
      changes = changes;
      stands = stands o rs T keeps (c.row.ensures.value
          ∙ (ap (λ (k : EntityKind). found k c.name.result.now rs) (c.kind.ensures ∙ ap kind_of c.row-row.ensures)
          ∙ ap (λ (n : FullName). found (kind_of c.args.ready.now.row) n rs) (c.name.ensures ∙ ap name_of c.row-row.ensures)));
    }) c.following_change.ensures.changes c.following_change.ensures.stands
