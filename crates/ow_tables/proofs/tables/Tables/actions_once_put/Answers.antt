use Rattle.std.proofs.Common.{◌≡◌, List, map, IfOk, sym, ap, ◌∙◌, subst}
use Rattle.ow_value.specs.Value.{V}
use Rattle.ow_entity.specs.Written.{package_entry}
use Rattle.ow_entity.specs.declared.rows.Row.TheVariants as entities
use Rattle.ow_tables.specs.Contents.{Contents}
use Rattle.ow_tables.specs.Rows.{with_row}
use Rattle.ow_tables.specs.Inside.{actions_in, actions_behind}
use Rattle.ow_tables.proofs.PutLaws.{actions_stay}
use Rattle.ow_tables.proofs.tables.Tables.actions_once_put.Goals as goal

pub returns-in-None : goal.returns-in-None
returns-in-None c =
    let p = c.args.bundle.now in
    let rows = c.args.self.now.rows in
    let same = c.deref.ensures.value ∙ ap (λ (t : Contents). t.rows) c.self.view_is in
    subst (λ (vs : List V). IfOk c.actions_in.result (λ shown. shown ≡ vs))
    (ap (λ rs. map package_entry (actions_in p.name rs)) same
    ∙ sym (ap (λ o. map package_entry (actions_behind p o (with_row (entities.Package p) rows))) c.in-None.is ∙ ap (map package_entry) (actions_stay p.name p rows)))
    c.actions_in.ensures
