use Rattle.std.proofs.Common.{◌≡◌, List, map, true, IfOk, sym, ap, ◌∙◌, subst}
use Rattle.ow_value.specs.Value.{V}
use Rattle.ow_entity.specs.Written.{package_entry}
use Rattle.ow_tables.specs.Contents.{Contents}
use Rattle.ow_tables.specs.Inside.{actions_in}
use Rattle.ow_tables.proofs.PutLaws.{shown_once_put}
use Rattle.ow_tables.proofs.tables.Tables.actions_bound.Goals as goal

pub returns-then-reaches_once_put : goal.returns-then-reaches_once_put
returns-then-reaches_once_put c =
    let same = c.deref.ensures.value ∙ ap (λ (t : Contents). t.rows) c.self.view_is in
    subst (λ (vs : List V). IfOk c.actions_in.result (λ shown. shown ≡ vs))
    (ap (λ rows. map package_entry (actions_in c.args.target.now rows)) same
    ∙ sym (shown_once_put c.args.bundle.now c.args.target.now c.args.self.now.rows true (sym c.reaches_once_put.ensures ∙ c.if-reaches_once_put.true)))
    c.actions_in.ensures
