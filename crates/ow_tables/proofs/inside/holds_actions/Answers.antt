use Rattle.std.proofs.Common.{ap, ◌∙◌}
use Rattle.std.specs.List.{list_any}
use Rattle.ow_entity.specs.declared.kinds.EntityKind.TheVariants as kinds
use Rattle.ow_tables.specs.Rows.{stands_in}
use Rattle.ow_tables.specs.Inside.{lies_under}
use Rattle.ow_tables.proofs.InsideLaws.{any_both}
use Rattle.ow_tables.proofs.inside.holds_actions.Goals as goal

pub returns : goal.returns
returns c =
    let name = c.args.bundle.now in
    c.is_any_under.ensures
    ∙ ap (list_any (lies_under name.name)) c.part-rows.ensures
    ∙ any_both (stands_in kinds.Action name.namespace) (lies_under name.name) c.args.rows.now
