use Rattle.ow_keep.proofs.Splits.{parts_kept}
use Rattle.ow_keep.proofs.keeping.kept_rows.Goals as goal

pub returns-clause-rows : goal.returns-clause-rows
returns-clause-rows c = parts_kept c.args.rows.now c.in_ok-items.items.items c.split.result c.in_ok-items.ensures.kept c.as_slice.ensures.rows c.split.ensures.ok
