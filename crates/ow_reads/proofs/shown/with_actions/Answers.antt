use Rattle.std.proofs.Common.{codes, ap}
use Rattle.ow_value.specs.Value.{list, items_of}
use Rattle.ow_value.specs.View.{view}
use Rattle.ow_reads.proofs.BehindLaws.{with_one}
use Rattle.ow_reads.proofs.shown.with_actions.Goals as goal

pub returns-in_ok-merge-in-Object : goal.returns-in_ok-merge-in-Object
returns-in_ok-merge-in-Object c = with_one c.args.written c.in-Object.members c.in_ok-actions-in-Object.actions c.in_ok-merge-in-Object.field-0 (codes "actions") (list (items_of c.args.actions))
    (ap view c.in-Object.is) c.in_ok-actions-in-Object.ensures c.in_ok-merge-in-Object.ensures.value
