use Rattle.ow_decide.proofs.SweepLaws.{archive_follows}
use Rattle.ow_decide.proofs.floor_steps.archived_after.Goals as goal

pub returns-clause-commit : goal.returns-clause-commit
returns-clause-commit c = λ S t items until commits keeps sound right own is same.
    archive_follows c.in_ok-base.base c.in_ok-whole.whole c.args.archive c.args.due.now c.in_ok-whole.ensures.changes c.in_ok-whole.ensures.stands S items until
    (c.in_ok-base.ensures S t items commits keeps sound right own) sound right is same
