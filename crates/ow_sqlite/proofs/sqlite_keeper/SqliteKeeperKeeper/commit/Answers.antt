use Rattle.ow_sqlite.proofs.Counting.{counted_cause}
use Rattle.ow_sqlite.proofs.sqlite_keeper.SqliteKeeperKeeper.commit.Goals as goal

pub returns-in-Err-clause-cause : goal.returns-in-Err-clause-cause
returns-in-Err-clause-cause g c = counted_cause _ _ _ _ c.write.ensures.faults c.blame.ensures.faults_grow c.blame.ensures.rose
