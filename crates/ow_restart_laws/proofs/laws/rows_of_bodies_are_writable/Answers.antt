use Rattle.ow_restart_laws.proofs.Writable.{rows_writable}
use Rattle.ow_restart_laws.proofs.laws.rows_of_bodies_are_writable.Goals as goal

pub returns : goal.returns
returns c = rows_writable
