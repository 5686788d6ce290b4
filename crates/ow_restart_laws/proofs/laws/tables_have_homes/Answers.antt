use Rattle.ow_tenant.proofs.HomeLaws.{homes_named}
use Rattle.ow_restart_laws.proofs.laws.tables_have_homes.Goals as goal

pub returns : goal.returns
returns c = homes_named
