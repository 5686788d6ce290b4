use Rattle.toml.proofs.Views.{table_get}
use Rattle.ow_deploy.proofs.top.value_at.Goals as goal

pub returns : goal.returns
returns c = table_get c.get.result c.args.name.now c.args.top.now.entries c.get.ensures.value
