use Rattle.ow_rules.proofs.JoinLaws.{puts_join}
use Rattle.ow_rules.proofs.laws.puts_join.Goals as goal

pub returns : goal.returns
returns c = puts_join
