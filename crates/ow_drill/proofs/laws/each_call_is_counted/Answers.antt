use Rattle.ow_drill.proofs.Adding.{calls_add_up}
use Rattle.ow_drill.proofs.laws.each_call_is_counted.Goals as goal

pub returns : goal.returns
returns c = λ seed n failed M N tally drills. calls_add_up seed n failed M N tally drills
