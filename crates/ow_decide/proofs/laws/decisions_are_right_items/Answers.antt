use Rattle.ow_decide.proofs.NotedLaws.{decided_noted, decided_own, decided_quiet, decided_up_to}
use Rattle.ow_decide.proofs.SoundLaws.{decided_right}
use Rattle.ow_decide.proofs.laws.decisions_are_right_items.Goals as goal

pub returns-clause-right : goal.returns-clause-right
returns-clause-right c = λ S event other sound. decided_right S event sound

pub returns-clause-noted : goal.returns-clause-noted
returns-clause-noted c = decided_noted

pub returns-clause-own : goal.returns-clause-own
returns-clause-own c = decided_own

pub returns-clause-quiet : goal.returns-clause-quiet
returns-clause-quiet c = decided_quiet

pub returns-clause-up_to : goal.returns-clause-up_to
returns-clause-up_to c = decided_up_to
