use Rattle.ow_decide.proofs.ViewLaws.{read_so}
use Rattle.ow_decide.proofs.laws.reads_are_answered_of_the_view.Goals as goal

pub returns : goal.returns
returns c = read_so
