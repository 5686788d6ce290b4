use Rattle.ow_hall.specs.History.{seen}
use Rattle.ow_isolation.proofs.CauseLaws.{all_caused, seen_as_causes}
use Rattle.ow_isolation.proofs.laws.children_are_of_their_causes.Goals as goal

pub returns-clause-causes : goal.returns-clause-causes
returns-clause-causes c = all_caused

pub returns-clause-shown : goal.returns-clause-shown
returns-clause-shown c = λ t B. seen_as_causes (seen t B).trace (all_caused t B)
