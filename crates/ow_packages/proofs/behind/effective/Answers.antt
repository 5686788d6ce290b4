use Rattle.ow_packages.specs.Effective.{effective}
use Rattle.ow_packages.proofs.ParamLaws.{answered, finds_in}
use Rattle.ow_packages.proofs.behind.effective.Goals as goal

pub returns-clause-value : goal.returns-clause-value
unfolding effective
returns-clause-value g c = answered _ _ c.called.ensures

pub returns-clause-finds : goal.returns-clause-finds
returns-clause-finds g c = finds_in _ _ c.called.ensures
