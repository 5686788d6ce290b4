use Rattle.std.proofs.Common.{◌∙◌, sym}
use Rattle.ow_trees.specs.Steps.{unless_leaf}
use Rattle.ow_trees.proofs.Following.{or_none}
use Rattle.ow_trees.proofs.driver.accept_one.Goals as goal

pub returns-clause-next : goal.returns-clause-next
returns-clause-next c = λ T st. c.unless_leaf-next.ensures ∙ sym (or_none (unless_leaf c.args.plan.form c.args.plan.id))

pub returns-clause-moved : goal.returns-clause-moved
returns-clause-moved c = λ T st. c.in_ok-accept_into.ensures.moved
