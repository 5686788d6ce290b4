use Rattle.std.proofs.Common.{◌∙◌, ap}
use Rattle.ow_trees.specs.Driving.{cause_of}
use Rattle.ow_trees.proofs.Following.{cause_next}
use Rattle.ow_trees.proofs.driver.end.Goals as goal

pub returns-clause-next : goal.returns-clause-next
returns-clause-next c = λ T st.
    c.cause_of-cause.ensures ∙ (ap cause_of c.activation.ensures.value ∙ cause_next c.args.at c.args.id c.args.response c.args.floor.now.now T st)
