use Rattle.ow_floor.proofs.Making.{swept_first, swept_nothing}
use Rattle.ow_floor.proofs.ends.end_first_late.Goals as goal

pub returns-in_default-clause-made : goal.returns-in_default-clause-made
returns-in_default-clause-made c = swept_nothing c.args.at c.args.lists.now.now c.args.moves.now c.requires c.in_default.ensures

pub returns-clause-made : goal.returns-clause-made
returns-clause-made c =
    swept_first c.args.at c.in-Some.place c.in-Some.run' c.args.lists.now.now c.end_overrun.new.lists.now c.args.moves.now c.end_overrun.new.moves c.requires c.in-Some.ensures.0 c.in-Some.ensures.1
    c.in_ok-end_overrun.ensures.made
