use Rattle.ow_floor.proofs.Showing.{good_opened, stands_opened}
use Rattle.ow_floor.proofs.floor.Floor.new.Goals as goal

pub invariant_of-result : goal.invariant_of-result
invariant_of-result c = rw (c.in_ok-lists.ensures.now, c.in_ok-lists.ensures.held) (good_opened c.args.pool c.args.wants c.requires, tt)

pub returns-clause-stands : goal.returns-clause-stands
returns-clause-stands c = rw c.in_ok-lists.ensures.now (stands_opened c.args.pool c.args.wants)
