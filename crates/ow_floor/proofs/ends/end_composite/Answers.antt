use Rattle.ow_floor.specs.View.{is_of}
use Rattle.ow_floor.specs.Store.{IsSpot}
use Rattle.ow_floor.proofs.Making.{composed_made}
use Rattle.ow_floor.proofs.Results.{on_more}
use Rattle.ow_floor.proofs.ends.end_composite.Goals as goal

pub returns-clause-made : goal.returns-clause-made
returns-clause-made c =
    let spot : IsSpot (is_of c.args.id) c.args.lists.now.now.spots c.args.lists.now.now.tasks c.in-Some.place = c.in-Some.ensures in
    on_more c.end_at.result _ _
    (composed_made c.args.at c.args.id c.args.response c.in-Some.place c.args.lists.now.now c.end_at.new.lists.now c.args.moves.now c.end_at.new.moves c.requires spot)
    (rw (← c.frame.ensures, ← c.in_ok-ending.ensures) c.end_at.ensures.made)
