use Rattle.ow_floor.specs.View.{is_of}
use Rattle.ow_floor.specs.Store.{IsSpot}
use Rattle.ow_floor.proofs.Making.{run_ended}
use Rattle.ow_floor.proofs.Results.{on_more}
use Rattle.ow_floor.proofs.ends.end_run.Goals as goal

pub returns-clause-made : goal.returns-clause-made
returns-clause-made c =
    let spot : IsSpot (is_of c.args.run.id) c.args.lists.now.now.spots c.args.lists.now.now.tasks c.in-Some.place = c.in-Some.ensures in
    on_more c.end_at.result _ _
    (run_ended c.args.at c.args.run c.args.reply.now c.in-Some.place c.args.lists.now.now c.end_at.new.lists.now c.args.moves.now c.end_at.new.moves c.requires spot)
    (rw (← c.in_ok-copy.ensures) c.end_at.ensures.made)
