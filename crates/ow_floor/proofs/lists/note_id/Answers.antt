use Rattle.std.proofs.Common.{◌∙◌}
use Rattle.ow_floor.proofs.Drawn.{put_new, put_there}
use Rattle.ow_floor.proofs.lists.note_id.Goals as goal

pub returns-in-Some-clause-now : goal.returns-in-Some-clause-now
returns-in-Some-clause-now c =
    let place = c.in-Some.ensures in
    rw (c.set.ensures.now, ← c.items.ensures) (place.updated (λ y. c.args.id) ∙ put_there c.args.id c.items.result.now place.item place.found)

pub returns-in-None-clause-now : goal.returns-in-None-clause-now
returns-in-None-clause-now c = rw (c.push.ensures.now, ← c.items.ensures) (put_new c.args.id c.items.result.now c.in-None.ensures)
