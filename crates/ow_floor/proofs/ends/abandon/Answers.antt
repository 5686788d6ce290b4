use Rattle.std.proofs.Common.{◌∙◌, arith, refl, subst}
use Rattle.ow_floor.specs.declared.by_id.OpenPlace.{OpenPlace}
use Rattle.ow_floor.specs.Ends.{IsAbandonedAt, IsByIds}
use Rattle.ow_floor.proofs.Making.{abandoning_end, abandoning_start, abandons_at, place_within}
use Rattle.ow_floor.proofs.ends.abandon.Goals as goal

pub loop-i-init : goal.loop-i-init
loop-i-init c = record {
  made = abandoning_start c.args.at c.args.lists.now.now c.in_ok-places.places.items c.args.moves.now c.requires (rw (← c.tasks.ensures) c.in_ok-places.ensures);
  past = refl;
}

pub abandon_at-requires-clause-within : goal.abandon_at-requires-clause-within
abandon_at-requires-clause-within c =
    let sorted : IsByIds c.args.lists.now.now.tasks c.in_ok-places.places.items = rw (← c.tasks.ensures) c.in_ok-places.ensures in
    rw (c.loop-i.invariant.made.size, c.index.ensures) (place_within c.args.lists.now.now.tasks c.in_ok-places.places.items c.loop-i.i c.index.result.now sorted (omega arith))

pub loop-i-preserved : goal.loop-i-preserved
loop-i-preserved c =
    let one = subst (λ (p : OpenPlace). IsAbandonedAt c.args.at p.place c.loop-i.lists.now c.abandon_at.new.lists.now c.loop-i.moves c.abandon_at.new.moves) c.index.ensures c.in_ok-abandon_at.ensures.made in
    record {
      made = abandons_at c.args.at c.args.lists.now.now c.loop-i.lists.now c.abandon_at.new.lists.now c.in_ok-places.places.items c.loop-i.i c.index.result.now c.args.moves.now c.loop-i.moves c.abandon_at.new.moves
          (omega arith) c.abandon_at.ensures.lists_fit one c.loop-i.invariant.made;
      past = c.abandon_at.ensures.held ∙ c.loop-i.invariant.past;
    }

pub returns-clause-made : goal.returns-clause-made
returns-clause-made c =
    abandoning_end c.args.at c.args.lists.now.now c.loop-i.lists.now c.in_ok-places.places.items c.loop-i.i c.args.moves.now c.loop-i.moves (omega arith) c.loop-i.invariant.made
