use Rattle.std.proofs.Common.{refl}
use Rattle.std.specs.Prelude.{nat_le}
use Rattle.ow_pool.proofs.WithinLaws.{held_fits, sized_told, unsized_told, within_told}
use Rattle.ow_pool.proofs.within.is_within_pool.Goals as goal

pub held-requires : goal.held-requires
held-requires c = held_fits c.args.slots.now ((sized_told c.args.slots.now c.are_sized.result c.are_sized.ensures).0 c.if-not-are_sized.false) c.requires

pub returns-then-not-are_sized : goal.returns-then-not-are_sized
returns-then-not-are_sized c = unsized_told c.args.slots.now c.args.pool c.are_sized.result c.are_sized.ensures c.if-not-are_sized.true

pub returns : goal.returns
returns c =
    let all = (sized_told c.args.slots.now c.are_sized.result c.are_sized.ensures).0 c.if-not-are_sized.false in
    within_told c.args.slots.now c.args.pool (nat_le c.held.result c.from.result) all (rw (c.held.ensures, c.from.ensures) refl)
