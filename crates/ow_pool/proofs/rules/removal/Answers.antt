use Rattle.std.proofs.Common.{◌≤◌, arith}
use Rattle.ow_pool.specs.Four.{items}
use Rattle.ow_pool.proofs.Removals.{kept_le, removes, waits_now}
use Rattle.ow_pool.proofs.rules.removal.Goals as goal

pub kept-rest-requires : goal.kept-rest-requires
kept-rest-requires c = let a = kept_le c.args.slots.now in omega (arith, a, c.requires.within.within, c.ranges.pool.fits)

pub at_once-requires : goal.at_once-requires
at_once-requires c = let small : c.args.memory ≤ 512 = c.requires.head.1 in let a = kept_le c.args.slots.now in omega (arith, a, c.requires.within.within, c.ranges.pool.fits, c.kept-rest.ensures, c.from-memory.ensures, small)

pub freeing-requires : goal.freeing-requires
freeing-requires c = let small : c.args.memory ≤ 512 = c.requires.head.1 in let a = kept_le c.args.slots.now in omega (arith, a, c.requires.within.within, c.ranges.pool.fits, c.kept-rest.ensures, c.from-memory.ensures, small)

pub returns-then-at_once : goal.returns-then-at_once
returns-then-at_once c =
    waits_now c.args.slots.now c.args.memory c.args.pool c.kept-rest.result c.from-memory.result c.from-pool.result c.from-memory.ensures c.from-pool.ensures c.kept-rest.ensures c.if-at_once.ensures

pub returns-in-Some : goal.returns-in-Some
returns-in-Some c =
    removes c.args.slots.now c.args.memory c.args.pool c.kept-rest.result c.from-memory.result c.from-pool.result (items c.first_four-four.result) _ c.from-memory.ensures c.from-pool.ensures
    c.kept-rest.ensures c.requires.within c.requires.head.1 c.first_four-four.ensures.items c.if-at_once.ensures c.in-Some.ensures

pub returns-in-None : goal.returns-in-None
returns-in-None c =
    removes c.args.slots.now c.args.memory c.args.pool c.kept-rest.result c.from-memory.result c.from-pool.result (items c.first_four-four.result) _ c.from-memory.ensures c.from-pool.ensures
    c.kept-rest.ensures c.requires.within c.requires.head.1 c.first_four-four.ensures.items c.if-at_once.ensures c.in-None.ensures
