use Rattle.std.proofs.Common.{arith, ◌≤◌}
use Rattle.jiff.specs.Words.{plain_zone}
use Rattle.ow_schedule.proofs.Skipped.{at_or_above, miss_fewer}
use Rattle.ow_schedule.proofs.skip.missed.Goals as goal

pub returns-clause-free : goal.returns-clause-free
returns-clause-free c =
    let f = c.args.fields.now in
    let a = c.in-Some.offsets.standard.seconds in
    let b = c.in-Some.offsets.daylight.seconds in
    let n = c.min.result in
    let low : n ≤ c.misses-by_standard.result = omega arith in
    let low2 : n ≤ c.misses-by_daylight.result = omega arith in
    λ from. at_or_above f (plain_zone c.args.zone.now) from c.args.at n a b c.in-Some.ensures c.requires.minute
    (miss_fewer f a c.args.at n c.misses-by_standard.result low c.misses-by_standard.ensures.misses)
    (miss_fewer f b c.args.at n c.misses-by_daylight.result low2 c.misses-by_daylight.ensures.misses)
