use Rattle.std.specs.Option.{option_copied}
use Rattle.ow_pool.proofs.OrderLaws.{place_keeps}
use Rattle.ow_pool.proofs.rules.place.Goals as goal

pub returns-clause-kept : goal.returns-clause-kept
returns-clause-kept c =
    rw (c.choose.ensures, c.as_slice.ensures.value) (place_keeps (λ a b. (c.same_keys_are_equal.ensures a b).0) c.args.slots.now (option_copied c.args.head) c.args.wants.now c.args.pool
    c.requires.within c.requires.head c.requires.wants)
