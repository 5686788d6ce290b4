use Rattle.std.proofs.Common.{arith, rules, subst, sym}
use Rattle.std.specs.Prelude.{nat_le}
use Rattle.std.proofs.lemmas.Bool.{leb-true, leb-false}
use Rattle.std.proofs.lemmas.Fn.{always_returns_same}
use Rattle.std.proofs.lemmas.List.Sorted.{IsPartitionedBy-leb}
use Rattle.ow_tenant.specs.Queue.{Kept, Rise}
use Rattle.ow_tenant.proofs.QueueLaws.{counts_all, counts_from, non_decreasing}
use Rattle.ow_tenant.proofs.queue.Queue.count.Goals as goal

pub returns-in-Some : goal.returns-in-Some
returns-in-Some c rise =
    let items = c.self.inside.moments.items in
    let last = c.in-Some.last in
    let risen = subst (λ (k : Kept). Rise k.moments) (sym c.self.view_is) rise in
    let parted = c.partition_point.ensures.partitioned (λ y. nat_le y last) (always_returns_same _ _ _ (λ a r f' k. search rules)) (IsPartitionedBy-leb (λ y. y) items last (non_decreasing items risen)) in
    let counted = counts_from c.args.now last (λ y. nat_le y last) (λ t. leb-true t last) (λ t. leb-false t last) items c.partition_point.result (omega arith) (omega arith) parted in
    rw (← c.self.view_is) (omega (arith, counted))

pub returns-in-None : goal.returns-in-None
returns-in-None c rise = rw (← c.self.view_is) (omega (arith, counts_all c.args.now c.self.inside.moments.items (omega arith)))
