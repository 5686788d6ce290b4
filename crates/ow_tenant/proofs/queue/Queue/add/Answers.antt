use Rattle.std.proofs.Common.{ap, sym, subst, ◌∙◌, count_by}
use Rattle.ow_tenant.specs.Notes.{counts_at}
use Rattle.ow_tenant.specs.Queue.{AllUpTo, Kept, Rise, with_one}
use Rattle.ow_tenant.proofs.QueueLaws.{add_counts, add_rise, add_up_to}
use Rattle.ow_tenant.proofs.queue.Queue.add.Goals as goal

pub returns-clause-counts : goal.returns-clause-counts
returns-clause-counts c now le =
    add_counts now _ _ _ c.args.at c.drop_old.ensures.lets_go c.push_back_reserved.ensures.items le
    ∙ ap (λ (k : Kept). with_one (counts_at now c.args.at) (count_by (counts_at now) k.moments)) c.self.view_is

pub returns-clause-order : goal.returns-clause-order
returns-clause-order c rise up =
    add_rise _ _ _ c.args.at c.drop_old.ensures.lets_go c.push_back_reserved.ensures.items
    (subst (λ (k : Kept). Rise k.moments) (sym c.self.view_is) rise) (subst (λ (k : Kept). AllUpTo c.args.at k.moments) (sym c.self.view_is) up)

pub returns-clause-latest : goal.returns-clause-latest
returns-clause-latest c up =
    add_up_to _ _ _ c.args.at c.drop_old.ensures.lets_go c.push_back_reserved.ensures.items (subst (λ (k : Kept). AllUpTo c.args.at k.moments) (sym c.self.view_is) up)
