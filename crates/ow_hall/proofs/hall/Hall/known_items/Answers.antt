use Rattle.std.proofs.Common.{subst}
use Rattle.std.specs.List.{AllByRecursion}
use Rattle.ow_keep.specs.Known.{IsItem}
use Rattle.ow_commits.specs.Fit.{whole_items}
use Rattle.ow_commits.specs.Kept.{OthersView, kept_items, other_items}
use Rattle.ow_commits.proofs.Ids.{all_both}
use Rattle.ow_hall.specs.Comes.{HallView}
use Rattle.ow_hall.specs.History.{seen}
use Rattle.ow_hall.proofs.hall.Hall.known_items.Goals as goal

pub returns : goal.returns
returns g c =
    let s = seen c.self.inside.tenants c.self.inside.book.ledger.entries in
    let at = c.self.invariant.0.stands in
    subst (λ (h : HallView _). AllByRecursion IsItem (whole_items (seen h.tenants h.ledger.entries).others (seen h.tenants h.ledger.entries).rows (seen h.tenants h.ledger.entries).trace)) c.self.view_is
    (all_both IsItem (other_items s.others) (kept_items s.rows s.trace)
    (subst (λ (o : OthersView). AllByRecursion IsItem (other_items o)) at.others c.known_items.ensures.others)
    (subst (λ rs. AllByRecursion IsItem (kept_items rs s.trace)) at.rows (c.known_items.ensures.kept s.trace at.stands)))
