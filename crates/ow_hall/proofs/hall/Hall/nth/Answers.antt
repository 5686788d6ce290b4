use Rattle.std.proofs.Common.{◌≡◌, ◌∙◌, List, ap, subst}
use Rattle.std.specs.Option.{option_copied}
use Rattle.ow_entity.specs.declared.rows.Row.{Row}
use Rattle.ow_hall.specs.Comes.{HallView}
use Rattle.ow_hall.specs.History.{seen}
use Rattle.ow_hall.specs.Places.{nth_of}
use Rattle.ow_hall.proofs.hall.Hall.nth.Goals as goal

pub returns : goal.returns
returns g c =
    subst (λ (h : HallView _). option_copied c.nth.result ≡ nth_of c.args.kind c.args.k (seen h.tenants h.ledger.entries).rows) c.self.view_is
    (c.nth.ensures ∙ ap (λ (rs : List Row). nth_of c.args.kind c.args.k rs) c.self.invariant.0.stands.rows)
