use Rattle.std.proofs.Common.{◌≡◌, ◌∙◌, ap, subst}
use Rattle.ow_commits.specs.Kept.{OthersView}
use Rattle.ow_commits.specs.Noting.{note_of}
use Rattle.ow_hall.specs.Comes.{HallView}
use Rattle.ow_hall.specs.History.{seen}
use Rattle.ow_hall.proofs.hall.Hall.note.Goals as goal

pub returns : goal.returns
returns g c =
    subst (λ (h : HallView _). c.note.result ≡ note_of c.args.key.now (seen h.tenants h.ledger.entries).others.notes) c.self.view_is
    (c.note.ensures ∙ ap (λ (o : OthersView). note_of c.args.key.now o.notes) c.self.invariant.0.stands.others)
