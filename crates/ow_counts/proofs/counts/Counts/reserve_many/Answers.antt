use Rattle.std.proofs.Common.{ap, arith, subst, sym}
use Rattle.ow_value.specs.ByText.{ByText}
use Rattle.ow_tenant.specs.Windows.{HasRoomIn, StandsAs}
use Rattle.ow_tenant.specs.declared.window.Window.{Window}
use Rattle.ow_counts.specs.View.{CountsView}
use Rattle.ow_counts.proofs.Keeping.{kept}
use Rattle.ow_counts.proofs.Moving.{all_rooms}
use Rattle.ow_counts.proofs.counts.Counts.reserve_many.Goals as goal

pub returns-clause-notes : goal.returns-clause-notes
returns-clause-notes c ns h =
    let inside = subst (λ (ws : ByText Window). StandsAs ws ns) (sym (ap (λ (v : CountsView). v.windows) c.self.view_is)) h.windows in
    kept c.args.self.now _ ns (c.reserve_many.ensures.notes ns inside) (ap (λ (v : CountsView). v.busy) c.self.view_is) h

pub returns-clause-keeps : goal.returns-clause-keeps
returns-clause-keeps c name n h =
    let inside = subst (λ (ws : ByText Window). HasRoomIn name n n ws) (sym (ap (λ (v : CountsView). v.windows) c.self.view_is)) h in
    all_rooms c.args.namespace.now c.self.inside.windows c.reserve_many.new.self n n (omega arith) c.reserve_many.ensures.others (c.reserve_many.ensures.keeps n n) name inside
