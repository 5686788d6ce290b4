use Rattle.std.proofs.Common.{ap, arith, subst, sym}
use Rattle.ow_value.specs.ByText.{ByText}
use Rattle.ow_tenant.specs.Windows.{HasRoomIn, StandsAs}
use Rattle.ow_tenant.specs.declared.window.Window.{Window}
use Rattle.ow_counts.specs.View.{CountsView}
use Rattle.ow_counts.proofs.Keeping.{keeps_ended}
use Rattle.ow_counts.proofs.counts.Counts.ended.Goals as goal

pub returns-clause-notes : goal.returns-clause-notes
returns-clause-notes c ns may h =
    let inside = subst (λ (ws : ByText Window). StandsAs ws ns) (sym (ap (λ (v : CountsView). v.windows) c.self.view_is)) h.windows in
    let same = ap (λ (v : CountsView). v.busy) c.self.view_is in
    keeps_ended c.args.self.now _ c.args.namespace.now ns (c.end_in.ensures.notes ns may.here inside) (omega (arith, same, c.saturating_sub-self-inside.ensures)) may h

pub returns-clause-room : goal.returns-clause-room
returns-clause-room c name n h = c.end_in.ensures.room name n (subst (λ (ws : ByText Window). HasRoomIn name n n ws) (sym (ap (λ (v : CountsView). v.windows) c.self.view_is)) h)

pub returns-clause-busy : goal.returns-clause-busy
returns-clause-busy c =
    let same = ap (λ (v : CountsView). v.busy) c.self.view_is in
    omega (arith, same, c.saturating_sub-self-inside.ensures)
