use Rattle.std.proofs.Common.{◌+◌, ap, subst, sym, arith}
use Rattle.ow_value.specs.ByText.{ByText}
use Rattle.ow_tenant.specs.Windows.{HasRoomIn, StandsAs, window_of}
use Rattle.ow_tenant.specs.declared.window.Window.{Window}
use Rattle.ow_counts.specs.View.{CountsView}
use Rattle.ow_counts.proofs.Keeping.{keeps_fired}
use Rattle.ow_counts.proofs.Moving.{all_rooms, fewer_invocations, without_invocations}
use Rattle.ow_counts.proofs.counts.Counts.fired.Goals as goal

pub note_fire-requires : goal.note_fire-requires
note_fire-requires c =
    without_invocations 1 (window_of c.args.namespace.now c.self.inside.windows) (subst (λ (ws : ByText Window). HasRoomIn c.args.namespace.now 1 1 ws) (sym (ap (λ (v : CountsView). v.windows) c.self.view_is)) c.requires)

pub returns-clause-notes : goal.returns-clause-notes
returns-clause-notes c ns later h =
    let inside = subst (λ (ws : ByText Window). StandsAs ws ns) (sym (ap (λ (v : CountsView). v.windows) c.self.view_is)) h.windows in
    keeps_fired c.args.self.now _ c.args.namespace.now c.args.at ns (c.note_fire.ensures.notes ns later inside) (ap (λ (v : CountsView). v.busy) c.self.view_is) h

pub returns-clause-room : goal.returns-clause-room
returns-clause-room c name n h =
    let inside = subst (λ (ws : ByText Window). HasRoomIn name (n + 1) (n + 1) ws) (sym (ap (λ (v : CountsView). v.windows) c.self.view_is)) h in
    all_rooms c.args.namespace.now c.self.inside.windows c.note_fire.new.self (n + 1) n (omega arith) c.note_fire.ensures.others
    (λ room. fewer_invocations n (window_of c.args.namespace.now c.note_fire.new.self) (c.note_fire.ensures.room (n + 1) n room)) name inside

pub returns-clause-busy : goal.returns-clause-busy
returns-clause-busy c = ap (λ (v : CountsView). v.busy) c.self.view_is
