use Rattle.std.proofs.Common.{Ok, Err, ap, subst, sym}
use Rattle.ow_value.specs.ByText.{ByText}
use Rattle.ow_tenant.specs.Windows.{StandsAs}
use Rattle.ow_tenant.specs.declared.window.Window.{Window}
use Rattle.ow_counts.proofs.Keeping.{window_admits_fire}
use Rattle.ow_counts.proofs.Noting.{latest_noted}
use Rattle.ow_counts.specs.View.{CountsView, notes_of}
use Rattle.ow_counts.proofs.counts.Counts.admit_fire.Goals as goal

pub returns-in-Ok : goal.returns-in-Ok
returns-in-Ok c T h up =
    let inside = subst (λ (ws : ByText Window). StandsAs ws (notes_of T)) (sym (ap (λ (v : CountsView). v.windows) c.self.view_is)) h.windows in
    window_admits_fire T c.args.namespace.now c.args.limits.now c.args.now (Ok c.in-Ok.field-0) (c.in-Ok.ensures (notes_of T) inside (latest_noted c.args.now T up))

pub returns-in-Err : goal.returns-in-Err
returns-in-Err c T h up =
    let inside = subst (λ (ws : ByText Window). StandsAs ws (notes_of T)) (sym (ap (λ (v : CountsView). v.windows) c.self.view_is)) h.windows in
    window_admits_fire T c.args.namespace.now c.args.limits.now c.args.now (Err c.in-Err.refusal) (c.in-Err.ensures (notes_of T) inside (latest_noted c.args.now T up))
