use Rattle.std.proofs.Common.{Ok, Err, ap, arith, subst, sym}
use Rattle.ow_value.specs.ByText.{ByText}
use Rattle.ow_tenant.specs.Windows.{StandsAs}
use Rattle.ow_tenant.specs.declared.window.Window.{Window}
use Rattle.ow_counts.proofs.Keeping.{busy_refused, window_admits}
use Rattle.ow_counts.proofs.Noting.{latest_noted}
use Rattle.ow_counts.specs.View.{CountsView, notes_of}
use Rattle.ow_counts.proofs.counts.Counts.admit.Goals as goal

pub returns-then-self-ge-MOST_BUSY : goal.returns-then-self-ge-MOST_BUSY
returns-then-self-ge-MOST_BUSY c T h sound up =
    let same = ap (λ (v : CountsView). v.busy) c.self.view_is in
    busy_refused T c.args.self.now c.args.namespace.now c.args.limits.now c.args.now h sound (omega (arith, same, c.if-self-ge-MOST_BUSY.true))

pub returns-in-Ok : goal.returns-in-Ok
returns-in-Ok c T h sound up =
    let same = ap (λ (v : CountsView). v.busy) c.self.view_is in
    let inside = subst (λ (ws : ByText Window). StandsAs ws (notes_of T)) (sym (ap (λ (v : CountsView). v.windows) c.self.view_is)) h.windows in
    window_admits T c.args.self.now c.args.namespace.now c.args.limits.now c.args.now (Ok c.in-Ok.field-0) h sound (omega (arith, same, c.if-self-ge-MOST_BUSY.false)) (c.in-Ok.ensures (notes_of T) inside (latest_noted c.args.now T up))

pub returns-in-Err : goal.returns-in-Err
returns-in-Err c T h sound up =
    let same = ap (λ (v : CountsView). v.busy) c.self.view_is in
    let inside = subst (λ (ws : ByText Window). StandsAs ws (notes_of T)) (sym (ap (λ (v : CountsView). v.windows) c.self.view_is)) h.windows in
    window_admits T c.args.self.now c.args.namespace.now c.args.limits.now c.args.now (Err c.in-Err.refusal) h sound (omega (arith, same, c.if-self-ge-MOST_BUSY.false)) (c.in-Err.ensures (notes_of T) inside (latest_noted c.args.now T up))
