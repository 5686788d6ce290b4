use Rattle.std.proofs.Common.{sym, subst}
use Rattle.ow_value.specs.ByText.{ByText, StandsAt}
use Rattle.ow_tenant.specs.declared.window.Window.{Window}
use Rattle.ow_tenant.proofs.WindowLaws.{closed-others, closed-window}
use Rattle.ow_tenant.proofs.windows.Windows.close.Goals as goal

pub returns-clause-window : goal.returns-clause-window
returns-clause-window c =
    let n = c.args.namespace.now in
    let here = subst (λ (ws : ByText Window). StandsAt n ws c.args.place) (sym c.self.view_is) c.requires in
    closed-window n c.self.inside.windows _ c.args.window (c.replace.ensures.new n here)

pub returns-clause-others : goal.returns-clause-others
returns-clause-others c =
    let n = c.args.namespace.now in
    let here = subst (λ (ws : ByText Window). StandsAt n ws c.args.place) (sym c.self.view_is) c.requires in
    closed-others n c.args.self.now c.self.inside.windows _ c.args.window c.self.view_is (c.replace.ensures.new n here)
