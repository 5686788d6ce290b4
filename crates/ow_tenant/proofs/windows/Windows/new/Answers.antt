use Rattle.std.proofs.Common.{refl, sym, subst, []}
use Rattle.ow_value.specs.ByText.{ByText}
use Rattle.ow_tenant.specs.Windows.{Stands, no_window, window_of}
use Rattle.ow_tenant.specs.declared.window.Window.{Window}
use Rattle.ow_tenant.proofs.WindowLaws.{Stands-none}
use Rattle.ow_tenant.proofs.windows.Windows.new.Goals as goal

pub returns : goal.returns
returns c namespace = subst (λ (ws : ByText Window). Stands namespace (window_of namespace ws) []) (sym c.new.ensures) (Stands-none namespace no_window refl refl refl)
