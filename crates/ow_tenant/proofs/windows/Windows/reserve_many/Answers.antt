use Rattle.std.proofs.Common.{subst, sym}
use Rattle.ow_tenant.specs.Windows.{HasRoom, Stands}
use Rattle.ow_tenant.specs.declared.window.Window.{Window}
use Rattle.ow_tenant.proofs.WindowLaws.{all-kept, keeps-then}
use Rattle.ow_tenant.proofs.windows.Windows.reserve_many.Goals as goal

pub returns-clause-notes : goal.returns-clause-notes
returns-clause-notes c notes h =
    let n = c.args.namespace.now in
    let keep = keeps-then n c.args.self.now c.open-place.new.self c.close.new.self c.open-place.ensures.others c.close.ensures.others in
    let before = subst (λ (w : Window). Stands n w notes) (sym c.open-place.ensures.window) (h n) in
    all-kept n c.args.self.now c.close.new.self _ notes keep c.close.ensures.window (c.reserve-reserved.ensures.stands notes n before) h

pub returns-clause-keeps : goal.returns-clause-keeps
returns-clause-keeps c n f h =
    subst (HasRoom n f) (sym c.close.ensures.window) (c.reserve-reserved.ensures.keeps n f (subst (HasRoom n f) (sym c.open-place.ensures.window) h))
