use Rattle.std.proofs.Common.{subst, sym, ◌+◌}
use Rattle.ow_tenant.specs.Windows.{HasRoom, Stands}
use Rattle.ow_tenant.specs.declared.window.Window.{Window}
use Rattle.ow_tenant.proofs.WindowLaws.{all-invoked, keeps-then}
use Rattle.ow_tenant.proofs.windows.Windows.note.Goals as goal

pub returns-clause-notes : goal.returns-clause-notes
returns-clause-notes c notes le h =
    let n = c.args.namespace.now in
    let keep = keeps-then n c.args.self.now c.open-place.new.self c.close.new.self c.open-place.ensures.others c.close.ensures.others in
    let before = subst (λ (w : Window). Stands n w notes) (sym c.open-place.ensures.window) (h n) in
    all-invoked n c.args.self.now c.close.new.self _ c.args.at notes keep c.close.ensures.window (c.note.ensures.stands notes n le before) h

pub returns-clause-room : goal.returns-clause-room
returns-clause-room c n f h =
    subst (HasRoom n f) (sym c.close.ensures.window) (c.note.ensures.room n f (subst (HasRoom (n + 1) f) (sym c.open-place.ensures.window) h))
