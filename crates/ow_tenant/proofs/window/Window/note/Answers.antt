use Rattle.std.proofs.Common.{refl}
use Rattle.ow_tenant.proofs.WindowLaws.{Stands-invoked}
use Rattle.ow_tenant.proofs.window.Window.note.Goals as goal

pub returns-clause-stands : goal.returns-clause-stands
returns-clause-stands c notes namespace le h =
    let e = c.add.ensures in
    Stands-invoked namespace c.args.self.now _ c.args.at notes le (record { counts = e.counts; order = e.order; latest = e.latest }) refl refl h
