use Rattle.std.proofs.Common.{refl}
use Rattle.ow_tenant.proofs.WindowLaws.{Stands-kept}
use Rattle.ow_tenant.proofs.window.Window.reserve.Goals as goal

pub returns-in_err-reserve-clause-stands : goal.returns-in_err-reserve-clause-stands
returns-in_err-reserve-clause-stands c notes namespace h = Stands-kept namespace c.args.self.now _ notes c.reserve.ensures.moments refl refl h

pub returns-clause-stands : goal.returns-clause-stands
returns-clause-stands c notes namespace h = Stands-kept namespace c.args.self.now _ notes c.reserve.ensures.moments c.reserve-2.ensures.moments refl h
