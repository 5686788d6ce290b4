use Rattle.std.proofs.Common.{refl}
use Rattle.ow_tenant.proofs.WindowLaws.{Stands-ended}
use Rattle.ow_tenant.proofs.window.Window.end.Goals as goal

pub returns-clause-stands : goal.returns-clause-stands
returns-clause-stands c notes namespace h = Stands-ended namespace c.args.self.now _ notes refl refl c.requires refl h
