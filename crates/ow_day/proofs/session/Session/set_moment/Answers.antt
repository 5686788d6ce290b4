use Rattle.std.proofs.Common.{arith, refl}
use Rattle.ow_day.proofs.Rising.{rose_none}
use Rattle.ow_day.proofs.session.Session.set_moment.Goals as goal

pub returns : goal.returns
returns g c = (0, ((refl, refl, refl), rose_none _ _ (omega arith)))
