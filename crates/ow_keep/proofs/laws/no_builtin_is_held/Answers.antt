use Rattle.ow_keep.proofs.BuiltinLaws.{not_builtin_held}
use Rattle.ow_keep.proofs.laws.no_builtin_is_held.Goals as goal

pub returns : goal.returns
returns c = not_builtin_held
