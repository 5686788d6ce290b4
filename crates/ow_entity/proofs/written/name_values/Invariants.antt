use Rattle.std.proofs.Common.{◌≡◌, map, take}
use Rattle.ow_value.specs.View.{views}
use Rattle.ow_entity.specs.Written.{name_value}
use Rattle.ow_entity.proofs.written.name_values.Given as goal

abbrev pub invariant-loop-name : goal.invariant-loop-name
invariant-loop-name l = views l.items.items ≡ map name_value (take l.name-index l.names)
