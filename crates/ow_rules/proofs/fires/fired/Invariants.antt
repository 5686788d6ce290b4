use Rattle.std.proofs.Common.{◌≡◌, take}
use Rattle.std.specs.List.{flat_map}
use Rattle.ow_rules.specs.Fired.{one_of}
use Rattle.ow_rules.proofs.fires.fired.Given as goal

abbrev pub invariant-loop-row : goal.invariant-loop-row
invariant-loop-row l = l.rules.items ≡ flat_map (one_of l.trigger) (take l.row-index l.row-items)
