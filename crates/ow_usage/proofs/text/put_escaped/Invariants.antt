use Rattle.std.proofs.Common.{◌≡◌, ◌++◌, take}
use Rattle.ow_usage.specs.Text.{escaped}
use Rattle.ow_usage.proofs.text.put_escaped.Given as goal

abbrev pub invariant-loop-byte : goal.invariant-loop-byte
invariant-loop-byte l = l.out.items ≡ l.initial.out.items ++ escaped (take l.byte-index l.name)
