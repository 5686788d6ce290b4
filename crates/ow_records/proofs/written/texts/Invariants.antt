use Rattle.std.proofs.Common.{◌≡◌, map, take}
use Rattle.ow_value.specs.Value.{text}
use Rattle.ow_value.specs.View.{views}
use Rattle.ow_records.proofs.written.texts.Given as goal

abbrev pub invariant-loop-line : goal.invariant-loop-line
invariant-loop-line l = views l.values.items ≡ map text (take l.line-index l.line-items)
