use Rattle.std.proofs.Common.{◌≡◌, map, take}
use Rattle.ow_records.specs.Id.{id_text}
use Rattle.ow_records.proofs.logs.id_texts.Given as goal

abbrev pub invariant-loop-id : goal.invariant-loop-id
invariant-loop-id l = l.lines.items ≡ map id_text (take l.id-index l.ids)
