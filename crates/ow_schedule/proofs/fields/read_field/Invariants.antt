use Rattle.std.proofs.Common.{◌≡◌, map}
use Rattle.ow_schedule.specs.Fields.{seen}
use Rattle.ow_schedule.specs.Grammar.{field_of}
use Rattle.ow_schedule.proofs.Collects.{pieces, left_over, spans_of, after_read}
use Rattle.ow_schedule.proofs.fields.read_field.Given as goal

abbrev pub invariant-pieces : goal.invariant-pieces
invariant-pieces l =
    field_of l.low l.high l.text ≡ after_read (map seen l.spans.items) (spans_of l.low l.high (pieces l.left))

abbrev pub decreases-pieces : goal.decreases-pieces
decreases-pieces l = left_over l.left
