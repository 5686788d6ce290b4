use Rattle.std.proofs.Common.{◌≡◌, max, drop}
use Rattle.ow_keep.specs.Moments.{greatest_note}
use Rattle.ow_keep.proofs.moments.greatest_note.Given as goal

abbrev pub invariant-loop-note : goal.invariant-loop-note
invariant-loop-note l = max l.greatest (greatest_note (drop l.note-index l.notes)) ≡ greatest_note l.notes
