use Rattle.std.proofs.Common.{◌≡◌, length}
use Rattle.ow_value.specs.Value.{items_of}
use Rattle.ow_value.specs.View.{views}
use Rattle.ow_records.specs.NotesIn.{note}
use Rattle.ow_records.proofs.notes_in.note.Given as goal

abbrev pub invariant-loop-rest : goal.invariant-loop-rest
invariant-loop-rest l = note l.key (items_of (views l.items)) ≡ note l.key (items_of (views l.rest))

abbrev pub decreases-loop-rest : goal.decreases-loop-rest
decreases-loop-rest l = length l.rest
