use Rattle.std.proofs.Common.{◌-◌, drop, length}
use Rattle.ow_counts.specs.View.{HasRoomOver}
use Rattle.ow_counts.proofs.Moving.{NotesFrom}
use Rattle.ow_counts.proofs.moves.note_all.Given as goal

-- there is room for the notes of the rest, and the counts are those of notes after which it is noted
abbrev pub invariant-loop-moved : goal.invariant-loop-moved
invariant-loop-moved l = record {
  room : HasRoomOver (length l.moves - l.moved-index) (drop l.moved-index l.moves) l.counts;
  noted : NotesFrom (drop l.moved-index l.moves) l.moves l.initial.counts l.counts;
}
