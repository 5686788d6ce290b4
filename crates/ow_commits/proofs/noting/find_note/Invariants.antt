use Rattle.std.proofs.Common.{◌≡◌, drop}
use Rattle.ow_commits.specs.Noting.{note_of}
use Rattle.ow_commits.proofs.noting.find_note.Given as goal

abbrev pub invariant-loop-note : goal.invariant-loop-note
invariant-loop-note l = note_of l.key (drop l.note-index l.notes) ≡ note_of l.key l.notes
