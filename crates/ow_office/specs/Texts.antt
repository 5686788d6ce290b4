-- The commands `--help` and `--version`: a text is written.
use Rattle.std.specs.Prelude.{ℕ, List}
use Rattle.ow_traits.specs.Streams.{Rose, Takes, TakesFront}
use Rattle.ow_command_line.specs.declared.status.Status.{Status}
use Rattle.ow_command_line.specs.declared.status.Status.TheVariants as statuses
use Rattle.ow_office.specs.Sides.{Sides, SinkView, TouchesOutput}

-- the text was written, or a write failed
abbrev pub Writes : List ℕ → SinkView → SinkView → Status → Type 0
Writes text before after statuses.Ok = Takes before.taken after.taken text
Writes text before after statuses.WriteFault = TakesFront before.taken after.taken text × Rose before.faults after.faults
Writes text before after other = ⊥

abbrev pub TellsText : List ℕ → Sides → Sides → Status → Type 0
TellsText text before after status = Writes text before.out after.out status × TouchesOutput before after
