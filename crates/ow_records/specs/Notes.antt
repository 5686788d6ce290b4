-- The kinds of code, as annotations name them.
use Rattle.std.specs.Prelude.{ℕ, List, codes}
use Rattle.ow_entity.specs.declared.exec.Exec.{Exec}
use Rattle.ow_entity.specs.declared.exec.Exec.TheVariants as execs
use Rattle.ow_records.specs.declared.notes.ExecKind.{ExecKind}
use Rattle.ow_records.specs.declared.notes.ExecKind.TheVariants.{Plain, Program, Sequence}

abbrev pub kind_of : Exec → ExecKind
kind_of (execs.Plain code) = Plain
kind_of (execs.Program code) = Program
kind_of (execs.Sequence components) = Sequence

abbrev pub kind_text : ExecKind → List ℕ
kind_text Plain = codes "plain:1"
kind_text Program = codes "program:1"
kind_text Sequence = codes "sequence"
