-- What a body calls the kinds of actions, and their code.
use Rattle.std.specs.Prelude.{ℕ, List, [], Bool, true, false, codes}
use Rattle.ow_names.specs.declared.full.FullName.{FullName}
use Rattle.ow_entity.specs.declared.exec.Exec.{Exec}
use Rattle.ow_entity.specs.declared.exec.Exec.TheVariants.{Plain, Program, Sequence}

abbrev pub exec_kind : Exec → List ℕ
exec_kind (Plain code) = codes "plain:1"
exec_kind (Program code) = codes "program:1"
exec_kind (Sequence components) = codes "sequence"

abbrev pub exec_code : Exec → List ℕ
exec_code (Plain code) = code
exec_code (Program code) = code
exec_code (Sequence components) = []

-- the actions that a sequence calls, one after another
abbrev pub components_of : Exec → List FullName
components_of (Sequence components) = components
components_of exec = []

abbrev pub is_sequence : Exec → Bool
is_sequence (Sequence components) = true
is_sequence exec = false
