-- How annotations are shown: a list of `{"key": name, "value": value}`, in the order of the keys.
use Rattle.std.specs.Prelude.{ℕ, pos, Bool, true, false, List, [], ◌∷◌, ◌++◌, codes, Option, Some, None}
use Rattle.ow_value.specs.Value.{V, boolean, whole, text, list, items_of}
use Rattle.ow_names.specs.FullName.{local_text}
use Rattle.ow_names.specs.declared.full.FullName.{FullName}
use Rattle.ow_entity.specs.declared.bounds.Limits.{Limits}
use Rattle.ow_entity.specs.Pairs.{pair_value}
use Rattle.ow_entity.specs.Written.{limits_value}
use Rattle.ow_records.specs.declared.notes.ExecKind.{ExecKind}
use Rattle.ow_records.specs.declared.notes.Notes.{Notes}
use Rattle.ow_records.specs.Notes.{kind_text}

-- `namespace/name` or `namespace/package/name`
abbrev pub path_text : FullName → List ℕ
path_text n = n.namespace ++ 47 ∷ local_text n.package n.name

abbrev pub name_note : List ℕ → Option FullName → List V
name_note key None = []
name_note key (Some name) = pair_value (key, text (path_text name)) ∷ []

abbrev pub moment_note : List ℕ → Option ℕ → List V
moment_note key None = []
moment_note key (Some moment) = pair_value (key, whole (pos moment)) ∷ []

abbrev pub kind_note : Option ExecKind → List V
kind_note None = []
kind_note (Some kind) = pair_value (codes "kind", text (kind_text kind)) ∷ []

abbrev pub limits_note : Option Limits → List V
limits_note None = []
limits_note (Some limits) = pair_value (codes "limits", limits_value limits) ∷ []

abbrev pub word_note : List ℕ → List ℕ → Bool → List V
word_note key word false = []
word_note key word true = pair_value (key, text word) ∷ []

abbrev pub mark_note : List ℕ → Bool → List V
mark_note key false = []
mark_note key true = pair_value (key, boolean true) ∷ []

abbrev pub notes_value : Notes → V
notes_value n = list (items_of (
    name_note (codes "binding") n.binding
    ++ word_note (codes "causedBy") (codes "sequence") n.caused_by
    ++ moment_note (codes "initTime") n.init_time
    ++ kind_note n.kind
    ++ limits_note n.limits
    ++ name_note (codes "path") n.path
    ++ mark_note (codes "topmost") n.topmost
    ++ moment_note (codes "waitTime") n.wait_time))
