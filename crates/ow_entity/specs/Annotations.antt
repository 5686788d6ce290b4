-- When an annotation is set.
use Rattle.std.specs.Prelude.{ℕ, zero, pos, List, [], Bool, true, false, not, ◌&&◌, codes, Option, Some, None}
use Rattle.ow_value.specs.Value.{V, Pairs, null, boolean, whole, text, list, object}
use Rattle.ow_value.specs.Find.{find}
use Rattle.ow_entity.specs.Exec.{is_sequence}
use Rattle.ow_entity.specs.declared.actions.Action.{Action}

-- present, and none of null, false, 0 and the empty text
abbrev pub counts : Option V → Bool
counts None = false
counts (Some null) = false
counts (Some (boolean b)) = b
counts (Some (whole (pos zero))) = false
counts (Some (whole z)) = true
counts (Some (text [])) = false
counts (Some (text s)) = true
counts (Some (list vs)) = true
counts (Some (object ps)) = true

abbrev pub is_set : Pairs → List ℕ → Bool
is_set notes name = counts (find name notes)

-- no sequence is one
abbrev pub is_conductor : Action → Bool
is_conductor a = not (is_sequence a.exec) && is_set a.notes (codes "conductor")
