-- Which parameters of an effective action a call can't give.
use Rattle.std.specs.Prelude.{◌&&◌, ◌||◌, ℕ, Bool, true, false, List, find, filter, codes, Option, Some, None}
use Rattle.std.specs.Map.{keys_of}
use Rattle.ow_value.specs.Value.{V, Pairs, null}
use Rattle.ow_value.specs.Find as values
use Rattle.ow_entity.specs.Annotations.{is_set}
use Rattle.ow_packages.specs.declared.effective_action.Effective.{Effective}

-- there is a value, and it isn't null
abbrev pub has_value : Option V → Bool
has_value None = false
has_value (Some null) = false
has_value (Some v) = true

-- a parameter that has a value, of a final action or in a web request
abbrev pub is_fixed : Effective → Bool → List ℕ → Bool
is_fixed e web name = (web || is_set e.action.notes (codes "final")) && has_value (values.find name e.params)

abbrev pub fixed_names : Effective → Bool → List (List ℕ)
fixed_names e web = filter (is_fixed e web) (keys_of e.params)

-- the first given name that is fixed
abbrev pub first_fixed : Effective → Pairs → Bool → Option (List ℕ)
first_fixed e given web = find (is_fixed e web) (keys_of given)
