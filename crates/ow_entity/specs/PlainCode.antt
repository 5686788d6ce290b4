-- The form of plain code: a JSON text of an object whose one name is `cases`, a list of objects with just `when`, an object,
-- and `give`.
use Rattle.std.specs.Prelude.{◌==◌, ℕ, List, [], ◌∷◌, length, codes, if◌then◌else◌, Option, Some, None, option_map, option_and_then}
use Rattle.std.specs.Result.{result_ok}
use Rattle.ow_value.specs.Value.{V, Pairs, list, object, Items, no_items, item}
use Rattle.ow_value.specs.Field.{pairs_in, field}
use Rattle.ow_value.specs.Read.{reading}

-- the parameters that a case asks for, and what it gives
pub record Case : Type 0 where
  pub when : Pairs
  pub give : V

-- how many names an object has
abbrev pub name_count : V → ℕ
name_count (object ps) = length (pairs_in ps)
name_count v = 0

abbrev pub case_with : Option V → Option V → Option Case
case_with (Some (object ps)) (Some give) = Some (record { when = pairs_in ps; give = give })
case_with when give = None

abbrev pub case_of : V → Option Case
case_of v = if name_count v == 2 then case_with (field (codes "when") v) (field (codes "give") v) else None

abbrev pub cases_in : Items → Option (List Case)
cases_in no_items = Some []
cases_in (item v vs) = option_and_then (λ c. option_map (λ cs. c ∷ cs) (cases_in vs)) (case_of v)

abbrev pub cases_list : Option V → Option (List Case)
cases_list (Some (list vs)) = cases_in vs
cases_list o = None

abbrev pub cases_of : V → Option (List Case)
cases_of v = if name_count v == 1 then cases_list (field (codes "cases") v) else None

-- the cases of plain code, or none where the text has not its form
abbrev pub plain_cases : List ℕ → Option (List Case)
plain_cases code = option_and_then cases_of (result_ok (reading 100 code))
