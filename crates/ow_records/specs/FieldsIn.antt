-- What the fields of a value are, as texts, numbers, ids, names and lists. What is read here may be written otherwise.
use Rattle.std.specs.Prelude.{◌^◌, ◌∷◌, [], ℕ, List, drop, codes, nat_lt, if◌then◌else◌, option_map, option_and_then, Option, Some, None}
use Rattle.std.specs.Result.{result_ok}
use Rattle.ow_value.specs.Value.{V, Pairs, whole, text, list, object, Items, no_items, item}
use Rattle.ow_value.specs.Decimal.{digits_of}
use Rattle.ow_value.specs.Field.{field, pairs_in}
use Rattle.ow_value.specs.Whole.{natural}
use Rattle.ow_names.specs.Name.{first_fault}
use Rattle.ow_names.specs.Path.{of_full_text}
use Rattle.ow_names.specs.declared.full.FullName.{FullName}
use Rattle.ow_names.specs.declared.refusal.NameRefusal.{NameRefusal}
use Rattle.ow_records.specs.Id.{id_of}
use Rattle.ow_records.specs.declared.ids.Id.{Id}

-- ---- of a value

abbrev pub as_text : V → Option (List ℕ)
as_text (text s) = Some s
as_text v = None

abbrev pub as_number : V → Option ℕ
as_number (whole z) = natural z
as_number v = None

abbrev pub as_object : V → Option Pairs
as_object (object ps) = Some (pairs_in ps)
as_object v = None

abbrev pub lines_listed : Items → Option (List (List ℕ))
lines_listed no_items = Some []
lines_listed (item v vs) = option_and_then (λ s. option_map (λ ss. s ∷ ss) (lines_listed vs)) (as_text v)

-- the texts of a list
abbrev pub as_lines : V → Option (List (List ℕ))
as_lines (list vs) = lines_listed vs
as_lines v = None

abbrev pub as_id : V → Option Id
as_id v = option_and_then id_of (as_text v)

abbrev pub unless_fault : Option NameRefusal → List ℕ → Option (List ℕ)
unless_fault None s = Some s
unless_fault (Some e) s = None

abbrev pub name_of : List ℕ → Option (List ℕ)
name_of s = unless_fault (first_fault s) s

-- a name of one part
abbrev pub as_name : V → Option (List ℕ)
as_name v = option_and_then name_of (as_text v)

-- the name of `namespace/name` or `namespace/package/name`
abbrev pub path_of : List ℕ → Option FullName
path_of s = result_ok (of_full_text (47 ∷ s))

abbrev pub as_path : V → Option FullName
as_path v = option_and_then path_of (as_text v)

abbrev pub small_version : ℕ → Option ℕ
small_version n = if nat_lt n (2 ^ 32) then Some n else None

-- the number n of `0.0.n`; the four bytes before n are not checked
abbrev pub version_of : List ℕ → Option ℕ
version_of s = option_and_then small_version (digits_of (drop 4 s))

abbrev pub as_version : V → Option ℕ
as_version v = option_and_then version_of (as_text v)

-- ---- of a field

abbrev pub text_in : List ℕ → V → Option (List ℕ)
text_in name v = option_and_then as_text (field name v)

abbrev pub number_in : List ℕ → V → Option ℕ
number_in name v = option_and_then as_number (field name v)

abbrev pub id_in : List ℕ → V → Option Id
id_in name v = option_and_then as_id (field name v)

abbrev pub name_in : List ℕ → V → Option (List ℕ)
name_in name v = option_and_then as_name (field name v)

abbrev pub path_in : List ℕ → V → Option FullName
path_in name v = option_and_then as_path (field name v)

abbrev pub version_in : List ℕ → V → Option ℕ
version_in name v = option_and_then as_version (field name v)

abbrev pub cause_given : Option V → Option (Option Id)
cause_given None = Some None
cause_given (Some v) = option_map Some (as_id v)

-- an id, or that none is there
abbrev pub cause_in : V → Option (Option Id)
cause_in v = cause_given (field (codes "cause") v)
