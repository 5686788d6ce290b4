-- Which value a text is, over what `serde_json` reads.
use Rattle.std.specs.Prelude.{◌≡◌, ℕ, List, nat_le, if◌then◌else◌, Option, Some, None, option_map, option_and_then, Result, Ok, Err}
use Rattle.std.specs.Str.{is_utf8, IsUtf8}
use Rattle.serde_json.specs.Data as json
use Rattle.serde_json.specs.Find.{as_integer}
use Rattle.serde_json.specs.Read.{read}
use Rattle.ow_value.specs.Value.{V, null, boolean, whole, text, list, object, Items, no_items, item, Members, no_members, member, depth}
use Rattle.ow_value.specs.declared.reader.ValueRefusal.{ValueRefusal}
use Rattle.ow_value.specs.declared.reader.ValueRefusal.TheVariants.{NotJson, NotWhole, TooDeep}

-- the value, unless a number in it is no integer of 64 bits
abbrev mutual
  pub whole_of : json.Data → Option V
  whole_of json.null = Some null
  whole_of (json.boolean b) = Some (boolean b)
  whole_of (json.number n) = option_map whole (as_integer n)
  whole_of (json.string s) = Some (text s)
  whole_of (json.array ds) = option_map list (whole_items ds)
  whole_of (json.object ms) = option_map object (whole_members ms)

  pub whole_items : json.Items → Option Items
  whole_items json.no_items = Some no_items
  whole_items (json.item d ds) = option_and_then (λ v. option_map (item v) (whole_items ds)) (whole_of d)

  pub whole_members : json.Members → Option Members
  whole_members json.no_members = Some no_members
  whole_members (json.member k d ms) = option_and_then (λ v. option_map (member k v) (whole_members ms)) (whole_of d)

-- what `serde_json` reads
abbrev pub json_of : List ℕ → Option json.Data
json_of s = if is_utf8 s then read s else None

abbrev within : ℕ → V → Result V ValueRefusal
within limit v = if nat_le (depth v) limit then Ok v else Err TooDeep

abbrev whole_within : ℕ → Option V → Result V ValueRefusal
whole_within limit None = Err NotWhole
whole_within limit (Some v) = within limit v

abbrev of_data : ℕ → Option json.Data → Result V ValueRefusal
of_data limit None = Err NotJson
of_data limit (Some d) = whole_within limit (whole_of d)

-- the value of a text, nested no deeper than the limit, or the first thing wrong with it
abbrev pub reading : ℕ → List ℕ → Result V ValueRefusal
reading limit s = of_data limit (json_of s)

-- ---- for private clauses

-- the text is that value, whatever its depth
pub record IsReadAs (s : List ℕ) (v : V) : Type 0 where
  pub parsed : json.Data
  pub utf8 : IsUtf8 s
  pub reads : read s ≡ Some parsed
  pub whole : whole_of parsed ≡ Some v
