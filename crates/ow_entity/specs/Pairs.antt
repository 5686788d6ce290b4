-- Pairs as a body lists them.
use Rattle.std.specs.Prelude.{◌≡◌, ℕ, List, [], ◌∷◌, fold, map, length, codes, nat_lt, if◌then◌else◌, Option, Some, None, option_map, option_and_then, Result, Ok, Err}
use Rattle.ow_entity.specs.Chain.{result_map}
use Rattle.ow_value.specs.Value.{V, Pairs, text, list, object, Items, no_items, item, items_of, members_of}
use Rattle.ow_value.specs.Field.{field}
use Rattle.ow_value.specs.Find.{with_pair}
use Rattle.ow_value.specs.declared.measure.TheConstants.{MEGABYTE}
use Rattle.ow_value.specs.Text.{compact}
use Rattle.ow_value.specs.declared.val.Val.{Val}
use Rattle.ow_value.specs.declared.val.Val.TheVariants.{Object}
use Rattle.ow_entity.specs.FieldName.{field_name}
use Rattle.ow_entity.specs.declared.field_name.FieldName.{FieldName}
use Rattle.ow_entity.specs.declared.refusal.EntityRefusal.{EntityRefusal}
use Rattle.ow_entity.specs.declared.refusal.EntityRefusal.TheVariants.{WrongType, TooLarge}

-- `{"key": text, "value": v}`
abbrev pub pair_value : List ℕ × V → V
pair_value p = object (members_of ((codes "key", text p.0) ∷ (codes "value", p.1) ∷ []))

abbrev pub pairs_value : Pairs → V
pairs_value ps = list (items_of (map pair_value ps))

abbrev pub pair_with : Option V → Option V → Option (List ℕ × V)
pair_with (Some (text key)) (Some v) = Some (key, v)
pair_with key v = None

-- other names are ignored
abbrev pub pair_of : V → Option (List ℕ × V)
pair_of v = pair_with (field (codes "key") v) (field (codes "value") v)

-- the pairs of a list, or none where an item is no pair
abbrev pub pairs_listed : Items → Option Pairs
pairs_listed no_items = Some []
pairs_listed (item v vs) = option_and_then (λ p. option_map (λ ps. p ∷ ps) (pairs_listed vs)) (pair_of v)

-- the pairs put in one after another, so that of equal keys the last one is kept
abbrev pub with_pairs : Pairs → Pairs → Pairs
with_pairs = fold (λ ps p. with_pair ps p.0 p.1)

-- how many bytes the object of the pairs has
abbrev pub pairs_size : Pairs → ℕ
pairs_size ps = length (compact (object (members_of ps)))

abbrev pub measured_pairs : Pairs → Result Pairs EntityRefusal
measured_pairs ps = if nat_lt MEGABYTE (pairs_size ps) then Err TooLarge else Ok ps

abbrev pub pairs_of_list : FieldName → Option Pairs → Result (Option Pairs) EntityRefusal
pairs_of_list name None = Err (WrongType name)
pairs_of_list name (Some ps) = result_map Some (measured_pairs ps)

abbrev pub pairs_given : FieldName → Option V → Result (Option Pairs) EntityRefusal
pairs_given name None = Ok None
pairs_given name (Some (list vs)) = pairs_of_list name (option_map (with_pairs []) (pairs_listed vs))
pairs_given name (Some v) = Err (WrongType name)

-- the pairs that a field of the body lists, if it is there
abbrev pub pairs_field : FieldName → V → Result (Option Pairs) EntityRefusal
pairs_field name body = pairs_given name (field (field_name name) body)

-- ---- for private clauses

abbrev pub HasPairs : Val → Type 0
HasPairs v = (ps : Pairs) × (v ≡ Object ps)
