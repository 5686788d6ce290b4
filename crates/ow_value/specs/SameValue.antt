-- Whether two values are equal.
use Rattle.std.specs.Prelude.{◌&&◌, Bool, true, false}
use Rattle.std.specs.Ordering.{int_eq}
use Rattle.std.specs.Str.{bytes_eq}
use Rattle.std.proofs.Math.Bool.{beq}
use Rattle.ow_value.specs.Value.{V, null, boolean, whole, text, list, object, Items, no_items, item, Members, no_members, member}

abbrev mutual
  pub same_value : V → V → Bool
  same_value null null = true
  same_value (boolean a) (boolean b) = beq a b
  same_value (whole a) (whole b) = int_eq a b
  same_value (text a) (text b) = bytes_eq a b
  same_value (list a) (list b) = same_items a b
  same_value (object a) (object b) = same_members a b
  same_value a b = false

  pub same_items : Items → Items → Bool
  same_items no_items no_items = true
  same_items (item v vs) (item w ws) = same_value v w && same_items vs ws
  same_items a b = false

  pub same_members : Members → Members → Bool
  same_members no_members no_members = true
  same_members (member j v ms) (member k w ns) = bytes_eq j k && same_value v w && same_members ms ns
  same_members a b = false
