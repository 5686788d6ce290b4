-- The values of TOML that are values of a body too.
use Rattle.std.specs.Prelude.{Bool, true, false, ◌&&◌}
use Rattle.ow_value.specs.Value as body
use Rattle.ow_value.specs.Value.{V}
use Rattle.toml.specs.Data.{Data, string, integer, float, boolean, datetime, array, table, Items, no_items, item, Members, no_members, member}

-- no float and no date or time is in it
abbrev mutual
  pub is_plain : Data → Bool
  is_plain (string s) = true
  is_plain (integer z) = true
  is_plain (float x) = false
  is_plain (boolean b) = true
  is_plain (datetime dt) = false
  is_plain (array ds) = are_plain_items ds
  is_plain (table ms) = are_plain_members ms

  pub are_plain_items : Items → Bool
  are_plain_items no_items = true
  are_plain_items (item d ds) = is_plain d && are_plain_items ds

  pub are_plain_members : Members → Bool
  are_plain_members no_members = true
  are_plain_members (member k d ms) = is_plain d && are_plain_members ms

-- the value of the same kind; floats, dates and times have none, and count as null
abbrev mutual
  pub value_of : Data → V
  value_of (string s) = body.text s
  value_of (integer z) = body.whole z
  value_of (float x) = body.null
  value_of (boolean b) = body.boolean b
  value_of (datetime dt) = body.null
  value_of (array ds) = body.list (items_value ds)
  value_of (table ms) = body.object (members_value ms)

  pub items_value : Items → body.Items
  items_value no_items = body.no_items
  items_value (item d ds) = body.item (value_of d) (items_value ds)

  pub members_value : Members → body.Members
  members_value no_members = body.no_members
  members_value (member k d ms) = body.member k (value_of d) (members_value ms)
