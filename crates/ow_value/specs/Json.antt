-- The values that have a text: each `Val` is one.
use Rattle.std.specs.Str.{IsUtf8}
use Rattle.ow_value.specs.Value.{V, Pairs, null, boolean, whole, text, list, object, Items, no_items, item, Members, no_members, member, members_of, AreParams}
use Rattle.ow_value.specs.Field.{pairs_in}
use Rattle.ow_value.specs.Whole.{IsWhole}

-- the integers have 64 bits, the texts are UTF-8, and the names of an object rise
abbrev mutual
  pub IsValue : V → Type 0
  IsValue null = Unit {0}
  IsValue (boolean b) = Unit {0}
  IsValue (whole z) = IsWhole z
  IsValue (text s) = IsUtf8 s
  IsValue (list vs) = AreValues vs
  IsValue (object ps) = AreParams (pairs_in ps) × AreMembers ps

  pub AreValues : Items → Type 0
  AreValues no_items = Unit {0}
  AreValues (item v vs) = IsValue v × AreValues vs

  pub AreMembers : Members → Type 0
  AreMembers no_members = Unit {0}
  AreMembers (member k v ps) = IsUtf8 k × IsValue v × AreMembers ps

-- the names rise, and each is UTF-8 and has a value
pub record IsObject (ps : Pairs) : Type 0 where
  pub rises : AreParams ps
  pub values : AreMembers (members_of ps)
