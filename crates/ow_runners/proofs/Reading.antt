-- Reading cases, one after another.
use Rattle.std.proofs.Common.{◌≡◌, length, ap}
use Rattle.ow_value.specs.Value.{Pairs, object, members_of}
use Rattle.ow_value.specs.Field.{pairs_in, pairs_in-members_of}
use Rattle.ow_entity.specs.PlainCode.{name_count}

pub name_count_of_object : (ps : Pairs) → name_count (object (members_of ps)) ≡ length ps
name_count_of_object ps = ap length (pairs_in-members_of ps)

pub members_back : (ps : Pairs) → pairs_in (members_of ps) ≡ ps
members_back ps = pairs_in-members_of ps
