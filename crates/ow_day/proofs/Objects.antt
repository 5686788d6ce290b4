-- The members of an object as parameters.
use Rattle.std.proofs.Common.{◌≡◌}
use Rattle.ow_value.specs.Value.{Pairs, members_of}
use Rattle.ow_value.specs.Field.{pairs_in, pairs_in-members_of}

pub pairs_of_object : (ps : Pairs) → pairs_in (members_of ps) ≡ ps
pairs_of_object ps = pairs_in-members_of ps
