-- The members of an object as a list, and the value of a name in a value.
use Rattle.std.specs.Prelude.{◌≡◌, ℕ, List, [], ◌∷◌, Option, None, refl}
use Rattle.std.proofs.Common.{ap}
use Rattle.ow_value.specs.Value.{V, Pairs, null, boolean, whole, text, list, object, Members, no_members, member, members_of}
use Rattle.ow_value.specs.Find.{find}

abbrev pub pairs_in : Members → Pairs
pairs_in no_members = []
pairs_in (member k v ps) = (k, v) ∷ pairs_in ps

pub pairs_in-members_of : (ps : Pairs) → pairs_in (members_of ps) ≡ ps
pairs_in-members_of [] = refl
pairs_in-members_of (p ∷ ps) = ap (λ qs. p ∷ qs) (pairs_in-members_of ps)

abbrev pub field : List ℕ → V → Option V
field name null = None
field name (boolean b) = None
field name (whole z) = None
field name (text s) = None
field name (list vs) = None
field name (object ps) = find name (pairs_in ps)
