-- What the steps of sequences and conductors have in common.
use Rattle.std.specs.Prelude.{Bool, List, [], ◌∷◌, nat_lt, if◌then◌else◌, Option, Some, None}
use Rattle.ow_value.specs.Find.{merge}
use Rattle.ow_value.specs.Size.{megabyte}
use Rattle.ow_value.specs.Value.{Pairs}
use Rattle.ow_value.specs.declared.val.Val.{Val}
use Rattle.ow_value.specs.declared.val.Val.TheVariants.{Object}
use Rattle.ow_entity.specs.Pairs.{pairs_size}

-- the last of a list
abbrev pub last_of : {X : Type 0} → List X → Option X
last_of [] = None
last_of (x ∷ []) = Some x
last_of (x ∷ y ∷ xs) = last_of (y ∷ xs)

-- more than 1 MB
unfoldable pub is_oversized : Pairs → Bool
is_oversized ps = nat_lt megabyte (pairs_size ps)

-- what is given over these, unless it has too many bytes
abbrev pub fitting : Pairs → Pairs → Option Pairs
fitting own given = if is_oversized (merge own given) then None else Some (merge own given)

-- ---- for private clauses

-- the members of an object
abbrev pub pairs_of : Val → Option Pairs
pairs_of (Object pairs) = Some pairs
pairs_of value = None
