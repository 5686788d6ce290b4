-- Whether a value is the one that is wanted.
use Rattle.std.specs.Prelude.{Bool, false, Option, Some, None}
use Rattle.ow_value.specs.Value.{V}
use Rattle.ow_value.specs.SameValue.{same_value}

-- whether this is the value, where there is one
abbrev pub is_value : V → Option V → Bool
is_value v None = false
is_value v (Some w) = same_value v w
