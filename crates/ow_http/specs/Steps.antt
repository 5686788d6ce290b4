-- One reading after another, up to the first refusal.
use Rattle.std.specs.Prelude.{Result}
use Rattle.ow_entity.specs.Chain.{and_then}

infixl 10 ◌>>=◌
abbrev pub ◌>>=◌ : {A B E : Type 0} → Result A E → (A → Result B E) → Result B E
x >>= f = and_then x f
