-- A list that only grows.
use Rattle.std.specs.Prelude.{ℕ, List}

-- its items, the oldest first, and for how many more there is room
pub record ListedView (T : Type 0) : Type 0 where
  pub items : List T
  pub room : ℕ
