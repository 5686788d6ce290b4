-- What tables are seen as, and what a change that was made ready is seen as.
use Rattle.std.specs.Prelude.{ℕ, Bool, List}
use Rattle.ow_entity.specs.declared.rows.Row.{Row}

pub record Contents : Type 0 where
  -- in the order of their kinds and full texts
  pub rows : List Row
  -- the number of further rows that there is memory for
  pub room : ℕ

pub record Change : Type 0 where
  pub row : Row
  -- whether the row is to be taken out
  pub removes : Bool
