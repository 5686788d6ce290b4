-- Rows that are put one after another.
use Rattle.std.proofs.Common.{◌≡◌, List, [], ◌∷◌, map, refl}
use Rattle.ow_entity.specs.declared.rows.Row.{Row}
use Rattle.ow_tables.specs.Rows.{resumed, with_row}
use Rattle.ow_decide.specs.Asking.{put_of}
use Rattle.ow_decide.specs.Decision.{all_changed}

-- to put rows is to make the changes that put them
pub resumed_puts : (rs xs : List Row) → resumed rs xs ≡ all_changed (map put_of rs) xs
resumed_puts [] xs = refl
resumed_puts (r ∷ rs) xs = resumed_puts rs (with_row r xs)
