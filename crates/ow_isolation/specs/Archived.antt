-- Archived records are in no view.
use Rattle.std.specs.Prelude.{◌≡◌, ℕ, List, false, Option, Some}
use Rattle.std.specs.List.{AllByRecursion}
use Rattle.ow_floor.specs.Laws.{was_archived}
use Rattle.ow_hall.specs.History.{History, seen}
use Rattle.ow_reads.specs.View.{View}
use Rattle.ow_tenant.specs.Table.{Table}
use Rattle.ow_isolation.specs.Views.{view_after}

-- no record in the view of a key was archived by a sweep
abbrev pub ArchivedAreUnseen : Table → History → Type 0
ArchivedAreUnseen t B = (key : Option (List ℕ)) (W : View) → view_after t B key ≡ Some W → AllByRecursion (λ r. was_archived (seen t B).trace r ≡ false) W.records
