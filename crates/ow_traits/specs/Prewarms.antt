-- Containers that are wanted ahead of runs.
use Rattle.std.specs.Prelude.{◌≤◌, List}
use Rattle.std.specs.List.{AllByRecursion}
use Rattle.ow_traits.specs.declared.prewarms.Prewarm.{Prewarm}

-- the memory of each is one that an action may have, in MB
abbrev pub AreWantsSized : List Prewarm → Type 0
AreWantsSized wants = AllByRecursion (λ w. (128 ≤ w.memory) × (w.memory ≤ 512)) wants
