use Rattle.std.proofs.Common.{◌≡◌, ◌++◌, ◌≤◌, ℕ, List}
use Rattle.std.specs.List.{AllByRecursion}
use Rattle.std.specs.Map.{keys_of}
use Rattle.ow_usage.specs.Text.{ShowsAll, cell_line}
use Rattle.ow_usage.proofs.text.lines_of.Given as goal

abbrev pub invariant-loop-place : goal.invariant-loop-place
invariant-loop-place l = record {
  so_far : (text : List ℕ) → ShowsAll cell_line l.place-iterator text → ShowsAll cell_line l.cells (l.out.items ++ text);
  days : AllByRecursion (λ p. p.0 ≤ 2932896) (keys_of l.place-iterator);
}
