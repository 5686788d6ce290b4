-- The place of a name among members whose names rise, for private clauses.
use Rattle.std.specs.Prelude.{◌≡◌, ◌≤◌, ◌<◌, ℕ, List, length}
use Rattle.std.specs.List.{HoldsAt}
use Rattle.std.specs.List.Sorted.{IsPartitionPoint}
use Rattle.std.specs.declared.cmp.Ordering.TheVariants.{Less, Equal, Greater}
use Rattle.ow_value.specs.Value.{text_cmp}
use Rattle.ow_value.specs.declared.val.Pair.{Pair}

abbrev pub IsPlace : List Pair → List ℕ → ℕ → Type 0
IsPlace ps name i = (i < length ps) × HoldsAt (λ p. text_cmp p.name name ≡ Equal) ps i

-- where it would be inserted: after all names below it, and before all above it
abbrev pub IsGap : List Pair → List ℕ → ℕ → Type 0
IsGap ps name i = (i ≤ length ps) × IsPartitionPoint (λ p. text_cmp p.name name ≡ Less) (λ p. text_cmp p.name name ≡ Greater) ps i
