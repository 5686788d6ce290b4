-- What contracts see of a field.
pub use Rattle.ow_schedule.specs.Steps.{Steps, is_in_span}
use Rattle.std.specs.Prelude.{ℕ, Bool, List}
use Rattle.std.specs.List.{list_any}
use Rattle.ow_schedule.specs.declared.span.Span.{Span}

abbrev pub seen : Span → Steps
seen s = record { first = s.first; last = s.last; step = s.step }

-- one of them has the number
abbrev pub has : List Span → ℕ → Bool
has spans n = list_any (λ s. is_in_span (seen s) n) spans
