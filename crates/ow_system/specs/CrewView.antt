-- A crew as its callers see it.
use Rattle.std.specs.Prelude.{ℕ, List, Bool}

-- how many calls got no thread, and the tasks that were started, each with whether it is joined
pub record CrewView (T : Type 0) : Type 0 where
  pub faults : ℕ
  pub tasks : List (T × Bool)
