-- The first of what is found in a list.
use Rattle.std.specs.Prelude.{List, [], ◌∷◌, Option, None}
use Rattle.std.specs.Option.{option_or}

-- what is found at the first element at which something is
abbrev pub first_found : {X Y : Type 0} → (X → Option Y) → List X → Option Y
first_found find_at [] = None
first_found find_at (x ∷ xs) = option_or (find_at x) (first_found find_at xs)
